-- What bits of a complement or of a choice are made of, as the code finds it.
use Rattle.std.specs.Prelude.{◌≡◌, ℕ, Option, Some, None}
use Rattle.bv_dag.specs.Graphs.{Graph, width_of}
use Rattle.bv_dag.specs.declared.nodes.Node.{Node}
use Rattle.bv_dag.specs.declared.nodes.Node.TheVariants.{Extract}
use Rattle.term_trees.specs.Trees.{Tree, Part, tree_of}
use Rattle.term_simplify.specs.Plain.{complement_of, inner_part, lifted, plain, plain_choice}
use Rattle.term_simplify.specs.Plans.{IsSpan}
use Rattle.term_simplify.specs.declared.lifting.Lifting.{Lifting}
use Rattle.term_simplify.specs.declared.lifting.Lifting.TheVariants.{OfComplement, OfChoice}
use Rattle.term_simplify.specs.declared.parts.Span.{Span}

-- the bits that a node is
abbrev pub node_span : Node → Option Span
node_span (Extract high low a) = Some (record { high = high; low = low; operand = a })
node_span n = None

-- bits as they stand
abbrev pub part_tree : Graph → Span → Tree
part_tree graph span = Part span.high span.low (tree_of graph span.operand)

-- bits through so many levels
abbrev pub lifted_at : Graph → (levels : ℕ) → Span → Tree
lifted_at graph levels span =
    lifted levels (inner_part span.high span.low (tree_of graph span.operand))

abbrev pub lifting_tree : Graph → (levels : ℕ) → Lifting → Tree
lifting_tree graph levels (OfComplement under) = complement_of (lifted_at graph levels under)
lifting_tree graph levels (OfChoice c a b) =
    plain_choice (tree_of graph c) (lifted_at graph levels a) (lifted_at graph levels b)

-- the same bits of two terms that are chosen from
pub record AreChosen (graph : Graph) (c : ℕ) (a b : Span) : Type 0 where
  pub condition : width_of graph c ≡ 1
  pub first : IsSpan graph a
  pub second : IsSpan graph b
  pub high : a.high ≡ b.high
  pub low : a.low ≡ b.low

abbrev pub IsLifting : Graph → Lifting → Type 0
IsLifting graph (OfComplement under) = IsSpan graph under
IsLifting graph (OfChoice c a b) = AreChosen graph c a b

-- the tree at its own width of a node, where bits are not taken through complements and choices
abbrev pub unlifted : (operand : ℕ → Tree) → Node → Tree
unlifted operand (Extract high low a) = inner_part high low (operand a)
unlifted operand node = plain operand node
