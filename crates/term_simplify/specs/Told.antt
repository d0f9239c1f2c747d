-- The tests that are told by another term, as the code finds them.
use Rattle.std.specs.Prelude.{◌≡◌, ◌-◌, ◌<◌, ℕ, List, All, length}
use Rattle.bv_dag.specs.BitVectors.{BitVector, bvadd, equal, extract}
use Rattle.bv_dag.specs.Graphs.{Graph, val, width_of}
use Rattle.bv_dag.specs.Nodes.{node_value, node_width, widths_of}
use Rattle.bv_dag.specs.declared.nodes.Node.{Node}
use Rattle.bv_dag.specs.declared.nodes.Node.TheVariants.{Binary, Compare}
use Rattle.term_trees.specs.Trees.{Tree, IsOfWidth, tree_of, tree_value}
use Rattle.term_simplify.specs.Balances.{IsWideBalance, balance_at}
use Rattle.term_simplify.specs.Equalities.{Peeled}
use Rattle.term_simplify.specs.Intervals.{IsBetween, between_at, interval_word}
use Rattle.term_simplify.specs.Moves.{unmoved}
use Rattle.term_simplify.specs.Plain.{part_of}
use Rattle.term_simplify.specs.Simplified.{balanced, compared, equal_to, in_interval, narrowed, undecided}
use Rattle.term_simplify.specs.WideSums.{wide_term}
use Rattle.term_simplify.specs.declared.equalities.Equality.{Equality}
use Rattle.term_simplify.specs.declared.equalities.Told.{Told}
use Rattle.term_simplify.specs.declared.equalities.Told.TheVariants.{Sign, Equal, Within, Balanced}

abbrev pub peeled_at : Graph → Equality → Peeled
peeled_at graph e = record { term = tree_of graph e.term; number = e.number }

-- a term and a number of its width
pub record IsEquality (graph : Graph) (e : Equality) : Type 0 where
  pub there : e.term < length graph.nodes
  pub number : IsOfWidth (width_of graph e.term) e.number

abbrev pub IsTold : Graph → Told → Type 0
IsTold graph (Sign operand width) = (0 < width) × (width_of graph operand ≡ width)
IsTold graph (Equal e) = IsEquality graph e
IsTold graph (Within b) = IsBetween graph b
IsTold graph (Balanced b) = IsWideBalance graph b.number.width b

abbrev pub told_tree : Graph → Told → Tree
told_tree graph (Sign operand width) = part_of (width - 1) (width - 1) (tree_of graph operand)
told_tree graph (Equal e) = equal_to (peeled_at graph e)
told_tree graph (Within b) = in_interval (between_at graph b)
told_tree graph (Balanced b) = balanced (balance_at graph b)

abbrev pub told_word : Graph → Told → List ℕ → BitVector
told_word graph (Sign operand width) input = extract (width - 1) (width - 1) (val graph operand input)
told_word graph (Equal e) input = equal (val graph e.term input) e.number
told_word graph (Within b) input = interval_word (val graph b.term input) b.low b.high
told_word graph (Balanced b) input =
    equal (tree_value input (wide_term graph b.first))
    (bvadd (tree_value input (wide_term graph b.second)) b.number)

-- the simplified tree of a node that moves no bits and is no such test
abbrev pub untold : (operand : ℕ → Tree) → Node → Tree
untold operand (Compare op a b) = compared op (operand a) (operand b)
untold operand node = unmoved operand node

-- and is no sum or difference that is made as another, and no test that ends tell
abbrev pub unsummed : (operand : ℕ → Tree) → Node → Tree
unsummed operand (Binary op a b) = narrowed op (operand a) (operand b)
unsummed operand (Compare op a b) = undecided op (operand a) (operand b)
unsummed operand node = untold operand node

-- a node is told so
pub record Tells (graph : Graph) (node : Node) (t : Told) : Type 0 where
  pub is_told : IsTold graph t
  pub tree : unmoved (tree_of graph) node ≡ told_tree graph t
  pub bits : node_width (widths_of graph.nodes) node ≡ 1
  pub worth : (input : List ℕ) → All (λ b. b < 256) input →
      told_word graph t input ≡ node_value input (λ k. val graph k input) node
