-- What a call has found to be its answer, before anything is pushed.
use Rattle.std.specs.Prelude.{◌≡◌, ◌+◌, ◌-◌, ◌<◌, ◌≤◌, ℕ, Bool, true, false, length, nat_le, nat_lt, Option, Some, None, if◌then◌else◌}
use Rattle.bv_dag.specs.BitVectors.{BitVector}
use Rattle.bv_dag.specs.declared.nodes.Node.{Node}
use Rattle.bv_dag.specs.declared.nodes.Node.TheVariants.{Num}
use Rattle.bv_dag.specs.Graphs.{Graph, width_of}
use Rattle.bv_dag.specs.Nodes.{Fits, widths_of}
use Rattle.term_trees.specs.Trees.{Tree, Constant, Widened, tree_of, node_tree, tree_width}
use Rattle.term_simplify.specs.Plain.{further, span_of, inner_part}
use Rattle.term_simplify.specs.declared.plan.Plan.{Plan}
use Rattle.term_simplify.specs.declared.plan.Plan.TheVariants.{Term, Push}
use Rattle.term_simplify.specs.declared.parts.Inner.{Inner}
use Rattle.term_simplify.specs.declared.parts.Span.{Span}
use Rattle.term_simplify.specs.declared.recipe.Above.{Above}
use Rattle.term_simplify.specs.declared.recipe.Recipe.{Recipe}

-- the tree that a plan makes
abbrev pub plan_tree : Graph → Plan → Tree
plan_tree graph (Term id) = tree_of graph id
plan_tree graph (Push n) = node_tree (tree_of graph) n

-- where a plan may be carried out
abbrev pub PlanFits : Graph → Plan → Type 0
PlanFits graph (Term id) = id < length graph.nodes
PlanFits graph (Push n) = Fits graph.inputs (widths_of graph.nodes) n

-- a plan that makes this tree
pub record Makes (graph : Graph) (plan : Plan) (tree : Tree) : Type 0 where
  pub is : plan_tree graph plan ≡ tree
  pub fits : PlanFits graph plan

-- a term under copies of its sign, and these under zeros
abbrev pub under : Above → Tree → Tree
under above t = further above.zeros false (further above.signs true t)

-- the bits above where further ones stand under them: zeros under them are zeros above all signs
abbrev pub stacked : Above → (by : ℕ) → (signed : Bool) → Above
stacked above by true = record { signs = above.signs + by; zeros = above.zeros }
stacked above by false = record { signs = 0; zeros = above.signs + by + above.zeros }

-- the tree that a recipe makes
abbrev pub recipe_tree : Graph → Recipe → Tree
recipe_tree graph r = under r.above (plan_tree graph r.core)

-- so many further bits fit above so many
abbrev pub HasRoom : (by width : ℕ) → Type 0
HasRoom by width = 0 < by → (0 < width) × (width + by ≤ 64)

-- where a recipe may be carried out
pub record RecipeFits (graph : Graph) (r : Recipe) : Type 0 where
  pub core : PlanFits graph r.core
  pub room : HasRoom (r.above.signs + r.above.zeros) (tree_width (plan_tree graph r.core))

-- a recipe that makes this tree
pub record Follows (graph : Graph) (r : Recipe) (tree : Tree) : Type 0 where
  pub is : recipe_tree graph r ≡ tree
  pub fits : RecipeFits graph r

-- the number that a node is
abbrev pub node_number : Node → Option BitVector
node_number (Num w v) = Some (record { width = w; number = v })
node_number n = None

-- where both are numbers, they are as wide
abbrev pub AreAsWide : Option BitVector → Option BitVector → Type 0
AreAsWide (Some x) (Some y) = x.width ≡ y.width
AreAsWide (Some x) None = Unit {0}
AreAsWide None y = Unit {0}

-- the term that a term widens by zeros
abbrev pub under_zeros : Tree → Option Tree
under_zeros (Widened by false t) = Some t
under_zeros t = None

-- the term that a term widens by its sign
abbrev pub under_signs : Tree → Option Tree
under_signs (Widened by true t) = Some t
under_signs t = None

-- bits that a term has
pub record IsSpan (graph : Graph) (span : Span) : Type 0 where
  pub there : span.operand < length graph.nodes
  pub order : span.low ≤ span.high
  pub within : span.high < width_of graph span.operand

-- the same bits as those of an earlier term, widened
pub record IsInner (graph : Graph) (span : Span) (inner : Inner) : Type 0 where
  pub is_span : IsSpan graph inner.span
  pub earlier : inner.span.operand < span.operand
  pub same : inner_part span.high span.low (tree_of graph span.operand) ≡
      further inner.by inner.signed
      (inner_part inner.span.high inner.span.low (tree_of graph inner.span.operand))
  pub wide : span.high - span.low ≡ inner.span.high - inner.span.low + inner.by
  pub some : inner.signed ≡ false → 1 ≤ inner.by

-- bits with no further ones above
abbrev pub same : Span → Inner
same span = record { span = span; by = 0; signed = true }

-- bits of a term that widens one of this width, as those of that one
abbrev pub within_widened : (high low : ℕ) → (signed : Bool) → (width operand : ℕ) → Option Inner
within_widened high low signed width operand =
    if nat_lt high width then Some (same (record { high = high; low = low; operand = operand }))
    else (
    if nat_lt low width then
    Some (record {
      span = record { high = width - 1; low = low; operand = operand };
      by = high + 1 - width;
      signed = signed;
    })
    else (
    if signed then
    Some (record {
      span = record { high = width - 1; low = width - 1; operand = operand };
      by = high - low;
      signed = true;
    })
    else None
    ))

-- Bits that lie in no smaller term: zeros where they are above one widened by zeros.
abbrev pub rest_of : (high low : ℕ) → Tree → Tree
rest_of high low (Widened by false t) =
    if nat_le (tree_width t) low then Constant (high - low + 1) 0
    else span_of high low (Widened by false t)
rest_of high low t = span_of high low t
