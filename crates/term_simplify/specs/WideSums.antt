-- Sums that were widened by zeros. One that doesn't wrap is that of its widened operands, and its number
-- is one with a number that is added after. It is seen by the operands' top nodes. Sums that were widened
-- by their sign are left alone: a search learns more of an adder that two terms share.
use Rattle.std.specs.Prelude.{◌≡◌, ℕ, ◌+◌, ◌<◌, Bool, false, length, nat_le, if◌then◌else◌}
use Rattle.bv_dag.specs.Graphs.{Graph, width_of}
use Rattle.bv_dag.specs.declared.nodes.BinaryOp.{BinaryOp}
use Rattle.bv_dag.specs.declared.nodes.BinaryOp.TheVariants.{Add}
use Rattle.term_trees.specs.Trees.{Tree, Two, Widened, IsOfWidth, tree_of, tree_width}
use Rattle.term_simplify.specs.Narrowing.{reach_of, unsigned_result}
use Rattle.term_simplify.specs.Plain.{extension_by, further}
use Rattle.term_simplify.specs.declared.wide_sums.WideSummand.{WideSummand}

-- No more bits tell the sum than there are, so it doesn't wrap.
abbrev pub is_exact : BinaryOp → Tree → Tree → Bool
is_exact Add s t = nat_le (unsigned_result Add (reach_of s) (reach_of t)) (tree_width s)
is_exact op s t = false

abbrev pub widened_two : (by : ℕ) → BinaryOp → Tree → Tree → Tree
widened_two by op s t =
    if is_exact op s t then Two op (extension_by by false s) (extension_by by false t)
    else Widened by false (Two op s t)

abbrev pub widened_within : (by : ℕ) → Tree → Tree
widened_within by (Two op s t) = widened_two by op s t
widened_within by t = Widened by false t

-- a widened sum as that of its widened operands
abbrev pub operands_widened : Tree → Tree
operands_widened (Widened by false t) = widened_within by t
operands_widened t = t

-- ---- Terms and numbers of such a sum, as the code finds them.
abbrev pub wide_term : Graph → WideSummand → Tree
wide_term graph o = further o.by false (tree_of graph o.term)

-- a term that is widened, and a number of that width
pub record IsWideSummand (graph : Graph) (width : ℕ) (o : WideSummand) : Type 0 where
  pub there : o.term < length graph.nodes
  pub some : 0 < width_of graph o.term
  pub wide : width_of graph o.term + o.by ≡ width
  pub number : IsOfWidth width o.number
