-- Sums and differences with a number. A term is read as a term and a number, or as a number less a
-- term, also where it was widened (`WideSums`); the numbers of two are then one. What is negative is
-- taken off. It is seen by the operands' top nodes.
use Rattle.std.specs.Prelude.{◌≡◌, ℕ, ◌-◌, ◌^◌, ◌<◌, Bool, true, false, not, length, option_and_then, Option, Some, None}
use Rattle.bv_dag.specs.BitVectors.{BitVector, bvadd, bvneg, bvsub}
use Rattle.bv_dag.specs.Graphs.{Graph, width_of}
use Rattle.bv_dag.specs.declared.nodes.BinaryOp.{BinaryOp}
use Rattle.bv_dag.specs.declared.nodes.BinaryOp.TheVariants.{Add, Sub}
use Rattle.term_trees.specs.Trees.{Tree, Complement, Negated, Two, IsOfWidth, tree_of, tree_width}
use Rattle.term_simplify.specs.Plain.{number_tree, tree_number}
use Rattle.term_simplify.specs.WideSums.{operands_widened, wide_term}
use Rattle.term_simplify.specs.declared.offsets.Operation.{Operation}
use Rattle.term_simplify.specs.declared.offsets.Summand.{Summand}
use Rattle.term_simplify.specs.declared.wide_sums.WideSummand.{WideSummand}

-- a number that a term is added to, or taken from
pub record Offset : Type 0 where
  pub taken : Bool
  pub term : Tree
  pub number : BitVector

abbrev pub offset_by : BinaryOp → Option BitVector → Option BitVector → (s t : Tree) → Option Offset
offset_by Add None (Some y) s t = Some (record { taken = false; term = s; number = y })
offset_by Sub None (Some y) s t = Some (record { taken = false; term = s; number = bvneg y })
offset_by Sub (Some x) None s t = Some (record { taken = true; term = t; number = x })
offset_by op x y s t = None

-- The complement of a term is -1 less the term.
abbrev pub offset_of : Tree → Option Offset
offset_of (Complement t) = Some (record {
  taken = true;
  term = t;
  number = record { width = tree_width t; number = 2 ^ tree_width t - 1 };
})
offset_of (Negated t) = Some (record {
  taken = true;
  term = t;
  number = record { width = tree_width t; number = 0 };
})
offset_of (Two op s t) = offset_by op (tree_number s) (tree_number t) s t
offset_of t = None

-- what a term is so where it may be a widened sum
abbrev pub wide_offset_of : Tree → Option Offset
wide_offset_of t = offset_of (operands_widened t)

-- it and a further number, or less one
abbrev pub second_offset : BinaryOp → BitVector → Offset → Option Offset
second_offset Add y o =
    Some (record { taken = o.taken; term = o.term; number = bvadd o.number y })
second_offset Sub y o =
    Some (record { taken = o.taken; term = o.term; number = bvsub o.number y })
second_offset op y o = None

-- a further number and it, or a number less it
abbrev pub first_offset : BinaryOp → BitVector → Offset → Option Offset
first_offset Add x o =
    Some (record { taken = o.taken; term = o.term; number = bvadd o.number x })
first_offset Sub x o =
    Some (record { taken = not o.taken; term = o.term; number = bvsub x o.number })
first_offset op x o = None

-- where one operand alone is a number
abbrev pub offset_sum : BinaryOp → Option BitVector → Option BitVector → (s t : Tree) →
    Option Offset
offset_sum op None (Some y) s t = option_and_then (second_offset op y) (wide_offset_of s)
offset_sum op (Some x) None s t = option_and_then (first_offset op x) (wide_offset_of t)
offset_sum op x y s t = None

-- ---- An operation and its operands.
pub record Sum : Type 0 where
  pub op : BinaryOp
  pub first : Tree
  pub second : Tree

abbrev pub two : BinaryOp → Tree → Tree → Sum
two op s t = record { op = op; first = s; second = t }

abbrev pub sum_at : (taken : Bool) → Tree → BitVector → Sum
sum_at false t n = two Add t (number_tree n)
sum_at true t n = two Sub (number_tree n) t

abbrev pub under_negative : Tree → Option Tree
under_negative (Negated t) = Some t
under_negative t = None

-- A number is added on the right. The negative of a term is taken off where it would be added, and
-- added where it would be taken off.
abbrev pub turned : BinaryOp → (first : Option BitVector) → (u v : Option Tree) → (s t : Tree) → Sum
turned Add (Some x) u v s t = two Add t s
turned Add None u (Some v) s t = two Sub s v
turned Add None (Some u) None s t = two Sub t u
turned Sub x u (Some v) s t = two Add s v
turned op x u v s t = two op s t

abbrev pub sum_from : Option Offset → (otherwise : Sum) → Sum
sum_from (Some o) otherwise = sum_at o.taken o.term o.number
sum_from None otherwise = otherwise

-- what an operation of two terms is made as
unfoldable pub sum_of : BinaryOp → Tree → Tree → Sum
sum_of op s t =
    sum_from (offset_sum op (tree_number s) (tree_number t) s t)
    (turned op (tree_number s) (under_negative s) (under_negative t) s t)

-- ---- Sums as the code finds them, and what they are worth.
abbrev pub offset_in : (term_at : ℕ → Tree) → Summand → Offset
offset_in term_at o = record { taken = o.taken; term = term_at o.term; number = o.number }

abbrev pub offset_at : Graph → Summand → Offset
offset_at graph o = offset_in (tree_of graph) o

abbrev pub wide_offset_at : Graph → WideSummand → Offset
wide_offset_at graph o =
    record { taken = o.taken; term = wide_term graph o; number = o.number }

abbrev pub operation_at : Graph → Operation → Sum
operation_at graph o = two o.op (tree_of graph o.first) (tree_of graph o.second)

-- a term and a number of one width
pub record IsSummand (graph : Graph) (width : ℕ) (o : Summand) : Type 0 where
  pub there : o.term < length graph.nodes
  pub wide : width_of graph o.term ≡ width
  pub number : IsOfWidth width o.number

abbrev pub offset_word : (taken : Bool) → (term number : BitVector) → BitVector
offset_word false t n = bvadd t n
offset_word true t n = bvsub n t
