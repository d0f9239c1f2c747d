-- How few bits an operation takes. Where its operands are small, or narrower terms that were widened,
-- few low bits tell its result, and it is made of as many of theirs.
use Rattle.std.specs.Prelude.{ℕ, ◌+◌, ◌-◌, ◌<◌, ◌==◌, ◌&&◌, ◌||◌, Bool, true, false, is_some, max, min, nat_lt, nat_le, Option, Some, None, if◌then◌else◌}
use Rattle.std.specs.Int.{leading_zeros, w64}
use Rattle.bv_dag.specs.BitVectors.{BitVector, bvnot, is_negative}
use Rattle.bv_dag.specs.declared.nodes.BinaryOp.{BinaryOp}
use Rattle.bv_dag.specs.declared.nodes.BinaryOp.TheVariants.{Add, Sub, Mul, Udiv, Urem, And, Or, Xor, Lshr}
use Rattle.bv_dag.specs.declared.nodes.Node.{Node}
use Rattle.bv_dag.specs.declared.nodes.Node.TheVariants.{Neg, Binary, Compare, Ite}
use Rattle.term_trees.specs.Trees.{Tree, Constant, Widened, tree_width}
use Rattle.term_simplify.specs.Ends.{ends_of}
use Rattle.term_simplify.specs.Plain.{masks_nothing, tree_number}
use Rattle.term_simplify.specs.declared.narrowing.Narrow.{Narrow}
use Rattle.term_simplify.specs.declared.narrowing.Reach.{Reach}

-- the least number of bits, at least one, that write a number below 2 ^ 64
unfoldable pub length_of : ℕ → ℕ
length_of n = max (64 - leading_zeros w64 n) 1

-- ---- How many low bits tell a term: where those above are zeros, and where they are copies of the
-- top one.
abbrev pub number_reach : BitVector → Reach
number_reach x = record {
  unsigned = length_of x.number;
  signed = length_of (if is_negative x then (bvnot x).number else x.number) + 1;
}

-- a term that is no greater than this, and that so many bits tell with sign
abbrev pub reach_up_to : (greatest bits : ℕ) → Reach
reach_up_to greatest bits = record {
  unsigned = length_of greatest;
  signed = min (length_of greatest + 1) bits;
}

abbrev pub reach_of : Tree → Reach
reach_of (Constant w v) = number_reach (record { width = w; number = v })
reach_of (Widened by true t) =
    reach_up_to (ends_of (Widened by true t)).greatest.number (tree_width t)
reach_of t = reach_up_to (ends_of t).greatest.number (tree_width t)

-- ---- How many low bits tell a result, from those that tell the operands; 64, as many as a term may
-- have, where no fewer are known to.
-- Those of a quotient tell it where the divisor isn't 0.
abbrev pub unsigned_result : BinaryOp → (first second : Reach) → ℕ
unsigned_result Add a b = max a.unsigned b.unsigned + 1
unsigned_result Mul a b = a.unsigned + b.unsigned
unsigned_result And a b = min a.unsigned b.unsigned
unsigned_result Or a b = max a.unsigned b.unsigned
unsigned_result Xor a b = max a.unsigned b.unsigned
unsigned_result Lshr a b = max a.unsigned b.unsigned
unsigned_result Udiv a b = max a.unsigned b.unsigned
unsigned_result Urem a b = max a.unsigned b.unsigned
unsigned_result op a b = 64

abbrev pub signed_result : BinaryOp → (first second : Reach) → ℕ
signed_result Add a b = max a.signed b.signed + 1
signed_result Sub a b = min (max a.signed b.signed) (max a.unsigned b.unsigned) + 1
signed_result Mul a b = a.signed + b.signed
signed_result And a b = max a.signed b.signed
signed_result Or a b = max a.signed b.signed
signed_result Xor a b = max a.signed b.signed
signed_result op a b = 64

-- the fewer of the two, where these are fewer than the width
abbrev pub narrowest : (unsigned signed width : ℕ) → Option Narrow
narrowest unsigned signed width =
    if nat_le unsigned signed && nat_lt unsigned width
    then Some (record { bits = unsigned; signed = false })
    else (
    if nat_lt signed width then Some (record { bits = signed; signed = true })
    else None
    )

-- some bits of a width, but not all
pub record IsFewer (n : Narrow) (width : ℕ) : Type 0 where
  pub some : 0 < n.bits
  pub fewer : n.bits < width

-- ---- Where an operation is made of fewer bits.
abbrev pub is_zero : Option BitVector → Bool
is_zero (Some x) = x.number == 0
is_zero None = false

abbrev pub are_numbers : Tree → Tree → Bool
are_numbers s t = is_some (tree_number s) && is_some (tree_number t)

-- the number 0 comes first, and leaves no more of an operation than 0 or the other term; of a
-- difference it leaves the negative, which may be narrow
abbrev pub is_zero_first : BinaryOp → Option BitVector → Bool
is_zero_first Sub x = false
is_zero_first op x = is_zero x

-- An operation of two terms is made at their width where they are numbers, where one is the number 0,
-- or where one is a number that masks nothing of the other.
abbrev pub is_settled : BinaryOp → Tree → Tree → Bool
is_settled op s t =
    are_numbers s t || is_zero_first op (tree_number s) || is_zero (tree_number t)
    || masks_nothing op (tree_number s) t || masks_nothing op (tree_number t) s

abbrev pub binary_narrowing : BinaryOp → Tree → Tree → Option Narrow
binary_narrowing op s t =
    if is_settled op s t then None
    else narrowest (unsigned_result op (reach_of s) (reach_of t))
    (signed_result op (reach_of s) (reach_of t)) (tree_width s)

-- two terms that are compared, or chosen from
abbrev pub pair_narrowing : Tree → Tree → Option Narrow
pair_narrowing s t =
    if are_numbers s t then None
    else narrowest (max (reach_of s).unsigned (reach_of t).unsigned)
    (max (reach_of s).signed (reach_of t).signed) (tree_width s)

abbrev pub choice_narrowing : (condition yes no : Tree) → Option Narrow
choice_narrowing c s t = if is_some (tree_number c) then None else pair_narrowing s t

abbrev pub negative_narrowing : Tree → Option Narrow
negative_narrowing t =
    if is_some (tree_number t) then None
    else narrowest 64 (min (reach_of t).unsigned (reach_of t).signed + 1) (tree_width t)

abbrev pub node_narrowing : (operand : ℕ → Tree) → Node → Option Narrow
node_narrowing operand (Neg a) = negative_narrowing (operand a)
node_narrowing operand (Binary op a b) = binary_narrowing op (operand a) (operand b)
node_narrowing operand (Compare op a b) = pair_narrowing (operand a) (operand b)
node_narrowing operand (Ite c a b) = choice_narrowing (operand c) (operand a) (operand b)
node_narrowing operand node = None
