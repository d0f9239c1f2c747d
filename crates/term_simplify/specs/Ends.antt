-- The ends of a term: the least and the greatest value that those of its operands tell. Where both
-- are one number, the term is that number; and where those of two terms leave no doubt, a comparison
-- of them is told.
use Rattle.std.specs.Prelude.{ℕ, ◌+◌, ◌-◌, ◌/◌, ◌^◌, ◌≡◌, ◌==◌, ◌&&◌, ◌||◌, Bool, true, false, not, nat_le, nat_lt, Option, Some, None, if◌then◌else◌}
use Rattle.bv_dag.specs.BitVectors.{BitVector, bit, bvadd, bvnot, bvsub, bvudiv, concat, extract, is_negative}
use Rattle.bv_dag.specs.Nodes.{compare, extend}
use Rattle.bv_dag.specs.declared.nodes.BinaryOp.{BinaryOp}
use Rattle.bv_dag.specs.declared.nodes.BinaryOp.TheVariants.{Add, Sub, Udiv, Urem, And, Or, Lshr}
use Rattle.bv_dag.specs.declared.nodes.Comparison.{Comparison}
use Rattle.bv_dag.specs.declared.nodes.Comparison.TheVariants.{Ult, Slt, Eq}
use Rattle.term_trees.specs.Trees.{Tree, Constant, Complement, Two, Choice, Part, Widened, Joined, tree_width}
use Rattle.term_simplify.specs.declared.ends.Ends.{Ends}

-- a number alone, any number up to it or from it on, and any number of so many bits
abbrev pub only : BitVector → Ends
only x = record { least = x; greatest = x }

abbrev pub up_to : BitVector → Ends
up_to x = record { least = record { width = x.width; number = 0 }; greatest = x }

abbrev pub from : BitVector → Ends
from x = record { least = x; greatest = record { width = x.width; number = 2 ^ x.width - 1 } }

abbrev pub any : ℕ → Ends
any w = from (record { width = w; number = 0 })

abbrev pub smaller : BitVector → BitVector → BitVector
smaller x y = if nat_le x.number y.number then x else y

abbrev pub larger : BitVector → BitVector → BitVector
larger x y = if nat_le x.number y.number then y else x

-- ---- Of a result, from those of its operands.
-- a sum that never wraps: what is left above the one is no less than the other
abbrev pub sum_ends : Ends → Ends → Ends
sum_ends a b =
    if nat_le b.greatest.number (bvnot a.greatest).number
    then record { least = bvadd a.least b.least; greatest = bvadd a.greatest b.greatest }
    else any a.least.width

-- and a difference
abbrev pub difference_ends : Ends → Ends → Ends
difference_ends a b =
    if nat_le b.greatest.number a.least.number
    then record { least = bvsub a.least b.greatest; greatest = bvsub a.greatest b.least }
    else any a.least.width

-- a quotient by what is never 0
abbrev pub quotient_ends : Ends → Ends → Ends
quotient_ends a b =
    if b.least.number == 0 then any a.least.width
    else record { least = bvudiv a.least b.greatest; greatest = bvudiv a.greatest b.least }

-- A remainder is no greater than the dividend, and below the divisor, where that is never 0.
abbrev pub remainder_ends : Ends → Ends → Ends
remainder_ends a b =
    if b.least.number == 0 || nat_lt a.greatest.number b.greatest.number then up_to a.greatest
    else up_to (record { width = b.greatest.width; number = b.greatest.number - 1 })

abbrev pub two_ends : BinaryOp → Ends → Ends → Ends
two_ends Add a b = sum_ends a b
two_ends Sub a b = difference_ends a b
two_ends Udiv a b = quotient_ends a b
two_ends Urem a b = remainder_ends a b
two_ends And a b = up_to (smaller a.greatest b.greatest)
two_ends Or a b = from (larger a.least b.least)
two_ends Lshr a b = up_to a.greatest
two_ends op a b = any a.least.width

-- one of two terms
abbrev pub either_ends : Ends → Ends → Ends
either_ends a b =
    record { least = smaller a.least b.least; greatest = larger a.greatest b.greatest }

-- bits below some that are the same in each value
abbrev pub part_ends : (high low : ℕ) → Ends → Ends
part_ends high low a =
    if a.least.number / 2 ^ high / 2 == a.greatest.number / 2 ^ high / 2
    then record { least = extract high low a.least; greatest = extract high low a.greatest }
    else any (high - low + 1)

abbrev pub complement_ends : Ends → Ends
complement_ends a = record { least = bvnot a.greatest; greatest = bvnot a.least }

abbrev pub widened_ends : (by : ℕ) → (signed : Bool) → Ends → Ends
widened_ends by signed a =
    record { least = extend signed by a.least; greatest = extend signed by a.greatest }

abbrev pub joined_ends : Ends → Ends → Ends
joined_ends a b =
    record { least = concat a.least b.least; greatest = concat a.greatest b.greatest }

-- ---- Of a term.
unfoldable pub ends_of : Tree → Ends
ends_of (Constant w v) = only (record { width = w; number = v })
ends_of (Complement t) = complement_ends (ends_of t)
ends_of (Two op s t) = two_ends op (ends_of s) (ends_of t)
ends_of (Choice c s t) = either_ends (ends_of s) (ends_of t)
ends_of (Part high low t) = part_ends high low (ends_of t)
ends_of (Widened by signed t) = widened_ends by signed (ends_of t)
ends_of (Joined s t) = joined_ends (ends_of s) (ends_of t)
ends_of t = any (tree_width t)

-- a quotient whose divisor may be 0
abbrev pub may_divide_by_zero : BinaryOp → (divisor : Tree) → Bool
may_divide_by_zero Udiv t = (ends_of t).least.number == 0
may_divide_by_zero op t = false

-- ---- With sign: the negative numbers come first, and the last is the complement of the first.
abbrev pub any_signed : ℕ → Ends
any_signed w = record {
  least = record { width = w; number = 2 ^ (w - 1) };
  greatest = bvnot (record { width = w; number = 2 ^ (w - 1) });
}

-- Numbers of one sign are in the same order.
abbrev pub by_sign : Ends → Ends
by_sign a =
    if is_negative a.greatest && not (is_negative a.least) then any_signed a.least.width else a

unfoldable pub signed_ends_of : Tree → Ends
signed_ends_of (Widened by true t) = widened_ends by true (by_sign (ends_of t))
signed_ends_of t = by_sign (ends_of t)

-- ---- What is told by them.
-- the one value
abbrev pub value_told : Ends → Option BitVector
value_told a = if a.least.number == a.greatest.number then Some a.least else None

-- the number that bits are in each value
abbrev pub part_told : (high low : ℕ) → Ends → Option BitVector
part_told high low a =
    if a.least.number / 2 ^ low == a.greatest.number / 2 ^ low then Some (extract high low a.least)
    else None

abbrev pub is_below : Comparison → BitVector → BitVector → Bool
is_below op x y = (compare op x y).number == 1

-- by the order without sign or with it
abbrev pub order_told : Comparison → Ends → Ends → Option Bool
order_told op a b =
    if is_below op a.greatest b.least then Some true
    else (if is_below op a.least b.greatest then None else Some false)

abbrev pub are_apart : Comparison → Ends → Ends → Bool
are_apart op a b = is_below op a.greatest b.least || is_below op b.greatest a.least

abbrev pub equality_told : Tree → Tree → Option Bool
equality_told s t =
    if are_apart Ult (ends_of s) (ends_of t) || are_apart Slt (signed_ends_of s) (signed_ends_of t)
    then Some false else None

-- whether a comparison holds on all input bytes, or on none
unfoldable pub comparison_told : Comparison → Tree → Tree → Option Bool
comparison_told Ult s t = order_told Ult (ends_of s) (ends_of t)
comparison_told Slt s t = order_told Slt (signed_ends_of s) (signed_ends_of t)
comparison_told Eq s t = equality_told s t

abbrev pub told_or : Option Bool → (otherwise : Tree) → Tree
told_or (Some told) otherwise = Constant 1 (bit told).number
told_or None otherwise = otherwise

-- ---- Ends as the code finds them.
pub record AreEnds (width : ℕ) (a : Ends) : Type 0 where
  pub least : a.least.width ≡ width
  pub greatest : a.greatest.width ≡ width
