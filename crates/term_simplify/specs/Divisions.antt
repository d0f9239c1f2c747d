-- Quotients and remainders by a number. By a power of two they are the upper bits and the lower
-- ones, which takes no gate. By another number c, of k bits, long division is written out. Each
-- remainder on the way is below c, so k bits hold it; the first is the k - 1 upper bits. For each
-- further bit of the dividend, from the top: of the remainder and the bit, less c, at k + 1 bits,
-- the top bit says whether they are below c. It chooses the next remainder, and its complement is a
-- bit of the quotient.
use Rattle.std.specs.Prelude.{ℕ, zero, suc, ◌+◌, ◌-◌, ◌/◌, ◌%◌, ◌^◌, ◌<◌, ◌≤◌, ◌≡◌, ◌==◌, ◌&&◌, ◌||◌, Bool, true, false, Option, Some, None, nat_lt, if◌then◌else◌}
use Rattle.bv_dag.specs.BitVectors.{BitVector, bvsub, concat, extract, ite}
use Rattle.bv_dag.specs.Graphs.{Graph, width_of}
use Rattle.bv_dag.specs.declared.nodes.BinaryOp.{BinaryOp}
use Rattle.bv_dag.specs.declared.nodes.BinaryOp.TheVariants.{Sub, Udiv, Urem}
use Rattle.bv_dag.specs.declared.nodes.Node.{Node}
use Rattle.bv_dag.specs.declared.nodes.Node.TheVariants.{Binary, Compare}
use Rattle.term_trees.specs.Trees.{Tree, Constant}
use Rattle.term_simplify.specs.Narrowing.{length_of}
use Rattle.term_simplify.specs.Plain.{complement_of, extension_by, further, joined_of, part_of, plain, plain_binary, plain_choice, tree_number}
use Rattle.term_simplify.specs.Runs.{pieced}
use Rattle.term_simplify.specs.Zeros.{comparison_over_zeros}
use Rattle.term_simplify.specs.declared.divisions.TheConstants.{FEW_BITS}
use Rattle.term_simplify.specs.declared.divisions.Dividend.{Dividend}

abbrev pub is_division : BinaryOp → Bool
is_division Udiv = true
is_division Urem = true
is_division op = false

-- ---- By 2 ^ by.
abbrev pub power_quotient : (width by : ℕ) → Tree → Tree
power_quotient w by t = extension_by by false (part_of (w - 1) by t)

abbrev pub power_remainder : (width by : ℕ) → Tree → Tree
power_remainder w by t = extension_by (w - by) false (part_of (by - 1) 0 t)

-- ---- By another number, of so many bits.
-- a remainder with a bit of the dividend below it
abbrev pub brought : (at : ℕ) → (dividend remainder : Tree) → Tree
brought at t r = joined_of r (part_of at at t)

abbrev pub less_divisor : (bits divisor : ℕ) → Tree → Tree
less_divisor k c e = plain_binary Sub e (Constant (k + 1) c)

abbrev pub borrow_of : (bits divisor : ℕ) → Tree → Tree
borrow_of k c e = part_of k k (less_divisor k c e)

abbrev pub next_remainder : (bits divisor : ℕ) → Tree → Tree
next_remainder k c e =
    plain_choice (borrow_of k c e) (part_of (k - 1) 0 e) (part_of (k - 1) 0 (less_divisor k c e))

-- with so many bits of the dividend left, from what is found of those above them
unfoldable pub quotient_from : (left bits divisor : ℕ) → (dividend quotient remainder : Tree) → Tree
quotient_from zero k c t q r = q
quotient_from (suc i) k c t q r =
    quotient_from i k c t (joined_of q (complement_of (borrow_of k c (brought i t r))))
    (next_remainder k c (brought i t r))

unfoldable pub remainder_from : (left bits divisor : ℕ) → (dividend remainder : Tree) → Tree
remainder_from zero k c t r = r
remainder_from (suc i) k c t r = remainder_from i k c t (next_remainder k c (brought i t r))

abbrev pub first_remainder : (width bits : ℕ) → Tree → Tree
first_remainder w k t = extension_by 1 false (part_of (w - 1) (w - k + 1) t)

abbrev pub long_quotient : (width bits divisor : ℕ) → Tree → Tree
long_quotient w k c t =
    quotient_from (w - k + 1) k c t (Constant (k - 1) 0) (first_remainder w k t)

abbrev pub long_remainder : (width bits divisor : ℕ) → Tree → Tree
long_remainder w k c t =
    further (w - k) false (remainder_from (w - k + 1) k c t (first_remainder w k t))

-- ---- Where the divisor alone is a number, and not 0 or 1. A short term is divided in one operation
-- by other numbers than powers of two.
abbrev pub is_power : (bits divisor : ℕ) → Bool
is_power k c = c == 2 ^ (k - 1)

abbrev pub has_stages : (width bits : ℕ) → Bool
has_stages w k = nat_lt FEW_BITS w && nat_lt k 64

abbrev pub is_divisor : (width bits divisor : ℕ) → Bool
is_divisor w k c = nat_lt 1 c && (is_power k c || has_stages w k)

abbrev pub quotient_by : (width bits divisor : ℕ) → Tree → Tree
quotient_by w k c t = if is_power k c then power_quotient w (k - 1) t else long_quotient w k c t

abbrev pub remainder_by : (width bits divisor : ℕ) → Tree → Tree
remainder_by w k c t = if is_power k c then power_remainder w (k - 1) t else long_remainder w k c t

abbrev pub divided_at : BinaryOp → (width bits divisor : ℕ) → Tree → Tree
divided_at Udiv w k c t = quotient_by w k c t
divided_at op w k c t = remainder_by w k c t

abbrev pub divided_by : BinaryOp → Option BitVector → Option BitVector → (s otherwise : Tree) →
    Tree
divided_by op None (Some y) s otherwise =
    if is_division op && is_divisor y.width (length_of y.number) y.number
    then divided_at op y.width (length_of y.number) y.number s else otherwise
divided_by op x y s otherwise = otherwise

-- an operation of two terms at their own width
abbrev pub by_divisor : BinaryOp → Tree → Tree → Tree
by_divisor op s t = divided_by op (tree_number s) (tree_number t) s (pieced op s t)

-- the tree at its own width of a node that multiplies nothing by a number
abbrev pub unmultiplied : (operand : ℕ → Tree) → Node → Tree
unmultiplied operand (Binary op a b) = by_divisor op (operand a) (operand b)
unmultiplied operand (Compare op a b) = comparison_over_zeros op (operand a) (operand b)
unmultiplied operand node = plain operand node

-- ---- What they are worth, and such a term as the code finds it.
abbrev pub brought_word : (at : ℕ) → (x r : BitVector) → BitVector
brought_word at x r = concat r (extract at at x)

abbrev pub less_divisor_word : (bits divisor : ℕ) → BitVector → BitVector
less_divisor_word k c e = bvsub e (record { width = k + 1; number = c })

abbrev pub borrow_word : (bits divisor : ℕ) → BitVector → BitVector
borrow_word k c e = extract k k (less_divisor_word k c e)

abbrev pub next_remainder_word : (bits divisor : ℕ) → BitVector → BitVector
next_remainder_word k c e =
    ite (borrow_word k c e) (extract (k - 1) 0 e) (extract (k - 1) 0 (less_divisor_word k c e))

-- of the dividend's bits above so many
abbrev pub upper_quotient : (width left divisor : ℕ) → BitVector → BitVector
upper_quotient w left c x = record { width = w - left; number = x.number / 2 ^ left / c }

abbrev pub upper_remainder : (bits left divisor : ℕ) → BitVector → BitVector
upper_remainder k left c x = record { width = k; number = x.number / 2 ^ left % c }

-- a term of this width, and a number other than 0 and 1 of so many bits
pub record IsDividend (graph : Graph) (d : Dividend) : Type 0 where
  pub wide : width_of graph d.operand ≡ d.width
  pub at_most_64 : d.width ≤ 64
  pub some : 1 < d.bits
  pub within : d.bits ≤ d.width
  pub above : 2 ^ (d.bits - 1) ≤ d.divisor
  pub below : d.divisor < 2 ^ d.bits
