-- Zeros at the low end of terms. A sum, a difference or a comparison of two terms is made of what
-- stands above the zeros that both have, and a product of what stands above the zeros of either, of
-- as many bits fewer. Such zeros are put under a result again.
use Rattle.std.specs.Prelude.{ℕ, ◌+◌, ◌-◌, ◌<◌, ◌≤◌, ◌&&◌, ◌||◌, is_some, min, nat_lt, Option, Some, None, if◌then◌else◌}
use Rattle.std.specs.Int.{trailing_zeros, w64}
use Rattle.bv_dag.specs.BitVectors.{BitVector, concat, extract}
use Rattle.bv_dag.specs.Nodes.{binary, compare}
use Rattle.bv_dag.specs.declared.nodes.BinaryOp.{BinaryOp}
use Rattle.bv_dag.specs.declared.nodes.BinaryOp.TheVariants.{Add, Sub, Mul}
use Rattle.bv_dag.specs.declared.nodes.Comparison.{Comparison}
use Rattle.term_trees.specs.Trees.{Tree, Constant, Joined, Widened, tree_width}
use Rattle.term_simplify.specs.Narrowing.{are_numbers, is_settled, is_zero}
use Rattle.term_simplify.specs.Plain.{joined_of, part_of, plain_binary, plain_comparison, tree_number}
use Rattle.term_simplify.specs.declared.zeros.Zeros.{Zeros}

-- how many zeros a term is known to have at its low end, where it is joined
abbrev pub joined_zeros : Tree → ℕ
joined_zeros (Joined s z) = if is_zero (tree_number z) then tree_width z else 0
joined_zeros t = 0

-- of any term: the number 0 counts as 64 of them
abbrev pub low_zeros : Tree → ℕ
low_zeros (Constant w v) = trailing_zeros w64 v
low_zeros (Widened by signed t) = joined_zeros t
low_zeros t = joined_zeros t

-- ---- The zeros of two operands, and of a result, where they leave some of so many bits.
abbrev pub leaving_some : (width : ℕ) → Zeros → Option Zeros
leaving_some width z = if nat_lt 0 z.result && nat_lt z.result width then Some z else None

abbrev pub alike : ℕ → Zeros
alike k = record { first = k; second = k; result = k }

abbrev pub common_zeros : Tree → Tree → Option Zeros
common_zeros s t = leaving_some (tree_width s) (alike (min (low_zeros s) (low_zeros t)))

-- not where a number settles the result
abbrev pub sum_zeros : BinaryOp → Tree → Tree → Option Zeros
sum_zeros op s t = if is_settled op s t then None else common_zeros s t

-- not where an operand is a number
abbrev pub product_zeros : Tree → Tree → Option Zeros
product_zeros s t =
    if is_some (tree_number s) || is_some (tree_number t) then None
    else leaving_some (tree_width s)
    (record { first = low_zeros s; second = low_zeros t; result = low_zeros s + low_zeros t })

abbrev pub binary_zeros : BinaryOp → Tree → Tree → Option Zeros
binary_zeros Add s t = sum_zeros Add s t
binary_zeros Sub s t = sum_zeros Sub s t
binary_zeros Mul s t = product_zeros s t
binary_zeros op s t = None

abbrev pub comparison_zeros : Tree → Tree → Option Zeros
comparison_zeros s t = if are_numbers s t then None else common_zeros s t

-- ---- What is made of the bits above.
abbrev pub bits_from : (low bits : ℕ) → Tree → Tree
bits_from low bits t = part_of (low + bits - 1) low t

abbrev pub binary_above : Option Zeros → BinaryOp → Tree → Tree → Tree
binary_above (Some z) op s t =
    joined_of (plain_binary op (bits_from z.first (tree_width s - z.result) s)
    (bits_from z.second (tree_width s - z.result) t)) (Constant z.result 0)
binary_above None op s t = plain_binary op s t

abbrev pub comparison_above : Option Zeros → Comparison → Tree → Tree → Tree
comparison_above (Some z) op s t =
    plain_comparison op (bits_from z.first (tree_width s - z.result) s)
    (bits_from z.second (tree_width s - z.result) t)
comparison_above None op s t = plain_comparison op s t

-- an operation and a comparison of two terms at their own width
unfoldable pub binary_over_zeros : BinaryOp → Tree → Tree → Tree
binary_over_zeros op s t = binary_above (binary_zeros op s t) op s t

unfoldable pub comparison_over_zeros : Comparison → Tree → Tree → Tree
comparison_over_zeros op s t = comparison_above (comparison_zeros s t) op s t

-- ---- What they are worth.
abbrev pub word_from : (low bits : ℕ) → BitVector → BitVector
word_from low bits x = extract (low + bits - 1) low x

abbrev pub word_above : (bits : ℕ) → Zeros → BinaryOp → BitVector → BitVector → BitVector
word_above bits z op x y =
    concat (binary op (word_from z.first bits x) (word_from z.second bits y))
    (record { width = z.result; number = 0 })

abbrev pub test_above : (bits : ℕ) → Zeros → Comparison → BitVector → BitVector → BitVector
test_above bits z op x y = compare op (word_from z.first bits x) (word_from z.second bits y)

-- some bits are zeros and some are not, and those of an operand are among those of the result
pub record LeavesSome (width : ℕ) (z : Zeros) : Type 0 where
  pub some : 0 < z.result
  pub fewer : z.result < width
  pub first : z.first ≤ z.result
  pub second : z.second ≤ z.result
