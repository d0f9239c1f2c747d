-- A product of a term by a number: a sum of the term, moved up, by the number's non-adjacent form. Its
-- digits are 1, 0 and -1, and of two that stand beside each other one is 0. Each other than 0 takes an
-- adder, after the first, with the places from the digit's up; a product of two terms takes one for
-- each bit.
use Rattle.std.specs.Prelude.{ℕ, zero, suc, ◌+◌, ◌*◌, ◌/◌, ◌%◌, ◌^◌, ◌<◌, ◌≤◌, ◌≡◌, ◌==◌, Option, Some, None, nat_lt, if◌then◌else◌}
use Rattle.bv_dag.specs.BitVectors.{BitVector}
use Rattle.bv_dag.specs.Graphs.{Graph, width_of}
use Rattle.bv_dag.specs.declared.nodes.BinaryOp.{BinaryOp}
use Rattle.bv_dag.specs.declared.nodes.BinaryOp.TheVariants.{Add, Sub, Mul}
use Rattle.bv_dag.specs.declared.nodes.Node.{Node}
use Rattle.bv_dag.specs.declared.nodes.Node.TheVariants.{Binary}
use Rattle.term_trees.specs.Trees.{Tree, Constant}
use Rattle.term_simplify.specs.Divisions.{by_divisor, unmultiplied}
use Rattle.term_simplify.specs.Plain.{plain_binary, plain_negative, part_of, joined_of, tree_number}
use Rattle.term_simplify.specs.declared.times.Product.{Product}

-- a term above so many zeros
abbrev pub raised : (by : ℕ) → Tree → Tree
raised by t = if by == 0 then t else joined_of t (Constant by 0)

-- The last digit of an odd number is 1, or -1, whichever leaves a multiple of 4; half of that is what
-- the other digits write.
abbrev pub digit_op : ℕ → BinaryOp
digit_op c = if c % 4 == 1 then Add else Sub

abbrev pub other_digits : ℕ → ℕ
other_digits c = if c % 4 == 1 then c / 2 else c / 2 + 1

-- An odd number times a term of this width, from twice what the other digits are of it. One less than
-- 2 ^ width is -1.
abbrev pub odd_times : (width c : ℕ) → (others t : Tree) → Tree
odd_times width c others t =
    if c == 1 then t
    else (if c + 1 == 2 ^ width then plain_negative t else plain_binary (digit_op c) others t)

-- A number other than 0 times the lower bits of a term, so many as the width, and moved up.
unfoldable pub times : (width by c : ℕ) → Tree → Tree
times zero by c t = t
times (suc w) by c t =
    if c % 2 == 0 then times w (by + 1) (c / 2) t
    else raised by (odd_times (suc w) c (times w 1 (other_digits c) t) (part_of w 0 t))

-- ---- Where one operand alone is a number, and not 0 or 1.
abbrev pub multiplied : BinaryOp → Option BitVector → Option BitVector → (s t otherwise : Tree) →
    Tree
multiplied Mul (Some x) None s t otherwise =
    if nat_lt 1 x.number then times x.width 0 x.number t else otherwise
multiplied Mul None (Some y) s t otherwise =
    if nat_lt 1 y.number then times y.width 0 y.number s else otherwise
multiplied op x y s t otherwise = otherwise

-- an operation at its own width
abbrev pub own_binary : BinaryOp → Tree → Tree → Tree
own_binary op s t = multiplied op (tree_number s) (tree_number t) s t (by_divisor op s t)

-- the tree of a node at its own width
abbrev pub own : (operand : ℕ → Tree) → Node → Tree
own operand (Binary op a b) = own_binary op (operand a) (operand b)
own operand node = unmultiplied operand node

-- ---- What they are worth.
abbrev pub raised_word : (by : ℕ) → BitVector → BitVector
raised_word by x = record { width = x.width + by; number = x.number * 2 ^ by }

abbrev pub times_word : (width by c : ℕ) → BitVector → BitVector
times_word width by c x = record {
  width = width + by;
  number = x.number * c % 2 ^ width * 2 ^ by;
}

-- a term of this width, and a number of as many bits, not 0
pub record IsProduct (graph : Graph) (p : Product) : Type 0 where
  pub wide : width_of graph p.operand ≡ p.width
  pub some : 0 < p.number
  pub in_range : p.number < 2 ^ p.width
  pub at_most_64 : p.width ≤ 64
