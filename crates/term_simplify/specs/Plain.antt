-- What a term is simplified to at its own width: a tree, from the trees of its operands. Each rule
-- is decided by the numbers that operands are, and by their top nodes and ends. None compares two
-- subtrees, and none decides a relation between two input bytes.
use Rattle.std.specs.Prelude.{ℕ, suc, ◌+◌, ◌-◌, ◌^◌, ◌==◌, ◌&&◌, ◌||◌, Bool, true, false, is_some, not, nat_lt, nat_le, Option, Some, None, if◌then◌else◌}
use Rattle.std.specs.Int.Bits.{bit_and}
use Rattle.bv_dag.specs.BitVectors.{BitVector, bit, is_negative, bvnot, bvneg, extract, concat}
use Rattle.bv_dag.specs.Nodes.{binary, compare, extend}
use Rattle.bv_dag.specs.declared.nodes.BinaryOp.{BinaryOp}
use Rattle.bv_dag.specs.declared.nodes.BinaryOp.TheVariants.{Add, Sub, Mul, Udiv, Urem, And, Or, Xor, Shl, Lshr, Ashr}
use Rattle.bv_dag.specs.declared.nodes.Comparison.{Comparison}
use Rattle.bv_dag.specs.declared.nodes.Comparison.TheVariants.{Ult, Slt, Eq}
use Rattle.bv_dag.specs.declared.nodes.Node.{Node}
use Rattle.bv_dag.specs.declared.nodes.Node.TheVariants.{Num, Input, Not, Neg, Binary, Compare, Ite, Extract, Extend, Concat}
use Rattle.term_trees.specs.Trees.{Tree, Constant, Byte, Complement, Negated, Two, Test, Choice, Part, Widened, Joined, tree_width}
use Rattle.term_simplify.specs.Ends.{ends_of, part_told}
use Rattle.term_simplify.specs.declared.lifting.TheConstants.{LEVELS}

-- the number that a tree is
abbrev pub tree_number : Tree → Option BitVector
tree_number (Constant w v) = Some (record { width = w; number = v })
tree_number t = None

-- a number as a tree
abbrev pub number_tree : BitVector → Tree
number_tree x = Constant x.width x.number

-- every bit is 1
abbrev pub is_ones : BitVector → Bool
is_ones x = x.number == 2 ^ x.width - 1

-- The complement of a complement is the term.
unfoldable pub complement_of : Tree → Tree
complement_of (Constant w v) = number_tree (bvnot (record { width = w; number = v }))
complement_of (Complement t) = t
complement_of t = Complement t

-- The negative of a negative is the term.
unfoldable pub plain_negative : Tree → Tree
plain_negative (Constant w v) = number_tree (bvneg (record { width = w; number = v }))
plain_negative (Negated t) = t
plain_negative t = Negated t

-- ---- Two operands of one width.
-- Of a number and a term:
--   0 + t, 0 | t and 0 ^ t are t;  0 - t is the negative of t;
--   0 * t and 0 & t are 0, and so is 0 shifted by t;  1 * t is t;
--   with all ones, & is t and | is all ones.
abbrev pub number_first : BinaryOp → BitVector → (s t : Tree) → Tree
number_first Add x s t = if x.number == 0 then t else Two Add s t
number_first Mul x s t = if x.number == 0 then s else (if x.number == 1 then t else Two Mul s t)
number_first And x s t = if x.number == 0 then s else (if is_ones x then t else Two And s t)
number_first Or x s t = if x.number == 0 then t else (if is_ones x then s else Two Or s t)
number_first Xor x s t = if x.number == 0 then t else Two Xor s t
number_first Shl x s t = if x.number == 0 then s else Two Shl s t
number_first Lshr x s t = if x.number == 0 then s else Two Lshr s t
number_first Ashr x s t = if x.number == 0 then s else Two Ashr s t
number_first Sub x s t = if x.number == 0 then Negated t else Two Sub s t
number_first Udiv x s t = Two Udiv s t
number_first Urem x s t = Two Urem s t

-- Of a term and a number:
--   s + 0, s - 0, s | 0, s ^ 0 and s shifted by 0 are s;  s * 0 and s & 0 are 0;
--   s * 1 and s / 1 are s, and s % 1 is 0;  s / 0 is all ones, and s % 0 is s;
--   with all ones, & is s and | is all ones;
--   s shifted by its width or more is 0, but for a shift that copies the sign.
abbrev pub number_second : BinaryOp → BitVector → (s t : Tree) → Tree
number_second Add y s t = if y.number == 0 then s else Two Add s t
number_second Sub y s t = if y.number == 0 then s else Two Sub s t
number_second Mul y s t = if y.number == 0 then t else (if y.number == 1 then s else Two Mul s t)
number_second Udiv y s t =
    if y.number == 0 then Constant y.width (2 ^ y.width - 1)
    else (if y.number == 1 then s else Two Udiv s t)
number_second Urem y s t =
    if y.number == 0 then s
    else (if y.number == 1 then Constant y.width 0 else Two Urem s t)
number_second And y s t = if y.number == 0 then t else (if is_ones y then s else Two And s t)
number_second Or y s t = if y.number == 0 then s else (if is_ones y then t else Two Or s t)
number_second Xor y s t = if y.number == 0 then s else Two Xor s t
number_second Shl y s t =
    if y.number == 0 then s
    else (if nat_le y.width y.number then Constant y.width 0 else Two Shl s t)
number_second Lshr y s t =
    if y.number == 0 then s
    else (if nat_le y.width y.number then Constant y.width 0 else Two Lshr s t)
number_second Ashr y s t = if y.number == 0 then s else Two Ashr s t

abbrev pub binary_by : BinaryOp → Option BitVector → Option BitVector → (s t : Tree) → Tree
binary_by op (Some x) (Some y) s t = number_tree (binary op x y)
binary_by op (Some x) None s t = number_first op x s t
binary_by op None (Some y) s t = number_second op y s t
binary_by op None None s t = Two op s t

-- every bit that a term may have, which is a narrower one widened by zeros, is 1 in the number
abbrev pub keeps : BitVector → Tree → Bool
keeps y (Widened by false t) = bit_and y.number (2 ^ tree_width t - 1) == 2 ^ tree_width t - 1
keeps y t = false

-- a term is joined by & with a number that masks nothing of it
abbrev pub masks_nothing : BinaryOp → Option BitVector → Tree → Bool
masks_nothing And (Some y) t = keeps y t
masks_nothing op y t = false

-- A term & a number that masks nothing of it is the term.
abbrev pub masked : BinaryOp → Option BitVector → (t otherwise : Tree) → Tree
masked And (Some y) t otherwise = if keeps y t then t else otherwise
masked op y t otherwise = otherwise

unfoldable pub plain_binary : BinaryOp → Tree → Tree → Tree
plain_binary op s t =
    masked op (tree_number s) t
    (masked op (tree_number t) s (binary_by op (tree_number s) (tree_number t) s t))

-- ---- Tests.
-- a term of which no number from this one on is a value, since it is a narrower one widened by
-- zeros
abbrev pub excludes : Tree → ℕ → Bool
excludes (Widened by false t) n = nat_le (2 ^ tree_width t) n
excludes t n = false

-- the term of one bit that a term is, alone or widened by zeros
abbrev pub bit_under : Tree → Option Tree
bit_under (Widened by false t) = if tree_width t == 1 then Some t else None
bit_under t = if tree_width t == 1 then Some t else None

-- whether one bit is this number, which is 1 or 0
abbrev pub bit_is : Option Tree → ℕ → (otherwise : Tree) → Tree
bit_is (Some t) n otherwise = if n == 1 then t else complement_of t
bit_is None n otherwise = otherwise

-- whether a term is a number: not where that is beyond its range, and the bit or its complement
-- where it has but one bit
abbrev pub equality_of : Tree → ℕ → (otherwise : Tree) → Tree
equality_of t n otherwise = if excludes t n then Constant 1 0 else bit_is (bit_under t) n otherwise

-- Of a number and a term. A term widened by zeros is below each number beyond its range, and above
-- each negative one, which is also beyond it.
abbrev pub test_first : Comparison → BitVector → (s t : Tree) → Tree
test_first Ult x s t = if excludes t x.number then Constant 1 0 else Test Ult s t
test_first Slt x s t =
    if excludes t x.number then number_tree (bit (is_negative x)) else Test Slt s t
test_first Eq x s t = equality_of t x.number (Test Eq s t)

-- Of a term and a number. Nothing is below 0 without sign.
abbrev pub test_second : Comparison → BitVector → (s t : Tree) → Tree
test_second Ult y s t =
    if y.number == 0 then Constant 1 0
    else (if excludes s y.number then Constant 1 1 else Test Ult s t)
test_second Slt y s t =
    if excludes s y.number then number_tree (bit (not (is_negative y))) else Test Slt s t
test_second Eq y s t = equality_of s y.number (Test Eq s t)

abbrev pub comparison_by : Comparison → Option BitVector → Option BitVector → (s t : Tree) → Tree
comparison_by op (Some x) (Some y) s t = number_tree (compare op x y)
comparison_by op (Some x) None s t = test_first op x s t
comparison_by op None (Some y) s t = test_second op y s t
comparison_by op None None s t = Test op s t

unfoldable pub plain_comparison : Comparison → Tree → Tree → Tree
plain_comparison op s t = comparison_by op (tree_number s) (tree_number t) s t

-- ---- A choice by a number is the term that it chooses, one between equal numbers is the number,
-- and one of the bits 1 and 0 is its condition, or the complement.
abbrev pub bit_choice : (x y : BitVector) → (c s t : Tree) → Tree
bit_choice x y c s t =
    if x.number == y.number then s
    else (
    if x.width == 1 && x.number == 1 && y.number == 0 then c
    else (if x.width == 1 && x.number == 0 && y.number == 1 then complement_of c else Choice c s t)
    )

abbrev pub choice_between : Option BitVector → Option BitVector → (c s t : Tree) → Tree
choice_between (Some x) (Some y) c s t = bit_choice x y c s t
choice_between (Some x) None c s t = Choice c s t
choice_between None y c s t = Choice c s t

abbrev pub choice_on : Option BitVector → (c s t : Tree) → Tree
choice_on (Some x) c s t = if x.number == 1 then s else t
choice_on None c s t = choice_between (tree_number s) (tree_number t) c s t

unfoldable pub plain_choice : Tree → Tree → Tree → Tree
plain_choice c s t = choice_on (tree_number c) c s t

-- ---- A term widened twice by zeros is widened once, and so is one widened twice by its sign. One
-- widened by zeros and then by its sign, which is 0, is widened by zeros.
unfoldable pub extension_by : (by : ℕ) → (signed : Bool) → Tree → Tree
extension_by by signed (Constant w v) =
    number_tree (extend signed by (record { width = w; number = v }))
extension_by by signed (Widened inner false t) = Widened (inner + by) false t
extension_by by true (Widened inner true t) = Widened (inner + by) true t
extension_by by signed t = Widened by signed t

-- ---- Bits from one place down to another. Of a number they are a number, and all bits are the
-- term.
abbrev pub span_by : Option BitVector → (high low : ℕ) → Tree → Tree
span_by (Some x) high low t = number_tree (extract high low x)
span_by None high low t = if low == 0 && high + 1 == tree_width t then t else Part high low t

abbrev pub span_of : (high low : ℕ) → Tree → Tree
span_of high low t = span_by (tree_number t) high low t

-- all bits of a term are the term
abbrev pub whole : (high low : ℕ) → (t otherwise : Tree) → Tree
whole high low t otherwise = if low == 0 && high + 1 == tree_width t then t else otherwise

-- a term with so many further bits, where there are any
abbrev pub further : (by : ℕ) → (signed : Bool) → Tree → Tree
further by signed t = if by == 0 then t else extension_by by signed t

-- Where they are bits of a smaller term, they are taken of that. Those of a widened term that begin
-- in the narrower one and end above it are its upper bits, widened; those above it are zeros, or
-- copies of its sign.
unfoldable pub inner_part : (high low : ℕ) → Tree → Tree
inner_part high low (Part h l t) = whole high low (Part h l t) (inner_part (high + l) (low + l) t)
inner_part high low (Widened by signed t) =
    whole high low (Widened by signed t) (
    if nat_lt high (tree_width t) then inner_part high low t
    else (
    if nat_lt low (tree_width t) then
    extension_by (high + 1 - tree_width t) signed (inner_part (tree_width t - 1) low t)
    else (
    if signed then further (high - low) true (inner_part (tree_width t - 1) (tree_width t - 1) t)
    else Constant (high - low + 1) 0
    )))
inner_part high low (Joined s t) =
    whole high low (Joined s t) (
    if nat_lt high (tree_width t) then inner_part high low t
    else (
    if nat_le (tree_width t) low then inner_part (high - tree_width t) (low - tree_width t) s
    else Part high low (Joined s t)
    ))
inner_part high low t = span_of high low t

-- Bits of a complement are the complement of those bits. Bits of a choice of a number, or of two, are
-- a choice of those bits. They are taken through so many complements and choices.
unfoldable pub lifted : (levels : ℕ) → Tree → Tree
lifted (suc k) (Part high low (Complement t)) = complement_of (lifted k (inner_part high low t))
lifted (suc k) (Part high low (Choice c s t)) =
    if is_some (tree_number s) || is_some (tree_number t)
    then plain_choice c (lifted k (inner_part high low s)) (lifted k (inner_part high low t))
    else Part high low (Choice c s t)
lifted levels t = t

abbrev pub number_or : Option BitVector → (otherwise : Tree) → Tree
number_or (Some x) otherwise = number_tree x
number_or None otherwise = otherwise

-- Where the ends of the term tell them, bits are a number.
unfoldable pub part_of : (high low : ℕ) → Tree → Tree
part_of high low t =
    number_or (part_told high low (ends_of t)) (lifted LEVELS (inner_part high low t))

-- ---- Two terms, one above the other.
-- A term below the number 0 is widened by zeros.
abbrev pub joined_by : Option BitVector → Option BitVector → (s t : Tree) → Tree
joined_by (Some x) (Some y) s t = number_tree (concat x y)
joined_by (Some x) None s t = if x.number == 0 then extension_by x.width false t else Joined s t
joined_by None y s t = Joined s t

abbrev pub join_of : Tree → Tree → Tree
join_of s t = joined_by (tree_number s) (tree_number t) s t

-- Zeros above the upper term, and copies of its sign, go to the top.
unfoldable pub joined_of : Tree → Tree → Tree
joined_of (Widened by signed s) t = extension_by by signed (join_of s t)
joined_of s t = join_of s t

-- ---- The tree of a node by these rules, from those of its operands.
abbrev pub plain : (operand : ℕ → Tree) → Node → Tree
plain operand (Num w v) = Constant w v
plain operand (Input i) = Byte i
plain operand (Not a) = complement_of (operand a)
plain operand (Neg a) = plain_negative (operand a)
plain operand (Binary op a b) = plain_binary op (operand a) (operand b)
plain operand (Compare op a b) = plain_comparison op (operand a) (operand b)
plain operand (Ite c a b) = plain_choice (operand c) (operand a) (operand b)
plain operand (Extract high low a) = part_of high low (operand a)
plain operand (Extend by signed a) = extension_by by signed (operand a)
plain operand (Concat a b) = joined_of (operand a) (operand b)
