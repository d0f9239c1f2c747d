-- What registers and bytes of memory are, whatever table keeps their terms: a number, or the tree of a
-- term that is none. Each operation of an instruction makes one expression of its operands': of numbers
-- the number that the machine computes, and else the builder's tree.
use Rattle.std.specs.Prelude.{ℕ, ◌+◌, ◌*◌, ◌/◌, ◌%◌, ◌^◌, ◌==◌, Bool, false, if◌then◌else◌, Option, Some, None}
use Rattle.bv_dag.specs.BitVectors.{BitVector}
use Rattle.bv_dag.specs.Graphs.{Graph}
use Rattle.cow_pages.specs.declared.byte.Byte.{Byte}
use Rattle.cow_pages.specs.declared.byte.Byte.TheVariants.{Number as ByteNumber, Term as ByteTerm}
use Rattle.rv_decode.specs.declared.ops.RegisterOp.{RegisterOp}
use Rattle.rv_spec.specs.Arithmetic.{combined, one_where}
use Rattle.rv_spec.specs.Machine.{even}
use Rattle.term_simplify.specs.Operations.{combined_tree, byte_tree, even_tree, half_tree, widened, word_tree}
use Rattle.term_simplify.specs.Plain.{extension_by, part_of, tree_number}
use Rattle.term_simplify.specs.Simplified.{choice_of}
use Rattle.term_trees.specs.Trees.{Tree, Constant, tree_of}
use Rattle.sym_state.specs.declared.value.Bit.{Bit}
use Rattle.sym_state.specs.declared.value.Bit.TheVariants.{Known, Term as BitTerm}
use Rattle.sym_state.specs.declared.value.Value.{Value}
use Rattle.sym_state.specs.declared.value.Value.TheVariants.{Number as ValueNumber, Term as ValueTerm}

pub data Expression : Type 0 where
  Number : ℕ → Expression
  Unknown : Tree → Expression

abbrev pub value_expression : Graph → Value → Expression
value_expression terms (ValueNumber n) = Number n
value_expression terms (ValueTerm id) = Unknown (tree_of terms id)

-- 1 where it holds
abbrev pub bit_expression : Graph → Bit → Expression
bit_expression terms (Known b) = Number (one_where b)
bit_expression terms (BitTerm id) = Unknown (tree_of terms id)

abbrev pub byte_expression : Graph → Byte → Expression
byte_expression terms (ByteNumber n) = Number n
byte_expression terms (ByteTerm id) = Unknown (tree_of terms id)

-- as a tree of so many bits
abbrev pub tree_in : (bits : ℕ) → Expression → Tree
tree_in bits (Number n) = Constant bits n
tree_in bits (Unknown t) = t

abbrev pub settled_by : Option BitVector → Tree → Expression
settled_by (Some x) t = Number x.number
settled_by None t = Unknown t

-- what a tree is: a number where it is one
abbrev pub settled : Tree → Expression
settled t = settled_by (tree_number t) t

-- what an instruction computes of two registers
abbrev pub combined_of : RegisterOp → Expression → Expression → Expression
combined_of op (Number a) (Number b) = Number (combined op a b)
combined_of op (Number a) (Unknown t) = settled (combined_tree op (Constant 32 a) t)
combined_of op (Unknown s) b = settled (combined_tree op s (tree_in 32 b))

-- one bit of a term
abbrev pub bit_in : (at : ℕ) → Tree → Expression
bit_in at t = settled (part_of at at t)

-- the same number
abbrev pub are_equal : Expression → Expression → Bool
are_equal (Number a) (Number b) = a == b
are_equal s t = false

-- the first of two bytes where a bit is 1, and else the second
abbrev pub byte_choice : (bit : Tree) → (first second : Expression) → Expression
byte_choice c first second =
    if are_equal first second then first
    else settled (choice_of c (tree_in 8 first) (tree_in 8 second))

-- with the lowest bit cleared
abbrev pub even_of : Expression → Expression
even_of (Number n) = Number (even n)
even_of (Unknown t) = settled (even_tree t)

-- the byte of a register that is so many bytes up
abbrev pub register_byte : (at : ℕ) → Expression → Expression
register_byte at (Number n) = Number (n / 2 ^ (8 * at) % 2 ^ 8)
register_byte at (Unknown t) = settled (byte_tree at t)

-- a byte in a register, with copies of its sign above it or zeros
abbrev pub widened_byte : (signed : Bool) → Expression → Expression
widened_byte signed (Number n) = Number (widened signed 8 n)
widened_byte signed (Unknown t) = settled (extension_by 24 signed t)

abbrev pub half_expression : (signed : Bool) → (low high : Expression) → Expression
half_expression signed low high =
    settled (extension_by 16 signed (half_tree (tree_in 8 low) (tree_in 8 high)))

-- two bytes in a register, the low one first
abbrev pub widened_half : (signed : Bool) → (low high : Expression) → Expression
widened_half signed (Number low) (Number high) = Number (widened signed 16 (low + 2 ^ 8 * high))
widened_half signed (Number low) (Unknown t) = half_expression signed (Number low) (Unknown t)
widened_half signed (Unknown s) high = half_expression signed (Unknown s) high

abbrev pub word_expression : (b0 b1 b2 b3 : Expression) → Expression
word_expression b0 b1 b2 b3 =
    settled (word_tree (tree_in 8 b0) (tree_in 8 b1) (tree_in 8 b2) (tree_in 8 b3))

-- four bytes, the lowest first
abbrev pub word_of : (b0 b1 b2 b3 : Expression) → Expression
word_of (Number a) (Number b) (Number c) (Number d) =
    Number (a + 2 ^ 8 * b + 2 ^ 16 * c + 2 ^ 24 * d)
word_of (Number a) (Number b) (Number c) (Unknown d) =
    word_expression (Number a) (Number b) (Number c) (Unknown d)
word_of (Number a) (Number b) (Unknown c) d = word_expression (Number a) (Number b) (Unknown c) d
word_of (Number a) (Unknown b) c d = word_expression (Number a) (Unknown b) c d
word_of (Unknown a) b c d = word_expression (Unknown a) b c d
