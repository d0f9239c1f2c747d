-- What an instruction makes of terms, as trees: RISC-V unprivileged manual, "RV32I Base Integer
-- Instruction Set" and "M Extension for Integer Multiplication and Division". Registers are terms of
-- 32 bits.
use Rattle.std.specs.Prelude.{ℕ, ◌+◌, ◌*◌, Bool, true, false}
use Rattle.bv_dag.specs.declared.nodes.BinaryOp.{BinaryOp}
use Rattle.bv_dag.specs.declared.nodes.BinaryOp.TheVariants as bv
use Rattle.bv_dag.specs.declared.nodes.Comparison.{Comparison}
use Rattle.bv_dag.specs.declared.nodes.Comparison.TheVariants.{Ult, Slt, Eq}
use Rattle.rv_decode.specs.Fields.{sign_extended}
use Rattle.rv_decode.specs.declared.ops.RegisterOp.{RegisterOp}
use Rattle.rv_decode.specs.declared.ops.RegisterOp.TheVariants as register
use Rattle.rv_decode.specs.declared.ops.Test.{Test}
use Rattle.rv_decode.specs.declared.ops.Test.TheVariants.{Beq, Bne, Blt, Bge, Bltu, Bgeu}
use Rattle.term_trees.specs.Trees.{Tree, Constant}
use Rattle.term_simplify.specs.Machine.{quotient_tree, remainder_tree, upper_tree}
use Rattle.term_simplify.specs.Plain.{complement_of, part_of, extension_by, joined_of}
use Rattle.term_simplify.specs.Simplified.{binary_of, comparison_of}

-- a shift by the low five bits of a register
abbrev pub shift_tree : BinaryOp → Tree → Tree → Tree
shift_tree op s t = binary_of op s (binary_of bv.And t (Constant 32 31))

-- 1 where the comparison holds, else 0, in 32 bits
abbrev pub set_tree : Comparison → Tree → Tree → Tree
set_tree op s t = extension_by 31 false (comparison_of op s t)

-- one equation for each operation of two registers
abbrev pub combined_tree : RegisterOp → Tree → Tree → Tree
combined_tree register.Add s t = binary_of bv.Add s t
combined_tree register.Sub s t = binary_of bv.Sub s t
combined_tree register.Sll s t = shift_tree bv.Shl s t
combined_tree register.Slt s t = set_tree Slt s t
combined_tree register.Sltu s t = set_tree Ult s t
combined_tree register.Xor s t = binary_of bv.Xor s t
combined_tree register.Srl s t = shift_tree bv.Lshr s t
combined_tree register.Sra s t = shift_tree bv.Ashr s t
combined_tree register.Or s t = binary_of bv.Or s t
combined_tree register.And s t = binary_of bv.And s t
combined_tree register.Mul s t = binary_of bv.Mul s t
combined_tree register.Mulh s t = upper_tree true true s t
combined_tree register.Mulhsu s t = upper_tree true false s t
combined_tree register.Mulhu s t = upper_tree false false s t
combined_tree register.Div s t = quotient_tree s t
combined_tree register.Divu s t = binary_of bv.Udiv s t
combined_tree register.Rem s t = remainder_tree s t
combined_tree register.Remu s t = binary_of bv.Urem s t

-- one equation for each test of a conditional branch: one bit, 1 where it passes
abbrev pub passes_tree : Test → Tree → Tree → Tree
passes_tree Beq s t = comparison_of Eq s t
passes_tree Bne s t = complement_of (comparison_of Eq s t)
passes_tree Blt s t = comparison_of Slt s t
passes_tree Bge s t = complement_of (comparison_of Slt s t)
passes_tree Bltu s t = comparison_of Ult s t
passes_tree Bgeu s t = complement_of (comparison_of Ult s t)

-- a number of so many bits in 32, with copies of its sign above it or zeros
abbrev pub widened : (signed : Bool) → (bits n : ℕ) → ℕ
widened true bits n = sign_extended bits n
widened false bits n = n

-- two bytes as a half word
abbrev pub half_tree : (low high : Tree) → Tree
half_tree low high = joined_of high low

-- four bytes as a word, the lowest first
abbrev pub word_tree : (b0 b1 b2 b3 : Tree) → Tree
word_tree b0 b1 b2 b3 = half_tree (half_tree b0 b1) (half_tree b2 b3)

-- a byte of a word, so many bytes up
abbrev pub byte_tree : (at : ℕ) → Tree → Tree
byte_tree at t = part_of (8 * at + 7) (8 * at) t

-- a word with its lowest bit cleared
abbrev pub even_tree : Tree → Tree
even_tree t = joined_of (part_of 31 1 t) (Constant 1 0)
