-- The text of a term, in SMT-LIB's theory FixedSizeBitVectors.
use Rattle.std.specs.Prelude.{ℕ, ◌<◌, ◌^◌, Bool, true, false, List, ◌++◌, codes, decimal}
use Rattle.bv_dag.specs.declared.nodes.BinaryOp.{BinaryOp}
use Rattle.bv_dag.specs.declared.nodes.BinaryOp.TheVariants.{Add, Sub, Mul, Udiv, Urem, And, Or, Xor, Shl, Lshr, Ashr}
use Rattle.bv_dag.specs.declared.nodes.Comparison.{Comparison}
use Rattle.bv_dag.specs.declared.nodes.Comparison.TheVariants.{Ult, Slt, Eq}
use Rattle.bv_dag.specs.declared.nodes.Node.{Node}
use Rattle.bv_dag.specs.declared.nodes.Node.TheVariants.{Num, Input, Not, Neg, Binary, Compare, Ite, Extract, Extend, Concat}

-- the names of the operations, as SMT-LIB has them
abbrev pub binary_name : BinaryOp → List ℕ
binary_name Add = codes "bvadd"
binary_name Sub = codes "bvsub"
binary_name Mul = codes "bvmul"
binary_name Udiv = codes "bvudiv"
binary_name Urem = codes "bvurem"
binary_name And = codes "bvand"
binary_name Or = codes "bvor"
binary_name Xor = codes "bvxor"
binary_name Shl = codes "bvshl"
binary_name Lshr = codes "bvlshr"
binary_name Ashr = codes "bvashr"

abbrev pub comparison_name : Comparison → List ℕ
comparison_name Ult = codes "bvult"
comparison_name Slt = codes "bvslt"
comparison_name Eq = codes "="

abbrev pub extension_name : Bool → List ℕ
extension_name true = codes "sign_extend"
extension_name false = codes "zero_extend"

-- the term of a node, whose operands are named by their numbers
abbrev pub node_text : Node → List ℕ
node_text (Num width value) =
    codes "(_ bv" ++ decimal value ++ codes " " ++ decimal width ++ codes ")"
node_text (Input i) = codes "b" ++ decimal i
node_text (Not a) = codes "(bvnot n" ++ decimal a ++ codes ")"
node_text (Neg a) = codes "(bvneg n" ++ decimal a ++ codes ")"
node_text (Binary op a b) =
    codes "(" ++ binary_name op ++ codes " n" ++ decimal a ++ codes " n" ++ decimal b ++ codes ")"
node_text (Compare op a b) =
    codes "(ite (" ++ comparison_name op ++ codes " n" ++ decimal a ++ codes " n" ++ decimal b
    ++ codes ") (_ bv1 1) (_ bv0 1))"
node_text (Ite c a b) =
    codes "(ite (= n" ++ decimal c ++ codes " (_ bv1 1)) n" ++ decimal a ++ codes " n" ++ decimal b
    ++ codes ")"
node_text (Extract high low a) =
    codes "((_ extract " ++ decimal high ++ codes " " ++ decimal low ++ codes ") n" ++ decimal a
    ++ codes ")"
node_text (Extend by signed a) =
    codes "((_ " ++ extension_name signed ++ codes " " ++ decimal by ++ codes ") n" ++ decimal a
    ++ codes ")"
node_text (Concat a b) = codes "(concat n" ++ decimal a ++ codes " n" ++ decimal b ++ codes ")"

-- the numbers of a term that texts may have: 64 bits, and the widths in it 32
abbrev pub IsSmallNode : Node → Type 0
IsSmallNode (Num w v) = (w < 2 ^ 32) × (v < 2 ^ 64)
IsSmallNode (Input i) = i < 2 ^ 64
IsSmallNode (Not a) = a < 2 ^ 64
IsSmallNode (Neg a) = a < 2 ^ 64
IsSmallNode (Binary op a b) = (a < 2 ^ 64) × (b < 2 ^ 64)
IsSmallNode (Compare op a b) = (a < 2 ^ 64) × (b < 2 ^ 64)
IsSmallNode (Ite c a b) = (c < 2 ^ 64) × (a < 2 ^ 64) × (b < 2 ^ 64)
IsSmallNode (Extract high low a) = (high < 2 ^ 32) × (low < 2 ^ 32) × (a < 2 ^ 64)
IsSmallNode (Extend by signed a) = (by < 2 ^ 32) × (a < 2 ^ 64)
IsSmallNode (Concat a b) = (a < 2 ^ 64) × (b < 2 ^ 64)
