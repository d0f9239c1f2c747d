-- The fingerprint of a tree, a number of 64 bits. It is made of the tree alone, so that equal trees
-- have equal fingerprints; that unequal trees mostly have unequal ones is no claim, and only saves
-- time.
use Rattle.std.specs.Prelude.{◌≡◌, ℕ, ◌+◌, ◌*◌, ◌/◌, ◌%◌, ◌^◌, Bool, true, false, List, fold, map, bit_or}
use Rattle.std.specs.Hash.{HashWrites}
use Rattle.std.specs.Hash as fed
use Rattle.std.proofs.Common.{ap}
use Rattle.bv_dag.specs.Comparing.{condition_eq}
use Rattle.bv_dag.proofs.Same.{condition_same}
use Rattle.bv_dag.specs.Queries.{Condition}
use Rattle.bv_dag.specs.declared.nodes.BinaryOp.{BinaryOp}
use Rattle.bv_dag.specs.declared.nodes.BinaryOp.TheVariants.{Add, Sub, Mul, Udiv, Urem, And, Or, Xor, Shl, Lshr, Ashr}
use Rattle.bv_dag.specs.declared.nodes.Comparison.{Comparison}
use Rattle.bv_dag.specs.declared.nodes.Comparison.TheVariants.{Ult, Slt, Eq}
use Rattle.bv_dag.specs.declared.nodes.Node.{Node}
use Rattle.bv_dag.specs.declared.nodes.Node.TheVariants.{Num, Input, Not, Neg, Binary, Compare, Ite, Extract, Extend, Concat}
use Rattle.term_trees.specs.Trees.{Tree, Constant, Byte, Complement, Negated, Two, Test, Choice, Part, Widened, Joined}
use Rattle.term_trees.specs.TreeSlices.{asserted_trees}
use Rattle.query_cache.specs.declared.fingerprints.TheConstants.{SPREAD}

-- x (2x + 1) in 64 bits, the quadratic function of the cipher RC6: no two numbers have one image
unfoldable pub stirred : ℕ → ℕ
stirred x = x * ((x * 2 % 2 ^ 64 + 1) % 2 ^ 64) % 2 ^ 64

-- a fingerprint with one more number in it
unfoldable pub stirred_in : ℕ → ℕ → ℕ
stirred_in print x = stirred ((print + x) % 2 ^ 64)

-- the fingerprint of an operation of a kind on three numbers, each a label or the fingerprint of
-- an operand
unfoldable pub operation_print : (kind first second third : ℕ) → ℕ
operation_print kind first second third =
    stirred_in (stirred_in (stirred_in (stirred (kind * SPREAD % 2 ^ 64)) first) second) third

abbrev pub binary_label : BinaryOp → ℕ
binary_label Add = 1
binary_label Sub = 2
binary_label Mul = 3
binary_label Udiv = 4
binary_label Urem = 5
binary_label And = 6
binary_label Or = 7
binary_label Xor = 8
binary_label Shl = 9
binary_label Lshr = 10
binary_label Ashr = 11

abbrev pub comparison_label : Comparison → ℕ
comparison_label Ult = 1
comparison_label Slt = 2
comparison_label Eq = 3

abbrev pub sign_label : Bool → ℕ
sign_label true = 1
sign_label false = 0

-- the fingerprint of a tree, from those of its operands
abbrev pub tree_print : Tree → ℕ
tree_print (Constant w v) = operation_print 1 w v 0
tree_print (Byte i) = operation_print 2 i 0 0
tree_print (Complement t) = operation_print 3 (tree_print t) 0 0
tree_print (Negated t) = operation_print 4 (tree_print t) 0 0
tree_print (Two op s t) = operation_print 5 (binary_label op) (tree_print s) (tree_print t)
tree_print (Test op s t) = operation_print 6 (comparison_label op) (tree_print s) (tree_print t)
tree_print (Choice c s t) = operation_print 7 (tree_print c) (tree_print s) (tree_print t)
tree_print (Part high low t) = operation_print 8 high low (tree_print t)
tree_print (Widened by signed t) = operation_print 9 by (sign_label signed) (tree_print t)
tree_print (Joined s t) = operation_print 10 (tree_print s) (tree_print t) 0

-- the fingerprint of a node's tree, from those of its operands
abbrev pub node_print : (operand : ℕ → ℕ) → Node → ℕ
node_print operand (Num w v) = operation_print 1 w v 0
node_print operand (Input i) = operation_print 2 i 0 0
node_print operand (Not a) = operation_print 3 (operand a) 0 0
node_print operand (Neg a) = operation_print 4 (operand a) 0 0
node_print operand (Binary op a b) = operation_print 5 (binary_label op) (operand a) (operand b)
node_print operand (Compare op a b) =
    operation_print 6 (comparison_label op) (operand a) (operand b)
node_print operand (Ite c a b) = operation_print 7 (operand c) (operand a) (operand b)
node_print operand (Extract high low a) = operation_print 8 high low (operand a)
node_print operand (Extend by signed a) = operation_print 9 by (sign_label signed) (operand a)
node_print operand (Concat a b) = operation_print 10 (operand a) (operand b) 0

-- those of what a condition asserts
abbrev pub prints_of : Condition → List ℕ
prints_of q = map tree_print (asserted_trees q)

-- one of 64 bits, by the highest six of a fingerprint
unfoldable pub bit_of : ℕ → ℕ
bit_of print = 1 * 2 ^ (print / 2 ^ 58) % 2 ^ 64

-- the bits of all these
unfoldable pub bits_of : List ℕ → ℕ
bits_of prints = fold (λ seen print. bit_or seen (bit_of print)) 0 prints

-- all these in one
unfoldable pub digest_of : List ℕ → ℕ
digest_of prints = fold stirred_in 0 prints

-- what is kept beside a query: the fingerprints of its assertions, their bits, and all in one
pub record AreFingerprints (q : Condition) (prints : List ℕ) (bits digest : ℕ) : Type 0 where
  pub each : prints ≡ prints_of q
  pub bits_are : bits ≡ bits_of prints
  pub digest_is : digest ≡ digest_of prints

-- what a query is hashed by
abbrev pub condition_print : Condition → HashWrites
condition_print q = fed.u64 (digest_of (prints_of q))

-- queries that compare as equal are one, so they are hashed alike
pub condition_print-alike : (x y : Condition) → condition_eq x y ≡ true
    → condition_print x ≡ condition_print y
condition_print-alike x y same = ap condition_print (condition_same x y same)
