-- The text of a term is read back.
use Rattle.std.proofs.Common.{◌≡◌, ◌∙◌, ℕ, ◌<◌, ◌^◌, true, false, nat_lt, List, ◌++◌, None, Some, refl, ap, arith, codes, decimal}
use Rattle.std.proofs.lemmas.Bool.Decides.{nat_tests}
use Rattle.bv_dag.specs.declared.nodes.BinaryOp.{BinaryOp}
use Rattle.bv_dag.specs.declared.nodes.BinaryOp.TheVariants.{Add, Sub, Mul, Udiv, Urem, And, Or, Xor, Shl, Lshr, Ashr}
use Rattle.bv_dag.specs.declared.nodes.Comparison.TheVariants.{Ult, Slt, Eq}
use Rattle.bv_dag.specs.declared.nodes.Node.{Node}
use Rattle.bv_dag.specs.declared.nodes.Node.TheVariants.{Num, Input, Not, Neg, Binary, Compare, Ite, Extract, Extend, Concat}
use Rattle.smt_text.specs.LineReading.{answers, heads, read_operands, term}
use Rattle.smt_text.specs.NodeText.{IsSmallNode, binary_name, node_text}
use Rattle.text_parts.specs.Pieces.{behind, named}
use Rattle.smt_text.specs.declared.head.Head.{Head}
use Rattle.smt_text.specs.declared.head.Head.TheVariants as head
use Rattle.text_parts.proofs.Joined.{five_pieces, seven_pieces, three_pieces, two_pieces}
use Rattle.text_parts.proofs.Words.{not_two, number_back, one_back, starts_plain, three_back, two_back}

lt_true : (a b : ℕ) → a < b → nat_lt a b ≡ true
lt_true a b h = grind (arith, nat_tests)

wide : (n : ℕ) → n < 2 ^ 32 → n < 2 ^ 64
wide n h = omega arith

-- a term whose head and whose operands are read
with_head : (word text : List ℕ) (found : Head) (node : Node) (rest : List ℕ) →
    named heads (word ++ text) ≡ Some (found, text) → read_operands found text ≡ Some (node, rest) →
    term (word ++ text) ≡ Some (node, rest)
unfolding term
with_head word text found node rest head_is read = rw head_is read

named_binary : (op : BinaryOp) (text : List ℕ) →
    named heads (((codes "(" ++ binary_name op) ++ codes " n") ++ text) ≡ Some (head.Binary op, text)
unfolding named behind
named_binary Add text = refl
named_binary Sub text = refl
named_binary Mul text = refl
named_binary Udiv text = refl
named_binary Urem text = refl
named_binary And text = refl
named_binary Or text = refl
named_binary Xor text = refl
named_binary Shl text = refl
named_binary Lshr text = refl
named_binary Ashr text = refl

num_named : (text : List ℕ) → named heads (codes "(_ bv" ++ text) ≡ Some (head.Num, text)
unfolding named behind
num_named text = refl

input_named : (text : List ℕ) → named heads (codes "b" ++ text) ≡ Some (head.Input, text)
unfolding named behind
input_named text = refl

not_named : (text : List ℕ) → named heads (codes "(bvnot n" ++ text) ≡ Some (head.Not, text)
unfolding named behind
not_named text = refl

neg_named : (text : List ℕ) → named heads (codes "(bvneg n" ++ text) ≡ Some (head.Neg, text)
unfolding named behind
neg_named text = refl

ult_named : (text : List ℕ) → named heads (codes "(ite (bvult n" ++ text) ≡ Some (head.Test Ult, text)
unfolding named behind
ult_named text = refl

slt_named : (text : List ℕ) → named heads (codes "(ite (bvslt n" ++ text) ≡ Some (head.Test Slt, text)
unfolding named behind
slt_named text = refl

equal_named : (text : List ℕ) → named heads (codes "(ite (= n" ++ text) ≡ Some (head.Equal, text)
unfolding named behind
equal_named text = refl

extract_named : (text : List ℕ) → named heads (codes "((_ extract " ++ text) ≡ Some (head.Extract, text)
unfolding named behind
extract_named text = refl

sign_named : (text : List ℕ) → named heads (codes "((_ sign_extend " ++ text) ≡ Some (head.Extend true, text)
unfolding named behind
sign_named text = refl

zero_named : (text : List ℕ) → named heads (codes "((_ zero_extend " ++ text) ≡ Some (head.Extend false, text)
unfolding named behind
zero_named text = refl

concat_named : (text : List ℕ) → named heads (codes "(concat n" ++ text) ≡ Some (head.Concat, text)
unfolding named behind
concat_named text = refl

no_equal : (text : List ℕ) → behind (codes " n") (codes " (_ bv1 1)) n" ++ text) ≡ None
unfolding behind
no_equal text = refl

pub term_back : (node : Node) (rest : List ℕ) → IsSmallNode node → starts_plain rest ≡ true →
    term (node_text node ++ rest) ≡ Some (node, rest)
unfolding read_operands
term_back (Num w v) rest small plain =
    ap term (five_pieces (codes "(_ bv") (decimal v) (codes " ") (decimal w) (codes ")") rest)
    ∙ with_head (codes "(_ bv") _ head.Num (Num w v) rest (num_named _)
    (rw (two_back (codes " ") (codes ")") v w rest small.1 (wide w small.0) refl refl, lt_true w (2 ^ 32) small.0) refl)
term_back (Input i) rest small plain =
    ap term (two_pieces (codes "b") (decimal i) rest)
    ∙ with_head (codes "b") _ head.Input (Input i) rest (input_named _)
    (rw (number_back i rest small plain) refl)
term_back (Not a) rest small plain =
    ap term (three_pieces (codes "(bvnot n") (decimal a) (codes ")") rest)
    ∙ with_head (codes "(bvnot n") _ head.Not (Not a) rest (not_named _)
    (rw (one_back (codes ")") a rest small refl) refl)
term_back (Neg a) rest small plain =
    ap term (three_pieces (codes "(bvneg n") (decimal a) (codes ")") rest)
    ∙ with_head (codes "(bvneg n") _ head.Neg (Neg a) rest (neg_named _)
    (rw (one_back (codes ")") a rest small refl) refl)
term_back (Binary op a b) rest small plain =
    ap term (five_pieces ((codes "(" ++ binary_name op) ++ codes " n") (decimal a) (codes " n") (decimal b) (codes ")") rest)
    ∙ with_head ((codes "(" ++ binary_name op) ++ codes " n") _ (head.Binary op) (Binary op a b) rest (named_binary op _)
    (rw (two_back (codes " n") (codes ")") a b rest small.0 small.1 refl refl) refl)
term_back (Compare Ult a b) rest small plain =
    ap term (five_pieces (codes "(ite (bvult n") (decimal a) (codes " n") (decimal b) answers rest)
    ∙ with_head (codes "(ite (bvult n") _ (head.Test Ult) (Compare Ult a b) rest (ult_named _)
    (rw (two_back (codes " n") answers a b rest small.0 small.1 refl refl) refl)
term_back (Compare Slt a b) rest small plain =
    ap term (five_pieces (codes "(ite (bvslt n") (decimal a) (codes " n") (decimal b) answers rest)
    ∙ with_head (codes "(ite (bvslt n") _ (head.Test Slt) (Compare Slt a b) rest (slt_named _)
    (rw (two_back (codes " n") answers a b rest small.0 small.1 refl refl) refl)
term_back (Compare Eq a b) rest small plain =
    ap term (five_pieces (codes "(ite (= n") (decimal a) (codes " n") (decimal b) answers rest)
    ∙ with_head (codes "(ite (= n") _ head.Equal (Compare Eq a b) rest (equal_named _)
    (rw (two_back (codes " n") answers a b rest small.0 small.1 refl refl) refl)
term_back (Ite c a b) rest small plain =
    ap term (seven_pieces (codes "(ite (= n") (decimal c) (codes " (_ bv1 1)) n") (decimal a) (codes " n") (decimal b) (codes ")") rest)
    ∙ with_head (codes "(ite (= n") _ head.Equal (Ite c a b) rest (equal_named _)
    (rw (
      not_two (codes " n") answers c (codes " (_ bv1 1)) n" ++ (decimal a ++ (codes " n" ++ (decimal b ++ (codes ")" ++ rest))))) small.0 refl (no_equal _),
      three_back (codes " (_ bv1 1)) n") (codes " n") (codes ")") c a b rest small.0 small.1 small.2 refl refl refl,
    ) refl)
term_back (Extract high low a) rest small plain =
    ap term (seven_pieces (codes "((_ extract ") (decimal high) (codes " ") (decimal low) (codes ") n") (decimal a) (codes ")") rest)
    ∙ with_head (codes "((_ extract ") _ head.Extract (Extract high low a) rest (extract_named _)
    (rw (three_back (codes " ") (codes ") n") (codes ")") high low a rest (wide high small.0) (wide low small.1) small.2 refl refl refl, lt_true high (2 ^ 32) small.0, lt_true low (2 ^ 32) small.1) refl)
term_back (Extend by true a) rest small plain =
    ap term (five_pieces (codes "((_ sign_extend ") (decimal by) (codes ") n") (decimal a) (codes ")") rest)
    ∙ with_head (codes "((_ sign_extend ") _ (head.Extend true) (Extend by true a) rest (sign_named _)
    (rw (two_back (codes ") n") (codes ")") by a rest (wide by small.0) small.1 refl refl, lt_true by (2 ^ 32) small.0) refl)
term_back (Extend by false a) rest small plain =
    ap term (five_pieces (codes "((_ zero_extend ") (decimal by) (codes ") n") (decimal a) (codes ")") rest)
    ∙ with_head (codes "((_ zero_extend ") _ (head.Extend false) (Extend by false a) rest (zero_named _)
    (rw (two_back (codes ") n") (codes ")") by a rest (wide by small.0) small.1 refl refl, lt_true by (2 ^ 32) small.0) refl)
term_back (Concat a b) rest small plain =
    ap term (five_pieces (codes "(concat n") (decimal a) (codes " n") (decimal b) (codes ")") rest)
    ∙ with_head (codes "(concat n") _ head.Concat (Concat a b) rest (concat_named _)
    (rw (two_back (codes " n") (codes ")") a b rest small.0 small.1 refl refl) refl)
