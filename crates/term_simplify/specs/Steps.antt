-- Terms on the way to an answer of several nodes, and what they are worth.
use Rattle.std.specs.Prelude.{◌≡◌, ◌<◌, ◌-◌, ◌^◌, ◌==◌, ℕ, Bool, List, All, length, nat_lt}
use Rattle.bv_dag.specs.BitVectors.{BitVector, bvneg, bvand, bvxor, bvmul, bvudiv, bvurem, equal, ite, extract}
use Rattle.bv_dag.specs.Graphs.{Graph, val, width_of, number_of}
use Rattle.bv_dag.specs.Nodes.{binary, extend}
use Rattle.bv_dag.specs.declared.nodes.BinaryOp.{BinaryOp}
use Rattle.bv_dag.specs.declared.nodes.Comparison.{Comparison}
use Rattle.bv_dag.specs.declared.nodes.Comparison.TheVariants.{Ult, Slt, Eq}
use Rattle.rv_decode.specs.declared.ops.RegisterOp.{RegisterOp}
use Rattle.rv_spec.specs.Arithmetic.{combined, is_less_signed}
use Rattle.term_trees.specs.Trees.{Tree, tree_of}
use Rattle.term_simplify.specs.declared.narrowing.Narrow.{Narrow}

-- the term is there, is this tree, has so many bits, and is worth this
pub record Stands (graph : Graph) (id : ℕ) (made : Tree) (bits : ℕ) (word : List ℕ → BitVector) :
    Type 0 where
  pub there : id < length graph.nodes
  pub tree : tree_of graph id ≡ made
  pub width : width_of graph id ≡ bits
  pub value : (input : List ℕ) → All (λ b. b < 256) input → val graph id input ≡ word input

-- low bits, and what is made of them widened
abbrev pub low_word : Narrow → BitVector → BitVector
low_word n s = extract (n.bits - 1) 0 s

abbrev pub widened_word : (width : ℕ) → Narrow → BitVector → BitVector
widened_word width n s = extend n.signed (width - n.bits) s

-- a quotient made of low bits, or all ones where the divisor is 0
abbrev pub or_ones_word_at : (width : ℕ) → Narrow → (divisor quotient : BitVector) → BitVector
or_ones_word_at width n divisor quotient =
    ite (equal divisor (record { width = n.bits; number = 0 }))
    (record { width = width; number = 2 ^ width - 1 }) quotient

-- what the trees of `Machine` are worth, from the values of their operands
abbrev pub sign_word : BitVector → BitVector
sign_word s = extract 31 31 s

abbrev pub signed_word : (bit s : BitVector) → BitVector
signed_word bit s = ite bit (bvneg s) s

abbrev pub magnitude_word : BitVector → BitVector
magnitude_word s = signed_word (sign_word s) s

abbrev pub signed_quotient_word : BitVector → BitVector → BitVector
signed_quotient_word s t =
    signed_word (bvxor (sign_word s) (sign_word t)) (bvudiv (magnitude_word s) (magnitude_word t))

abbrev pub or_ones_word : (divisor quotient : BitVector) → BitVector
or_ones_word divisor quotient =
    ite (equal divisor (record { width = 32; number = 0 }))
    (record { width = 32; number = 2 ^ 32 - 1 }) quotient

abbrev pub remainder_word : BitVector → BitVector → BitVector
remainder_word s t = signed_word (sign_word s) (bvurem (magnitude_word s) (magnitude_word t))

abbrev pub upper_word : (first second : Bool) → BitVector → BitVector → BitVector
upper_word first second s t = extract 63 32 (bvmul (extend first 32 s) (extend second 32 t))

-- what a shift by the low five bits is worth
abbrev pub shift_word : BinaryOp → BitVector → BitVector → BitVector
shift_word op s t = binary op s (bvand t (record { width = 32; number = 31 }))

-- whether a comparison of two numbers below 2 ^ 32 holds
abbrev pub compares : Comparison → ℕ → ℕ → Bool
compares Ult a b = nat_lt a b
compares Slt a b = is_less_signed a b
compares Eq a b = a == b

-- a term of 32 bits that is worth what the machine computes of two others
abbrev pub StandsCombined : (old new : Graph) → RegisterOp → (a b : ℕ) → (made : Tree) →
    (id : ℕ) → Type 0
StandsCombined old new op a b made id =
    Stands new id made 32
    (λ input. record {
      width = 32;
      number = combined op (number_of old a input) (number_of old b input);
    })
