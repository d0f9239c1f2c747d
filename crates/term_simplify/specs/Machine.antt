-- What the machine's products, quotients and remainders are made of: RISC-V unprivileged manual, "M
-- Extension for Integer Multiplication and Division". The operands are terms of 32 bits.
use Rattle.std.specs.Prelude.{ℕ, ◌-◌, ◌^◌, Bool, false, Option, Some, None}
use Rattle.bv_dag.specs.Graphs.{Graph, number_of}
use Rattle.bv_dag.specs.declared.nodes.BinaryOp.TheVariants.{Mul, Udiv, Urem, Xor}
use Rattle.bv_dag.specs.declared.nodes.Comparison.TheVariants.{Eq}
use Rattle.rv_decode.specs.declared.ops.RegisterOp.{RegisterOp}
use Rattle.rv_spec.specs.Arithmetic.{combined}
use Rattle.term_trees.specs.Trees.{Tree, Constant, tree_width}
use Rattle.term_simplify.specs.Plain.{part_of, extension_by}
use Rattle.term_simplify.specs.Simplified.{negative_of, binary_of, comparison_of, choice_of}
use Rattle.term_simplify.specs.Builds.{Builds}
use Rattle.term_simplify.specs.Plans.{under_signs}

-- the top bit
abbrev pub sign_tree : Tree → Tree
sign_tree t = part_of 31 31 t

-- the negative of a term where the bit is 1
abbrev pub signed_tree : (bit t : Tree) → Tree
signed_tree bit t = choice_of bit (negative_of t) t

-- how far a term is from 0: of a narrower one widened by its sign that has no more bits than it
abbrev pub magnitude_by : Option Tree → Tree → Tree
magnitude_by (Some u) t =
    extension_by (32 - tree_width u) false (choice_of (sign_tree t) (negative_of u) u)
magnitude_by None t = signed_tree (sign_tree t) t

abbrev pub magnitude_tree : Tree → Tree
magnitude_tree t = magnitude_by (under_signs t) t

-- the quotient of the magnitudes, negative where the signs differ
abbrev pub signed_quotient_tree : Tree → Tree → Tree
signed_quotient_tree s t =
    signed_tree (binary_of Xor (sign_tree s) (sign_tree t))
    (binary_of Udiv (magnitude_tree s) (magnitude_tree t))

-- all ones where the divisor is 0, else the quotient
abbrev pub or_ones_tree : (divisor quotient : Tree) → Tree
or_ones_tree divisor quotient =
    choice_of (comparison_of Eq divisor (Constant 32 0)) (Constant 32 (2 ^ 32 - 1)) quotient

-- DIV
unfoldable pub quotient_tree : Tree → Tree → Tree
quotient_tree s t = or_ones_tree t (signed_quotient_tree s t)

-- REM: the remainder of the magnitudes with the sign of the dividend, and so the dividend by zero
unfoldable pub remainder_tree : Tree → Tree → Tree
remainder_tree s t =
    signed_tree (sign_tree s) (binary_of Urem (magnitude_tree s) (magnitude_tree t))

-- MULH, MULHSU, MULHU: the upper 32 bits of the product of 64, by whether each operand is signed
unfoldable pub upper_tree : (first second : Bool) → Tree → Tree → Tree
upper_tree first second s t =
    part_of 63 32 (binary_of Mul (extension_by 32 first s) (extension_by 32 second t))

-- the answer for an instruction: this tree, of 32 bits, worth what the machine computes
abbrev pub BuildsCombined : (old new : Graph) → RegisterOp → (a b : ℕ) → (made : Tree) →
    (id : ℕ) → Type 0
BuildsCombined old new op a b made id =
    Builds old new id made 32
    (λ input. record {
      width = 32;
      number = combined op (number_of old a input) (number_of old b input);
    })
