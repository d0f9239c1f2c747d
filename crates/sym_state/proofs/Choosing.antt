-- Bits of terms, and choices between bytes.
use Rattle.std.proofs.Common.{◌≡◌, ℕ, ◌+◌, ◌-◌, ◌/◌, ◌%◌, ◌^◌, ◌<◌, Bool, true, false, List, refl, ap, ◌∙◌, arith}
use Rattle.std.specs.Prelude.{◌==◌, All, Result, Ok, Err, IfOk, if◌then◌else◌}
use Rattle.std.proofs.lemmas.Bool.Decides.{nat_tests}
use Rattle.bv_dag.specs.BitVectors.{BitVector, extract, ite}
use Rattle.bv_dag.specs.Graphs.{Graph, number_of, val, width_of}
use Rattle.bv_dag.specs.declared.nodes.Node.TheVariants.{Extract, Ite}
use Rattle.cow_pages.specs.declared.byte.Byte.{Byte}
use Rattle.cow_pages.specs.declared.byte.Byte.TheVariants.{Number as ByteNumber, Term as ByteTerm}
use Rattle.term_simplify.specs.Builds.{BuildsNode}
use Rattle.term_trees.specs.Growth.{Continues}
use Rattle.term_trees.specs.Trees.{Tree}
use Rattle.sym_state.specs.Expressions.{are_equal, byte_choice, byte_expression}
use Rattle.sym_state.specs.Values.{GivesBit, GivesByte, GivesTerm, GivesValue, IsBit, IsByte, IsWide, bit_worth, byte_worth, worth_of}
use Rattle.sym_state.specs.declared.value.Value.{Value}
use Rattle.sym_state.specs.declared.value.Bit.{Bit}
use Rattle.sym_state.specs.declared.value.Bit.TheVariants.{Term}
use Rattle.sym_state.proofs.Growing.{Continues-trans, number-grown}
use Rattle.sym_state.proofs.Grown.{Continues-refl}

-- ---- One bit.
extract-bit : (x : BitVector) (at : ℕ) → (extract at at x).number ≡ x.number / 2 ^ at % 2
unfolding extract
extract-bit x at =
    let none : at - at ≡ 0 = omega arith in
    ap (λ k. x.number / 2 ^ at % 2 ^ (k + 1)) none

pub bit_width : (at : ℕ) → at - at + 1 ≡ 1
bit_width at = omega arith

pub gives_bit : (g h : Graph) (id at made : ℕ) (bit : Bit) → BuildsNode g h (Extract at at id) made → IsBit h bit
    → ((input : List ℕ) → bit_worth h input bit ≡ bit_worth h input (Term made))
    → GivesBit g h bit (λ input. number_of g id input / 2 ^ at % 2 == 1)
gives_bit g h id at made bit built is worth = record {
  continues = built.continues;
  is_bit = is;
  worth = λ input bytes.
      worth input ∙ ap (λ (x : BitVector). x.number == 1) (built.value input bytes)
      ∙ ap (λ n. n == 1) (extract-bit (val g id input) at);
}

-- ---- A choice.
pub ite-number : (c s t : BitVector) → (ite c s t).number ≡ (if c.number == 1 then s.number else t.number)
unfolding ite
ite-number c s t = refl

chosen_is : (f g h : Graph) (w bit a b id : ℕ) (first second : List ℕ → ℕ) → Continues f g
    → width_of f bit ≡ 1 → width_of g a ≡ w
    → ((input : List ℕ) → All (λ n. n < 256) input → number_of g a input ≡ first input)
    → ((input : List ℕ) → All (λ n. n < 256) input → number_of g b input ≡ second input)
    → BuildsNode g h (Ite bit a b) id
    → GivesTerm f h w id (λ input. if number_of f bit input == 1 then first input else second input)
chosen_is f g h w bit a b id first second grown is_bit wide one other built = record {
  continues = Continues-trans grown built.continues;
  width = built.width ∙ wide;
  worth = λ input bytes.
      ap (λ (x : BitVector). x.number) (built.value input bytes)
      ∙ ite-number (val g bit input) (val g a input) (val g b input)
      ∙ ap (λ n. if n == 1 then number_of g a input else number_of g b input)
      (number-grown f g bit 1 input grown is_bit (omega arith))
      ∙ ap (λ n. if number_of f bit input == 1 then n else number_of g b input) (one input bytes)
      ∙ ap (λ n. if number_of f bit input == 1 then first input else n) (other input bytes);
}

pub gives_choice : {E : Type 0} (f g h : Graph) (w : ℕ) (r : Result ℕ E) (bit a b : ℕ) (first second : List ℕ → ℕ) → Continues f g
    → width_of f bit ≡ 1 → width_of g a ≡ w
    → ((input : List ℕ) → All (λ n. n < 256) input → number_of g a input ≡ first input)
    → ((input : List ℕ) → All (λ n. n < 256) input → number_of g b input ≡ second input)
    → IfOk r (BuildsNode g h (Ite bit a b))
    → IfOk r (λ id. GivesTerm f h w id (λ input. if number_of f bit input == 1 then first input else second input))
gives_choice f g h w (Err e) bit a b first second grown is_bit wide one other built = tt
gives_choice f g h w (Ok id) bit a b first second grown is_bit wide one other built =
    chosen_is f g h w bit a b id first second grown is_bit wide one other built

-- the value that a choice is
pub gives_value : (f g h : Graph) (v : Value) (bit a b id : ℕ) (first second : List ℕ → ℕ)
    → ((input : List ℕ) → All (λ n. n < 256) input → number_of g a input ≡ first input)
    → ((input : List ℕ) → All (λ n. n < 256) input → number_of g b input ≡ second input)
    → Continues f g → width_of f bit ≡ 1 → width_of g a ≡ 32 → BuildsNode g h (Ite bit a b) id → IsWide h v
    → ((input : List ℕ) → worth_of h input v ≡ number_of h id input)
    → GivesValue f h v (λ input. if number_of f bit input == 1 then first input else second input)
gives_value f g h v bit a b id first second one other grown is_bit has_width built wide worth =
    let gives = chosen_is f g h 32 bit a b id first second grown is_bit has_width one other built in
    record { continues = gives.continues; wide = wide; worth = λ input bytes. worth input ∙ gives.worth input bytes }

equal_worth : (g : Graph) (input : List ℕ) (a b : Byte) → are_equal (byte_expression g a) (byte_expression g b) ≡ true
    → byte_worth g input a ≡ byte_worth g input b
equal_worth g input (ByteNumber a) (ByteNumber b) same = grind (arith, nat_tests, same)
equal_worth g input (ByteNumber a) (ByteTerm b) same = cc same
equal_worth g input (ByteTerm a) (ByteNumber b) same = cc same
equal_worth g input (ByteTerm a) (ByteTerm b) same = cc same

first_of_equal : (test : Bool) (a b : ℕ) → a ≡ b → a ≡ (if test then a else b)
first_of_equal true a b same = refl
first_of_equal false a b same = same

-- of two equal bytes, the first
pub gives_first : (g : Graph) (bit : ℕ) (a b : Byte) → IsByte g a
    → are_equal (byte_expression g a) (byte_expression g b) ≡ true
    → GivesByte g g a (λ input. if number_of g bit input == 1 then byte_worth g input a else byte_worth g input b)
gives_first g bit a b is same = record {
  continues = Continues-refl g;
  is_byte = is;
  worth = λ input bytes.
      first_of_equal (number_of g bit input == 1) (byte_worth g input a) (byte_worth g input b) (equal_worth g input a b same);
}

pub first_chosen : (g : Graph) (c : Tree) (a b : Byte) → are_equal (byte_expression g a) (byte_expression g b) ≡ true
    → byte_expression g a ≡ byte_choice c (byte_expression g a) (byte_expression g b)
first_chosen g c a b same = rw same refl
