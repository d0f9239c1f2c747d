-- Rows as bit-vectors: a row of one literal, and the rows of a circuit's terms.
use Rattle.std.proofs.Common.{◌≡◌, ℕ, zero, suc, ◌==◌, Bool, true, false, if◌then◌else◌, List, [], ◌∷◌, length, get_or, map, refl, ap, sym, ◌∙◌, arith}
use Rattle.cnf_form.specs.Literals.{Literal}
use Rattle.cnf_form.specs.Valuations.{literal_value}
use Rattle.bv_dag.specs.BitVectors.{BitVector, bit}
use Rattle.bv_dag.specs.Nodes.{vector_at, width}
use Rattle.bv_dag.proofs.Values.{width-vector_at}
use Rattle.circuit_spec.specs.Bytes.{bit_of, number_of_row}
use Rattle.circuit_spec.specs.Circuits.{row_at, lowest_of}
use Rattle.circuit_spec.specs.Meaning.{row_value}
use Rattle.circuit_spec.proofs.Numbers.{number_one}

pub word : (w x n m : ℕ) → w ≡ x → n ≡ m → let made : BitVector = record { width = w; number = n } in made ≡ record { width = x; number = m }
word w x n m widths numbers = ap {B = BitVector} (λ k. record { width = k; number = n }) widths ∙ ap {B = BitVector} (λ k. record { width = x; number = k }) numbers

bit_is_one : (b : Bool) → (bit_of b == 1) ≡ b
bit_is_one true = refl
bit_is_one false = refl

pub one_bit_number : (v : ℕ → Bool) (t : List Literal) → length t ≡ 1 → literal_value v (lowest_of t) ≡ (number_of_row v t == 1)
one_bit_number v [] one = absurd (omega arith)
one_bit_number v (l ∷ []) one = sym (ap (λ m. m == 1) (number_one v l) ∙ bit_is_one (literal_value v l))
one_bit_number v (l ∷ k ∷ t) one = absurd (omega arith)

bit_number : (b : Bool) → bit_of b ≡ (if b then 1 else 0)
bit_number true = refl
bit_number false = refl

pub one_row : (v : ℕ → Bool) (l : Literal) (t : Bool) → literal_value v l ≡ t → row_value v (l ∷ []) ≡ bit t
one_row v l t is = word 1 1 _ _ refl (number_one v l ∙ ap bit_of is ∙ bit_number t)

abbrev pub words_of : (ℕ → Bool) → List (List Literal) → List BitVector
words_of v rows = map (row_value v) rows

no_row : (v : ℕ → Bool) → row_value v [] ≡ record { width = 0; number = 0 }
unfolding number_of_row
no_row v = refl

pub row_word : (v : ℕ → Bool) (rows : List (List Literal)) (id : ℕ) → row_value v (row_at rows id) ≡ vector_at (words_of v rows) id
row_word v [] id = no_row v
row_word v (r ∷ rows) zero = refl
row_word v (r ∷ rows) (suc id) = row_word v rows id

pub row_width : (v : ℕ → Bool) (rows : List (List Literal)) (id : ℕ) → length (row_at rows id) ≡ get_or (map width (words_of v rows)) id 0
row_width v rows id = ap (λ (s : BitVector). s.width) (row_word v rows id) ∙ width-vector_at (words_of v rows) id
