-- Rows that are shifted are the standard's shifts.
use Rattle.std.proofs.Common.{◌≡◌, ℕ, ◌-◌, ◌*◌, ◌/◌, ◌%◌, ◌^◌, ◌<◌, nat_lt, Bool, true, false, if◌then◌else◌, List, length, take, refl, ap, sym, ◌∙◌}
use Rattle.std.proofs.Math.Nat.{mod-eq_of_lt}
use Rattle.std.proofs.lemmas.Nat.{pow_pos}
use Rattle.std.proofs.lemmas.Bool.{ltb-false}
use Rattle.cnf_form.specs.Literals.{Literal}
use Rattle.cnf_form.specs.Valuations.{literal_value}
use Rattle.bv_dag.specs.BitVectors.{BitVector, is_negative, bvnot, bvshl, bvlshr, bvashr}
use Rattle.circuit_spec.specs.Bytes.{number_of_row}
use Rattle.circuit_spec.specs.Formulas.{Formula, constant}
use Rattle.circuit_spec.specs.Rows.{top_of}
use Rattle.circuit_spec.specs.Shifts.{shift_row}
use Rattle.circuit_spec.specs.declared.direction.Direction.TheVariants.{Up, Down}
use Rattle.circuit_spec.specs.Meaning.{row_value}
use Rattle.circuit_spec.proofs.Truths.{constant_value}
use Rattle.circuit_spec.proofs.EarlierClauses.{Holds}
use Rattle.circuit_spec.proofs.Numbers.{number_bound}
use Rattle.circuit_spec.proofs.Words.{word}
use Rattle.circuit_spec.proofs.TopValues.{Topped, topped}
use Rattle.circuit_spec.proofs.Shifting.{IsShift, up, down, down_ones, up_is, down_is, ones_small}
use Rattle.circuit_spec.proofs.ShiftValues.{Shifted, shift_row_says}
use Rattle.circuit_spec.proofs.Moves.{up_move, down_move, down_ones_move}

-- a shift by cases of the distance, as the standard has it
by_distance : (w : ℕ) (S : ℕ → ℕ → ℕ) (free : ℕ) → IsShift w S free → (n far : ℕ) → n < 2 ^ w → (t : Bool) → nat_lt far w ≡ t → S n far ≡ (if t then S n far else free)
by_distance w S free shift n far small true is = refl
by_distance w S free shift n far small false is = shift.all n far small (ltb-false far w is)

low_part : (w n far : ℕ) (t : Bool) → (if t then up w n far else 0) ≡ (if t then n * 2 ^ far else 0) % 2 ^ w
low_part w n far true = refl
low_part w n far false = sym (mod-eq_of_lt (pow_pos w))

shl_number : (w n far : ℕ) → n < 2 ^ w → up w n far ≡ (if nat_lt far w then n * 2 ^ far else 0) % 2 ^ w
shl_number w n far small = by_distance w (up w) 0 (up_is w) n far small (nat_lt far w) refl ∙ low_part w n far (nat_lt far w)

lshr_number : (w n far : ℕ) → n < 2 ^ w → down n far ≡ (if nat_lt far w then n / 2 ^ far else 0)
lshr_number w n far small = by_distance w down 0 (down_is w) n far small (nat_lt far w) refl

pub shl_means : (v : ℕ → Bool) (a b : List Literal) (f : Formula) → v 1 ≡ true → Holds v (shift_row Up (constant false) a b f).1
    → row_value v (shift_row Up (constant false) a b f).0 ≡ bvshl (row_value v a) (row_value v b)
unfolding bvshl
shl_means v a b f truth h =
    let made : Shifted v (shift_row Up (constant false) a b f) (length a) (up (length a) (number_of_row v a) (number_of_row v b))
    = shift_row_says v truth Up (constant false) (length a) (up (length a)) 0 (up_move v (constant false) (constant_value v truth false) (length a)) a b f refl h in
    word _ _ _ _ made.width_is (made.is ∙ shl_number (length a) (number_of_row v a) (number_of_row v b) (number_bound v a))

down_says : (v : ℕ → Bool) → v 1 ≡ true → (fill : Literal) → literal_value v fill ≡ false → (a b : List Literal) (f : Formula) → Holds v (shift_row Down fill a b f).1
    → row_value v (shift_row Down fill a b f).0 ≡ bvlshr (row_value v a) (row_value v b)
unfolding bvlshr
down_says v truth fill is a b f h =
    let made : Shifted v (shift_row Down fill a b f) (length a) (down (number_of_row v a) (number_of_row v b))
    = shift_row_says v truth Down fill (length a) down 0 (down_move v fill is (length a)) a b f refl h in
    word _ _ _ _ made.width_is (made.is ∙ lshr_number (length a) (number_of_row v a) (number_of_row v b) (number_bound v a))

pub lshr_means : (v : ℕ → Bool) (a b : List Literal) (f : Formula) → v 1 ≡ true → Holds v (shift_row Down (constant false) a b f).1
    → row_value v (shift_row Down (constant false) a b f).0 ≡ bvlshr (row_value v a) (row_value v b)
lshr_means v a b f truth h = down_says v truth (constant false) (constant_value v truth false) a b f h

down_ones_says : (v : ℕ → Bool) → v 1 ≡ true → (fill : Literal) → literal_value v fill ≡ true → (a b : List Literal) (f : Formula) → Holds v (shift_row Down fill a b f).1
    → row_value v (shift_row Down fill a b f).0 ≡ bvnot (bvlshr (bvnot (row_value v a)) (row_value v b))
unfolding bvlshr bvnot
down_ones_says v truth fill is a b f h =
    let w : ℕ = length a in
    let made : Shifted v (shift_row Down fill a b f) w (down_ones w (number_of_row v a) (number_of_row v b))
    = shift_row_says v truth Down fill w (down_ones w) (2 ^ w - 1) (down_ones_move v fill is w) a b f refl h in
    word _ _ _ _ made.width_is (made.is ∙ ap (λ m. 2 ^ w - 1 - m) (lshr_number w (2 ^ w - 1 - number_of_row v a) (number_of_row v b) (ones_small (2 ^ w) (number_of_row v a) (pow_pos w))))

ashr_by : (s t r : BitVector) (b : Bool) → is_negative s ≡ b → (b ≡ true → r ≡ bvnot (bvlshr (bvnot s) t)) → (b ≡ false → r ≡ bvlshr s t) → r ≡ bvashr s t
unfolding bvashr
ashr_by s t r true is ones zeros = rw is (ones refl)
ashr_by s t r false is ones zeros = rw is (zeros refl)

pub ashr_means : (v : ℕ → Bool) (a b : List Literal) (f : Formula) → v 1 ≡ true → 0 < length a → Holds v (shift_row Down (top_of a) a b f).1
    → row_value v (shift_row Down (top_of a) a b f).0 ≡ bvashr (row_value v a) (row_value v b)
ashr_means v a b f truth some h =
    let top : Topped v a (2 ^ (length a - 1)) (number_of_row v (take (length a - 1) a)) = topped v a some in
    ashr_by (row_value v a) (row_value v b) (row_value v (shift_row Down (top_of a) a b f).0) (literal_value v (top_of a)) top.sign
    (λ is. down_ones_says v truth (top_of a) is a b f h) (λ is. down_says v truth (top_of a) is a b f h)
