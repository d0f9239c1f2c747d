-- What the barrel shifter makes of the numbers of two rows.
use Rattle.std.proofs.Common.{◌≡◌, ℕ, zero, suc, ◌+◌, ◌*◌, ◌^◌, ◌<◌, ◌≤◌, nat_lt, Bool, true, false, ◌||◌, if◌then◌else◌, List, [], ◌∷◌, length, replicate, fold, refl, ap, sym, subst, ◌∙◌, arith, inl, inr, mul-zero, one-mul}
use Rattle.std.proofs.Math.Nat.{mul_assoc, mul-one, mul-add, le-mul_of_pos_right}
use Rattle.std.proofs.lemmas.Bool.{ltb-true, ltb-false, cases_Bool}
use Rattle.std.proofs.lemmas.List.{length-replicate}
use Rattle.cnf_form.specs.Literals.{Literal}
use Rattle.cnf_form.specs.Valuations.{literal_value}
use Rattle.circuit_spec.specs.Bytes.{bit_of, number_of_row}
use Rattle.circuit_spec.specs.Formulas.{Formula, constant}
use Rattle.circuit_spec.specs.Gates.{or_gate, mux_gate}
use Rattle.circuit_spec.specs.Rows.{each}
use Rattle.circuit_spec.specs.Shifts.{moved, Stage, with_moved, with_big, next_stage, shift_end, shift_row}
use Rattle.circuit_spec.specs.declared.direction.Direction.{Direction}
use Rattle.circuit_spec.proofs.Truths.{constant_value}
use Rattle.circuit_spec.proofs.EarlierClauses.{Holds, end_before}
use Rattle.circuit_spec.proofs.GateValues.{or_says}
use Rattle.circuit_spec.proofs.Numbers.{number_nil, number_cons, number_below}
use Rattle.circuit_spec.proofs.PlaceByPlace.{length_each, choice_row_number}
use Rattle.circuit_spec.proofs.Shifting.{IsShift}

-- a row of a number, of a width
pub record Shifted (v : ℕ → Bool) (made : List Literal × Formula) (width number : ℕ) : Type 0 where
  pub width_is : length made.0 ≡ width
  pub is : number_of_row v made.0 ≡ number

-- a direction and what comes free do a shift of the numbers, by each distance below the width
pub record IsMove (v : ℕ → Bool) (direction : Direction) (fill : Literal) (width : ℕ) (S : ℕ → ℕ → ℕ) (free : ℕ) : Type 0 where
  pub shift : IsShift width S free
  pub fills : number_of_row v (replicate width fill) ≡ free
  pub keeps : (row : List Literal) (by : ℕ) → length row ≡ width → by < width → length (moved direction fill by row) ≡ width
  pub moves : (row : List Literal) (by : ℕ) → length row ≡ width → by < width → number_of_row v (moved direction fill by row) ≡ S (number_of_row v row) by

-- one stage
stage_moved : (direction : Direction) (fill : Literal) (w : ℕ) (s : Stage) (b : Literal) → nat_lt s.unit w ≡ true
    → next_stage direction fill w s b ≡ with_moved s (each (mux_gate b) (moved direction fill s.unit s.row) s.row s.formula)
unfolding next_stage
stage_moved direction fill w s b is = rw is refl

stage_big : (direction : Direction) (fill : Literal) (w : ℕ) (s : Stage) (b : Literal) → nat_lt s.unit w ≡ false
    → next_stage direction fill w s b ≡ with_big s (or_gate s.big b s.formula)
unfolding next_stage
stage_big direction fill w s b is = rw is refl

-- the number after a stage that moves
choice_is_shift : (S : ℕ → ℕ → ℕ) (n unit : ℕ) (b : Bool) → S n 0 ≡ n → (if b then S n unit else n) ≡ S n (unit * bit_of b)
choice_is_shift S n unit true none = ap (S n) (sym (mul-one unit))
choice_is_shift S n unit false none = sym (ap (S n) (mul-zero unit) ∙ none)

distance : (unit b m : ℕ) → unit * b + unit * 2 * m ≡ unit * (b + 2 * m)
distance unit b m = ap (λ k. unit * b + k) (mul_assoc unit 2 m) ∙ sym (mul-add unit b (2 * m))

-- the number after a further bit
far_enough : (w unit m : ℕ) → w ≤ unit → 0 < m → w ≤ unit * m
far_enough w unit m far some =
    let more : unit ≤ unit * m = le-mul_of_pos_right unit some in
    omega arith

big_case : (w : ℕ) (S : ℕ → ℕ → ℕ) (free : ℕ) → IsShift w S free → (n unit m : ℕ) (big b : Bool) → n < 2 ^ w → w ≤ unit
    → (if big || b then free else S n (unit * m)) ≡ (if big then free else S n (unit * (bit_of b + 2 * m)))
big_case w S free shift n unit m true b small far = refl
big_case w S free shift n unit m false true small far = sym (shift.all n (unit * (1 + 2 * m)) small (far_enough w unit (1 + 2 * m) far (omega arith)))
big_case w S free shift n unit zero false false small far = refl
big_case w S free shift n unit (suc m) false false small far =
    shift.all n (unit * suc m) small (far_enough w unit (suc m) far (omega arith))
    ∙ sym (shift.all n (unit * (0 + 2 * suc m)) small (far_enough w unit (0 + 2 * suc m) far (omega arith)))

-- the end
shifted_end : (v : ℕ → Bool) (direction : Direction) (fill : Literal) (w : ℕ) (S : ℕ → ℕ → ℕ) (free : ℕ) → IsMove v direction fill w S free → (s : Stage) → length s.row ≡ w
    → Holds v (shift_end fill s).1 → Shifted v (shift_end fill s) w (if literal_value v s.big then free else S (number_of_row v s.row) (s.unit * 0))
unfolding shift_end
shifted_end v direction fill w S free move s width h =
    let same : length (replicate (length s.row) fill) ≡ length s.row = length-replicate (length s.row) fill in
    let small : number_of_row v s.row < 2 ^ w = number_below v s.row w width in
    record {
      width_is = length_each (mux_gate s.big) (replicate (length s.row) fill) s.row s.formula same ∙ same ∙ width;
      is = choice_row_number v s.big (replicate (length s.row) fill) s.row s.formula same h
          ∙ ap (λ m. if literal_value v s.big then m else number_of_row v s.row) (ap (λ k. number_of_row v (replicate k fill)) width ∙ move.fills)
          ∙ ap (λ m. if literal_value v s.big then free else m) (sym (ap (S (number_of_row v s.row)) (mul-zero s.unit) ∙ move.shift.none (number_of_row v s.row) small));
    }

-- what a stage and the bits left of the distance make of the stage's row
abbrev Shows : (ℕ → Bool) → Direction → Literal → ℕ → (ℕ → ℕ → ℕ) → ℕ → Stage → List Literal → Bool → ℕ → ℕ → Type 0
Shows v direction fill w S free s b big n far =
    Holds v (shift_end fill (fold (next_stage direction fill w) s b)).1 → Shifted v (shift_end fill (fold (next_stage direction fill w) s b)) w (if big then free else S n far)

abbrev Staged : (ℕ → Bool) → Direction → Literal → ℕ → (ℕ → ℕ → ℕ) → ℕ → List Literal → Type 0
Staged v direction fill w S free b =
    (s : Stage) → length s.row ≡ w → Shows v direction fill w S free s b (literal_value v s.big) (number_of_row v s.row) (s.unit * number_of_row v b)

moved_step : (v : ℕ → Bool) (direction : Direction) (fill : Literal) (w : ℕ) (S : ℕ → ℕ → ℕ) (free : ℕ) → IsMove v direction fill w S free → (l : Literal) (b : List Literal) → Staged v direction fill w S free b
    → (s : Stage) → length s.row ≡ w → s.unit < w
    → Shows v direction fill w S free (with_moved s (each (mux_gate l) (moved direction fill s.unit s.row) s.row s.formula)) b (literal_value v s.big) (number_of_row v s.row) (s.unit * number_of_row v (l ∷ b))
moved_step v direction fill w S free move l b rest s width below h =
    let made : List Literal × Formula = each (mux_gate l) (moved direction fill s.unit s.row) s.row s.formula in
    let same : length (moved direction fill s.unit s.row) ≡ length s.row = move.keeps s.row s.unit width below ∙ sym width in
    let made_width : length made.0 ≡ w = length_each (mux_gate l) (moved direction fill s.unit s.row) s.row s.formula same ∙ move.keeps s.row s.unit width below in
    let next : Shifted v (shift_end fill (fold (next_stage direction fill w) (with_moved s made) b)) w (if literal_value v s.big then free else S (number_of_row v made.0) (s.unit * 2 * number_of_row v b))
    = rest (with_moved s made) made_width h in
    let n : ℕ = number_of_row v s.row in
    let row : number_of_row v made.0 ≡ (if literal_value v l then number_of_row v (moved direction fill s.unit s.row) else n)
    = choice_row_number v l (moved direction fill s.unit s.row) s.row s.formula same (end_before v direction fill w b (with_moved s made) h) in
    let here : number_of_row v made.0 ≡ S n (s.unit * bit_of (literal_value v l))
    = row ∙ ap (λ m. if literal_value v l then m else n) (move.moves s.row s.unit width below) ∙ choice_is_shift S n s.unit (literal_value v l) (move.shift.none n (number_below v s.row w width)) in
    let all : S (number_of_row v made.0) (s.unit * 2 * number_of_row v b) ≡ S n (s.unit * number_of_row v (l ∷ b))
    = ap (λ m. S m (s.unit * 2 * number_of_row v b)) here ∙ move.shift.more n (s.unit * bit_of (literal_value v l)) (s.unit * 2 * number_of_row v b)
    ∙ ap (S n) (distance s.unit (bit_of (literal_value v l)) (number_of_row v b)) ∙ ap (λ m. S n (s.unit * m)) (sym (number_cons v l b)) in
    record { width_is = next.width_is; is = next.is ∙ ap (λ m. if literal_value v s.big then free else m) all }

big_step : (v : ℕ → Bool) (direction : Direction) (fill : Literal) (w : ℕ) (S : ℕ → ℕ → ℕ) (free : ℕ) → IsMove v direction fill w S free → (l : Literal) (b : List Literal) → Staged v direction fill w S free b
    → (s : Stage) → length s.row ≡ w → w ≤ s.unit
    → Shows v direction fill w S free (with_big s (or_gate s.big l s.formula)) b (literal_value v s.big) (number_of_row v s.row) (s.unit * number_of_row v (l ∷ b))
big_step v direction fill w S free move l b rest s width far h =
    let made : Literal × Formula = or_gate s.big l s.formula in
    let n : ℕ = number_of_row v s.row in
    let next : Shifted v (shift_end fill (fold (next_stage direction fill w) (with_big s made) b)) w (if literal_value v made.0 then free else S n (s.unit * number_of_row v b))
    = rest (with_big s made) width h in
    record {
      width_is = next.width_is;
      is = next.is ∙ ap (λ (t : Bool). if t then free else S n (s.unit * number_of_row v b)) (or_says v s.big l s.formula (end_before v direction fill w b (with_big s made) h))
          ∙ big_case w S free move.shift n s.unit (number_of_row v b) (literal_value v s.big) (literal_value v l) (number_below v s.row w width) far
          ∙ ap (λ m. if literal_value v s.big then free else S n (s.unit * m)) (sym (number_cons v l b));
    }

staged : (v : ℕ → Bool) (direction : Direction) (fill : Literal) (w : ℕ) (S : ℕ → ℕ → ℕ) (free : ℕ) → IsMove v direction fill w S free → (b : List Literal) → Staged v direction fill w S free b
staged v direction fill w S free move [] s width h = rw (number_nil v) (shifted_end v direction fill w S free move s width h)
staged v direction fill w S free move (l ∷ b) s width h =
    let rest : Staged v direction fill w S free b = staged v direction fill w S free move b in
    elim (cases_Bool (nat_lt s.unit w)) [
      | inl less ↦ subst (λ (k : Stage). Shows v direction fill w S free k b (literal_value v s.big) (number_of_row v s.row) (s.unit * number_of_row v (l ∷ b)))
          (sym (stage_moved direction fill w s l less)) (moved_step v direction fill w S free move l b rest s width (ltb-true s.unit w less)) h
      | inr more ↦ subst (λ (k : Stage). Shows v direction fill w S free k b (literal_value v s.big) (number_of_row v s.row) (s.unit * number_of_row v (l ∷ b)))
          (sym (stage_big direction fill w s l more)) (big_step v direction fill w S free move l b rest s width (ltb-false s.unit w more)) h
    ]

shift_from : (S : ℕ → ℕ → ℕ) (free n far : ℕ) (t : Bool) → t ≡ false → (if t then free else S n (1 * far)) ≡ S n far
shift_from S free n far true is = cc
shift_from S free n far false is = ap (S n) (one-mul far)

-- a move by a barrel shifter is the shift by the distance's number
pub shift_row_says : (v : ℕ → Bool) → v 1 ≡ true → (direction : Direction) (fill : Literal) (w : ℕ) (S : ℕ → ℕ → ℕ) (free : ℕ) → IsMove v direction fill w S free → (a b : List Literal) (f : Formula) → length a ≡ w
    → Holds v (shift_row direction fill a b f).1 → Shifted v (shift_row direction fill a b f) w (S (number_of_row v a) (number_of_row v b))
unfolding shift_row
shift_row_says v truth direction fill w S free move a b f width h =
    let start : Stage = record { row = a; unit = 1; big = constant false; formula = f } in
    let made : Shifted v (shift_end fill (fold (next_stage direction fill w) start b)) w (if literal_value v (constant false) then free else S (number_of_row v a) (1 * number_of_row v b))
    = staged v direction fill w S free move b start width (rw width at h) in
    rw width (record { width_is = made.width_is; is = made.is ∙ shift_from S free (number_of_row v a) (number_of_row v b) (literal_value v (constant false)) (constant_value v truth false) })
