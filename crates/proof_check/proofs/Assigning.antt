use Rattle.std.proofs.Common.{◌≡◌, ℕ, ◌+◌, ◌-◌, ◌<◌, ◌≤◌, Bool, false, List, ◌++◌, length, get_or, set, map, replicate, All, Some, None, refl, ap, sym, ◌∙◌, arith, inl, inr}
use Rattle.std.proofs.Math.Path.{fun_ext}
use Rattle.std.proofs.Math.ListN.{get_or-map, get_or-eq_default}
use Rattle.std.proofs.lemmas.Bool.{cases_lt, cases_eq, eq-eqb, ne_eqb}
use Rattle.std.proofs.lemmas.List.{get_or-set_same, get_or-set_other, get_or_append_left, get_or-append_right, get_or-replicate, length-replicate}
use Rattle.cnf_form.specs.Literals.{Literal}
use Rattle.cnf_form.specs.Propagation.{assign, unassigned}
use Rattle.proof_check.specs.declared.marks.Mark.{Mark}
use Rattle.proof_check.specs.Marking.{value_in, AreMarks, marked}

abbrev unmarked : Mark
unmarked = record { round = 0; positive = false }

value-other : (r : ℕ) (m : Mark) → (m.round ≡ r → ⊥) → value_in r m ≡ None
value-other r m other = rw (ne_eqb m.round r other) refl

value-same : (r : ℕ) (m : Mark) → m.round ≡ r → value_in r m ≡ Some m.positive
value-same r m same = rw (eq-eqb m.round r same) refl

-- a place without a mark is as one that was never marked
read : (r : ℕ) (marks : List Mark) (v : ℕ) → 0 < r → marked (map (value_in r) marks) v ≡ value_in r (get_or marks v unmarked)
read r marks v begun =
    ap (λ d. get_or (map (value_in r) marks) v d) (sym (value-other r unmarked (λ e. absurd (omega (arith, e, begun)))))
    ∙ get_or-map (value_in r) marks v unmarked

later : (r s : ℕ) (marks : List Mark) (v : ℕ) → s ≡ r + 1 → All (λ m. m.round ≤ r) marks → value_in s (get_or marks v unmarked) ≡ None
later r s marks v next past =
    elim (cases_lt v (length marks)) [
      | inl within ↦ value-other s (get_or marks v unmarked) (λ e. absurd (omega (arith, e, next, past v unmarked within)))
      | inr beyond ↦ ap (value_in s) (get_or-eq_default marks unmarked beyond) ∙ value-other s unmarked (λ e. absurd (omega (arith, e, next)))
    ]

pub cleared : (r s : ℕ) (marks : List Mark) → s ≡ r + 1 → AreMarks r marks → marked (map (value_in s) marks) ≡ unassigned
cleared r s marks next are = fun_ext (λ v. read s marks v (omega (arith, next)) ∙ later r s marks v next are.past)

all_unmarked : (n v k : ℕ) → get_or (replicate n unmarked) (v - k) unmarked ≡ unmarked
all_unmarked n v k =
    elim (cases_lt (v - k) n) [
      | inl within ↦ get_or-replicate n (v - k) unmarked unmarked within
      | inr beyond ↦ get_or-eq_default (replicate n unmarked) unmarked (omega (arith, length-replicate n unmarked, beyond))
    ]

filled : (marks : List Mark) (n v : ℕ) → get_or (marks ++ replicate n unmarked) v unmarked ≡ get_or marks v unmarked
filled marks n v =
    elim (cases_lt v (length marks)) [
      | inl within ↦ get_or_append_left marks (replicate n unmarked) unmarked v within
      | inr beyond ↦ get_or-append_right marks (replicate n unmarked) (length marks) v unmarked refl beyond ∙ all_unmarked n v (length marks) ∙ sym (get_or-eq_default marks unmarked beyond)
    ]

made_at : (r : ℕ) (old new : List Mark) (n v : ℕ) (l : Literal) (p : Bool) (w : ℕ) → AreMarks r old → new ≡ old ++ replicate n unmarked → v ≡ l.variable → p ≡ l.positive → v < length new
    → value_in r (get_or (set new v (record { round = r; positive = p })) w unmarked) ≡ assign (marked (map (value_in r) old)) l w
made_at r old new n v l p w are is variable sign within =
    let m : Mark = record { round = r; positive = p } in
    elim (cases_eq w v) [
      | inl same ↦
          ap (λ k. value_in r (get_or (set new v m) k unmarked)) same ∙ ap (value_in r) (get_or-set_same new v m unmarked within) ∙ value-same r m refl ∙ ap Some sign
          ∙ sym (rw (eq-eqb w l.variable (same ∙ variable)) refl)
      | inr other ↦
          ap (value_in r) (get_or-set_other new v w m unmarked other ∙ ap (λ k. get_or k w unmarked) is ∙ filled old n w)
          ∙ sym (read r old w are.begun)
          ∙ sym (rw (ne_eqb w l.variable (λ e. other (e ∙ sym variable))) refl)
    ]

pub made : (r : ℕ) (old new : List Mark) (n v : ℕ) (l : Literal) (p : Bool) → AreMarks r old → new ≡ old ++ replicate n unmarked → v ≡ l.variable → p ≡ l.positive → v < length new
    → marked (map (value_in r) (set new v (record { round = r; positive = p }))) ≡ assign (marked (map (value_in r) old)) l
made r old new n v l p are is variable sign within =
    fun_ext (λ w. read r (set new v (record { round = r; positive = p })) w are.begun ∙ made_at r old new n v l p w are is variable sign within)
