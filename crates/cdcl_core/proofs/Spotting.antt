-- Two literals of a clause may show that it is calm.
use Rattle.std.proofs.Common.{◌≡◌, ℕ, zero, suc, ◌==◌, ◌&&◌, ◌||◌, not, is_none, Bool, true, List, [], ◌∷◌, Option, Some, None, slice_get, refl, ap, sym, ◌∙◌, inl, inr}
use Rattle.std.specs.List.{list_any}
use Rattle.std.proofs.lemmas.Bool.{and_parts, or_cases, or_left, or_right, cases_eq, not-true, eqb-false}
use Rattle.cnf_form.specs.Literals.{Literal}
use Rattle.cnf_form.specs.Propagation.{is_true}
use Rattle.cdcl_core.specs.Trails.{IsCalm}
use Rattle.cdcl_core.specs.Spots.{keep_calm}
use Rattle.cdcl_core.proofs.Scanning.{is_beside, beside, calm_satisfied, calm_open}

any_got : (q : Literal → Bool) (c : List Literal) (k : ℕ) (l : Literal) → slice_get c k ≡ Some l → q l ≡ true → list_any q c ≡ true
any_got q [] k l at h = let e : None ≡ Some l = at in cc
any_got q (m ∷ c) zero l at h = let same : m ≡ l = cc in or_left _ _ (ap q same ∙ h)
any_got q (m ∷ c) (suc k) l at h = or_right _ _ (any_got q c k l at h)

has_none : (o : Option Bool) → is_none o ≡ true → o ≡ None
has_none None h = refl
has_none (Some t) h = cc

calm_by_two : (a : ℕ → Option Bool) (c : List Literal) (i k : ℕ) (l m : Literal) → slice_get c i ≡ Some l → slice_get c k ≡ Some m → (is_none (a l.variable) && is_none (a m.variable) && not (l.variable == m.variable)) ≡ true → IsCalm a c
calm_by_two a c i k l m first second h =
    let parts : ((is_none (a l.variable) && is_none (a m.variable)) ≡ true) × (not (l.variable == m.variable) ≡ true) = and_parts (is_none (a l.variable) && is_none (a m.variable)) (not (l.variable == m.variable)) h in
    let both : (is_none (a l.variable) ≡ true) × (is_none (a m.variable) ≡ true) = and_parts (is_none (a l.variable)) (is_none (a m.variable)) parts.0 in
    calm_open a c (λ x. elim (cases_eq l.variable x) [
      | inl same ↦ any_got (is_beside a x) c k m second (beside a x m (has_none (a m.variable) both.1) (λ e. eqb-false l.variable m.variable (not-true _ parts.1) (same ∙ sym e)))
      | inr other ↦ any_got (is_beside a x) c i l first (beside a x l (has_none (a l.variable) both.0) other)
    ])

pub calm_by : (a : ℕ → Option Bool) (c : List Literal) (i k : ℕ) (l m : Literal) → slice_get c i ≡ Some l → slice_get c k ≡ Some m → keep_calm a l m ≡ true → IsCalm a c
calm_by a c i k l m first second h =
    elim (or_cases (is_true a l || is_true a m) (is_none (a l.variable) && is_none (a m.variable) && not (l.variable == m.variable)) h) [
      | inl one ↦ elim (or_cases (is_true a l) (is_true a m) one) [
        | inl here ↦ calm_satisfied a c (any_got (is_true a) c i l first here)
        | inr there ↦ calm_satisfied a c (any_got (is_true a) c k m second there)
      ]
      | inr free ↦ calm_by_two a c i k l m first second free
    ]
