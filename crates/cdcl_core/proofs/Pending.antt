-- A clause that is calm stays so unless a literal of it becomes false: so only the clauses of such literals are to be
-- looked at.
use Rattle.std.proofs.Common.{◌≡◌, ℕ, zero, suc, ◌+◌, ◌<◌, ◌≤◌, ◌==◌, ◌⊎◌, Bool, true, false, not, ◌&&◌, ◌||◌, nat_le, if◌then◌else◌, List, [], ◌∷◌, ◌++◌, length, get_or, drop, Option, Some, None, slice_get, refl, ap, sym, ◌∙◌, subst, arith, inl, inr}
use Rattle.std.specs.List.{list_all, list_any}
use Rattle.std.proofs.lemmas.Bool.{and_parts, and_from, or_cases, or_parts, or_left, or_right, eq-eqb, eqb-true, cases_eq, cases_lt, leb-true, le-leb, true≢false, false≢true, false_from_ne_true, not_from_false}
use Rattle.std.proofs.Math.Seq.{drop-cons}
use Rattle.std.proofs.lemmas.Option.{slice_get-get_or, slice_get_within}
use Rattle.cnf_form.specs.Literals.{Literal, negation, same_truth, same_literal}
use Rattle.cnf_form.specs.Propagation.{assign, has_value, is_true, is_false, is_falsified, open_literals, only_literal, unit_literal}
use Rattle.cdcl_core.specs.declared.trail.Entry.{Entry}
use Rattle.cdcl_core.specs.Places.{is_among}
use Rattle.cdcl_core.specs.Trails.{trail_values, IsCalm, AreCalm, AreCalmFirst}
use Rattle.cdcl_core.specs.Passes.{has_true, IsLiteralAt, IsTouched, ArePending}
use Rattle.cdcl_core.proofs.Lists.{got_more, got_last}
use Rattle.cdcl_core.proofs.Values.{assign-same, assign-other}
use Rattle.cdcl_core.proofs.Marks.{values_more}
use Rattle.cdcl_core.proofs.Scanning.{same_itself, open_all, calm_satisfied}

either : (b : Bool) → (b ≡ true) ⊎ (b ≡ false)
either true = inl refl
either false = inr refl

-- a literal that isn't the negation of the one that is made true
clash_by : (p q : Bool) → same_truth (not p) q ≡ false → same_truth p (not q) ≡ true → ⊥
clash_by true true other h = false≢true h
clash_by true false other h = true≢false other
clash_by false true other h = true≢false other
clash_by false false other h = false≢true h

clash : (l m : Literal) → m.variable ≡ l.variable → same_literal (negation l) m ≡ false → has_value (Some l.positive) (not m.positive) ≡ true → ⊥
clash l m same other h = clash_by l.positive m.positive (sym (ap (λ b. b && same_truth (not l.positive) m.positive) (eq-eqb l.variable m.variable (sym same))) ∙ other) h

still_false : (a : ℕ → Option Bool) (l k m : Literal) → same_literal (negation l) m ≡ false → is_false (assign (assign a l) k) m ≡ true → is_false (assign a k) m ≡ true
still_false a l k m other h =
    elim (cases_eq m.variable k.variable) [
      | inl same ↦ ap (λ (o : Option Bool). has_value o (not m.positive)) (assign-same a k m.variable same ∙ sym (assign-same (assign a l) k m.variable same)) ∙ h
      | inr apart ↦
          elim (cases_eq m.variable l.variable) [
            | inl same ↦ absurd (clash l m same other (ap (λ (o : Option Bool). has_value o (not m.positive)) (sym (assign-other (assign a l) k m.variable apart ∙ assign-same a l m.variable same)) ∙ h))
            | inr beside ↦ ap (λ (o : Option Bool). has_value o (not m.positive)) (assign-other a k m.variable apart ∙ sym (assign-other (assign a l) k m.variable apart ∙ assign-other a l m.variable beside)) ∙ h
          ]
    ]

all_still_false : (a : ℕ → Option Bool) (l k : Literal) (c : List Literal) → list_any (same_literal (negation l)) c ≡ false → list_all (is_false (assign (assign a l) k)) c ≡ true → list_all (is_false (assign a k)) c ≡ true
all_still_false a l k [] none h = refl
all_still_false a l k (m ∷ c) none h =
    let others : (same_literal (negation l) m ≡ false) × (list_any (same_literal (negation l)) c ≡ false) = or_parts _ _ none in
    let parts : (is_false (assign (assign a l) k) m ≡ true) × (list_all (is_false (assign (assign a l) k)) c ≡ true) = and_parts _ _ h in
    and_from _ _ (still_false a l k m others.0 parts.0) (all_still_false a l k c others.1 parts.1)

without_value : (a : ℕ → Option Bool) (l k : Literal) → assign a l k.variable ≡ None → a k.variable ≡ None
without_value a l k free =
    elim (cases_eq k.variable l.variable) [
      | inl same ↦ absurd (let both : Some l.positive ≡ None = sym (assign-same a l k.variable same) ∙ free in cc)
      | inr apart ↦ sym (assign-other a l k.variable apart) ∙ free
    ]

stays_calm : (a : ℕ → Option Bool) (l : Literal) (c : List Literal) → list_any (same_literal (negation l)) c ≡ false → IsCalm a c → IsCalm (assign a l) c
unfolding is_falsified
stays_calm a l c none calm k free =
    false_from_ne_true (is_falsified (assign (assign a l) k) c) (λ yes. true≢false (sym (all_still_false a l k c none yes) ∙ calm k (without_value a l k free)))

calm_or_touched : (a : ℕ → Option Bool) (l : Literal) (c : List Literal) → IsCalm a c → IsCalm (assign a l) c ⊎ (list_any (same_literal (negation l)) c ≡ true)
calm_or_touched a l c calm =
    elim (either (list_any (same_literal (negation l)) c)) [ inl has ↦ inr has | inr none ↦ inl (stays_calm a l c none calm) ]

-- a clause that forces a literal is satisfied once that is true
only_one : (a : ℕ → Option Bool) (ls : List Literal) (l : Literal) → only_literal a ls ≡ Some l → ls ≡ l ∷ []
only_one a [] l is = cc
only_one a (k ∷ []) l is = only_by (is_true a k) is
  where
    only_by : (t : Bool) → (if t then None else Some k) ≡ Some l → k ∷ [] ≡ l ∷ []
    only_by true h = cc
    only_by false h = cc
only_one a (k ∷ m ∷ ms) l is = cc

none_true : (q : Literal → Bool) (c : List Literal) → list_any q c ≡ false → list_all (λ m. not (q m)) c ≡ true
none_true q [] h = refl
none_true q (m ∷ c) h = let parts : (q m ≡ false) × (list_any q c ≡ false) = or_parts _ _ h in and_from _ _ (not_from_false _ parts.0) (none_true q c parts.1)

now_true : (a : ℕ → Option Bool) (l : Literal) → is_true (assign a l) l ≡ true
now_true a l = ap (λ (o : Option Bool). has_value o l.positive) (assign-same a l l.variable refl) ∙ same_itself l.positive

forced_true : (a : ℕ → Option Bool) (c : List Literal) (l : Literal) → unit_literal a c ≡ Some l → has_true (assign a l) c ≡ true
forced_true a c l is =
    elim (either (has_true (assign a l) c)) [
      | inl has ↦ has
      | inr none ↦
          absurd (let not_true : not (is_true (assign a l) l) ≡ true = open_all (λ m. not (is_true (assign a l) m)) a c l (only_one a (open_literals a c) l is) (none_true (is_true (assign a l)) c none) in
          false≢true (sym (ap not (now_true a l)) ∙ not_true))
    ]

pub forced_calm : (es : List Entry) (e : Entry) (c : List Literal) (l : Literal) → e.literal ≡ l → unit_literal (trail_values es) c ≡ Some l → IsCalm (trail_values (es ++ e ∷ [])) c
forced_calm es e c l same is =
    subst (λ (a : ℕ → Option Bool). IsCalm a c) (ap (assign (trail_values es)) (sym same) ∙ sym (values_more es e)) (calm_satisfied (assign (trail_values es) l) c (forced_true (trail_values es) c l is))

-- places of lists
pub none_past : {X : Type 0} (xs : List X) (i : ℕ) (x : X) → length xs ≤ i → slice_get xs i ≡ Some x → ⊥
none_past [] i x past h = let e : None ≡ Some x = h in cc
none_past (y ∷ ys) zero x past h = absurd (omega (arith, past))
none_past (y ∷ ys) (suc i) x past h = none_past ys i x (omega (arith, past)) h

pub drop_next : (ks : List ℕ) (i : ℕ) → i < length ks → drop i ks ≡ get_or ks i 0 ∷ drop (i + 1) ks
drop_next ks i within = let next : suc i ≡ i + 1 = omega arith in drop-cons ks i 0 within ∙ ap (λ n. get_or ks i 0 ∷ drop n ks) next

pub drop_none : (ks : List ℕ) (i : ℕ) → length ks ≤ i → drop i ks ≡ []
drop_none [] zero past = refl
drop_none [] (suc i) past = refl
drop_none (k ∷ ks) zero past = absurd (omega (arith, past))
drop_none (k ∷ ks) (suc i) past = drop_none ks i (omega (arith, past))

-- the clause that is at a place
clause_at : (clauses : List (List Literal)) (i : ℕ) (c d : List Literal) → i < length clauses → c ≡ get_or clauses i c → slice_get clauses i ≡ Some d → d ≡ c
clause_at clauses i c d within at got =
    let both : Some (get_or clauses i c) ≡ Some d = sym (slice_get-get_or clauses i c within) ∙ got in
    let same : get_or clauses i c ≡ d = cc in
    sym same ∙ sym at

touched_more : (es : List Entry) (e : Entry) (first : ℕ) (c : List Literal) → IsTouched es first c → IsTouched (es ++ e ∷ []) first c
touched_more es e first c t = record { place = t.place; entry = t.entry; late = t.late; there = got_more es (e ∷ []) t.place t.entry t.there; has = t.has }

touched_last : (es : List Entry) (e : Entry) (first : ℕ) (c : List Literal) → first ≤ length es → list_any (same_literal (negation e.literal)) c ≡ true → IsTouched (es ++ e ∷ []) first c
touched_last es e first c late has = record { place = length es; entry = e; late = late; there = got_last es e; has = has }

-- a clause that was calm before the last entry
calm_last : (es : List Entry) (e : Entry) (first : ℕ) (c : List Literal) (P : Type 0) → first ≤ length es → IsCalm (trail_values es) c → IsCalm (trail_values (es ++ e ∷ [])) c ⊎ IsTouched (es ++ e ∷ []) first c ⊎ P
calm_last es e first c P late calm =
    elim (calm_or_touched (trail_values es) e.literal c calm) [
      | inl still ↦ inl (subst (λ (a : ℕ → Option Bool). IsCalm a c) (sym (values_more es e)) still)
      | inr has ↦ inr (inl (touched_last es e first c late has))
    ]

-- the clause at a place was looked at, and is calm
pub looked : (clauses : List (List Literal)) (es : List Entry) (first place : ℕ) (ks : ℕ → Bool) → ((c : List Literal) → slice_get clauses place ≡ Some c → IsCalm (trail_values es) c) → ArePending clauses es first (λ k. (place == k) || ks k) → ArePending clauses es first ks
looked clauses es first place ks calm pending k c at =
    elim (pending k c at) [
      | inl is ↦ inl is
      | inr (inl touched) ↦ inr (inl touched)
      | inr (inr among) ↦ elim (or_cases (place == k) (ks k) among) [
        | inl same ↦ inl (calm c (ap (slice_get clauses) (eqb-true place k same) ∙ at))
        | inr later ↦ inr (inr later)
      ]
    ]

pub looked_within : (clauses : List (List Literal)) (es : List Entry) (first place : ℕ) (ks : ℕ → Bool) (c : List Literal) → place < length clauses → c ≡ get_or clauses place c → IsCalm (trail_values es) c → ArePending clauses es first (λ k. (place == k) || ks k) → ArePending clauses es first ks
looked_within clauses es first place ks c within at calm pending =
    looked clauses es first place ks (λ d got. subst (λ (b : List Literal). IsCalm (trail_values es) b) (sym (clause_at clauses place c d within at got)) calm) pending

-- and it forced a literal
pub looked_forced : (clauses : List (List Literal)) (es : List Entry) (e : Entry) (first place : ℕ) (ks : ℕ → Bool) (c : List Literal) → first ≤ length es → place < length clauses → c ≡ get_or clauses place c → IsCalm (trail_values (es ++ e ∷ [])) c
    → ArePending clauses es first (λ k. (place == k) || ks k) → ArePending clauses (es ++ e ∷ []) first ks
looked_forced clauses es e first place ks c late within at calm pending =
    looked_within clauses (es ++ e ∷ []) first place ks c within at calm (λ k d got.
    elim (pending k d got) [
      | inl is ↦ calm_last es e first d (((place == k) || ks k) ≡ true) late is
      | inr (inl touched) ↦ inr (inl (touched_more es e first d touched))
      | inr (inr among) ↦ inr (inr among)
    ])

-- an entry's clauses are those to come
pub entry_looked : (clauses : List (List Literal)) (es : List Entry) (place : ℕ) (l : Literal) (ks : List ℕ) → IsLiteralAt es place l
    → ((k : ℕ) (c : List Literal) → slice_get clauses k ≡ Some c → list_any (same_literal (negation l)) c ≡ true → is_among ks k ≡ true)
    → ArePending clauses es place (λ k. false) → ArePending clauses es (place + 1) (is_among ks)
entry_looked clauses es place l ks (e, there, made) noted pending k c at =
    elim (pending k c at) [
      | inl is ↦ inl is
      | inr (inl touched) ↦ elim (cases_eq place touched.place) [
        | inl same ↦
            let both : Some e ≡ Some touched.entry = sym there ∙ ap (slice_get es) same ∙ touched.there in
            let entry : e ≡ touched.entry = cc in
            inr (inr (noted k c at (ap (λ (m : Literal). list_any (same_literal (negation m)) c) (sym made ∙ ap (λ (f : Entry). f.literal) entry) ∙ touched.has)))
        | inr apart ↦ inr (inl (record { place = touched.place; entry = touched.entry; late = omega (arith, apart, touched.late); there = touched.there; has = touched.has }))
      ]
      | inr (inr none) ↦ absurd (false≢true none)
    ]

-- no place in these lists, and the places from one on
pub among_none : (clauses : List (List Literal)) (es : List Entry) (first : ℕ) (ks : List ℕ) → ks ≡ [] → ArePending clauses es first (is_among ks) → ArePending clauses es first (λ k. false)
among_none clauses es first ks none pending = subst (λ (js : List ℕ). ArePending clauses es first (is_among js)) none pending

pub among_next : (clauses : List (List Literal)) (es : List Entry) (first j : ℕ) (ks js : List ℕ) → ks ≡ j ∷ js → ArePending clauses es first (is_among ks) → ArePending clauses es first (λ k. (j == k) || is_among js k)
among_next clauses es first j ks js is pending = subst (λ (is : List ℕ). ArePending clauses es first (is_among is)) is pending

from_by : (i k : ℕ) → nat_le i k ≡ true → ((i == k) || nat_le (i + 1) k) ≡ true
from_by i k h =
    elim (cases_eq i k) [
      | inl same ↦ or_left _ _ (eq-eqb i k same)
      | inr apart ↦ or_right _ _ (le-leb (i + 1) k (omega (arith, leb-true i k h, apart)))
    ]

pub from_next : (clauses : List (List Literal)) (es : List Entry) (first i : ℕ) → ArePending clauses es first (nat_le i) → ArePending clauses es first (λ k. (i == k) || nat_le (i + 1) k)
from_next clauses es first i pending k c at =
    elim (pending k c at) [
      | inl is ↦ inl is
      | inr (inl touched) ↦ inr (inl touched)
      | inr (inr late) ↦ inr (inr (from_by i k late))
    ]

pub from_end : (clauses : List (List Literal)) (es : List Entry) (first i : ℕ) → length clauses ≤ i → ArePending clauses es first (nat_le i) → ArePending clauses es first (λ k. false)
from_end clauses es first i past pending k c at =
    elim (pending k c at) [
      | inl is ↦ inl is
      | inr (inl touched) ↦ inr (inl touched)
      | inr (inr late) ↦ absurd (omega (arith, past, slice_get_within clauses k c at, leb-true i k late))
    ]

pub from_first : (clauses : List (List Literal)) (es : List Entry) (first n : ℕ) → AreCalmFirst n (trail_values es) clauses → ArePending clauses es first (nat_le n)
from_first clauses es first n calm k c at =
    elim (cases_lt k n) [
      | inl early ↦ inl (calm k c early at)
      | inr late ↦ inr (inr (le-leb n k late))
    ]

-- a decision, where each clause is calm
pub decided : (clauses : List (List Literal)) (es : List Entry) (e : Entry) → AreCalm (trail_values es) clauses → ArePending clauses (es ++ e ∷ []) (length es) (λ k. false)
decided clauses es e calm k c at = calm_last es e (length es) c (false ≡ true) (omega arith) (calm k c at)

-- no entry is left
pub all_looked : (clauses : List (List Literal)) (es : List Entry) (place : ℕ) → length es ≤ place → ArePending clauses es place (λ k. false) → AreCalm (trail_values es) clauses
all_looked clauses es place past pending k c at =
    elim (pending k c at) [
      | inl is ↦ is
      | inr (inl touched) ↦ absurd (none_past es touched.place touched.entry (omega (arith, past, touched.late)) touched.there)
      | inr (inr none) ↦ absurd (false≢true none)
    ]
