-- How far a search goes back: two literals of the clause had no value before the entry with the second of their numbers, and
-- so the clause is calm before each decision that stays.
use Rattle.std.proofs.Common.{◌≡◌, ℕ, ◌+◌, ◌<◌, ◌≤◌, nat_lt, Bool, true, false, not, List, [], ◌∷◌, ◌++◌, length, get_or, take, Option, Some, None, slice_get, is_none, is_some, refl, ap, sym, ◌∙◌, subst, arith, inl, inr}
use Rattle.std.specs.List.{list_any, list_all}
use Rattle.std.proofs.lemmas.Bool.{and_parts, or_cases, or_left, or_right, cases_eq, ltb-true, true≢false, false≢true}
use Rattle.std.proofs.lemmas.List.{take_more, take_all}
use Rattle.std.proofs.lemmas.Option.{slice_get-get_or}
use Rattle.cnf_form.specs.Literals.{Literal}
use Rattle.cnf_form.specs.Clauses.{are_increasing}
use Rattle.cnf_form.specs.Propagation.{unassigned}
use Rattle.cdcl_core.specs.declared.trail.Entry.{Entry}
use Rattle.cdcl_core.specs.Trails.{trail_values, IsTrail, AreCalm, IsCalm, IsDecisionAt, IsCalmBefore}
use Rattle.cdcl_core.proofs.Lists.{got_take, take_shorter}
use Rattle.cdcl_core.proofs.Values.{trail_with, calm_before, first_is_trail}
use Rattle.cdcl_core.proofs.Scanning.{is_beside, any_more, any_last, beside, calm_open, front_is_below}

-- whether a literal has no value
abbrev is_open : (ℕ → Option Bool) → Literal → Bool
is_open a l = is_none (a l.variable)

-- the numbers of a walk over literals: before its entry one of them has no value, and before the second's two
pub record IsSecond (entries : List Entry) (p : List Literal) (first second : ℕ) : Type 0 where
  pub one : (n : ℕ) → n < first → list_any (is_open (trail_values (take n entries))) p ≡ true
  pub two : (n x : ℕ) → n < second → list_any (is_beside (trail_values (take n entries)) x) p ≡ true
  pub order : second ≤ first

open_beside : (a : ℕ → Option Bool) (x : ℕ) (p : List Literal) → list_all (λ j. nat_lt j.variable x) p ≡ true → list_any (is_open a) p ≡ true → list_any (is_beside a x) p ≡ true
open_beside a x [] below h = absurd (false≢true h)
open_beside a x (l ∷ ls) below h =
    let parts : (nat_lt l.variable x ≡ true) × (list_all (λ j. nat_lt j.variable x) ls ≡ true) = and_parts _ _ below in
    elim (or_cases (is_open a l) (list_any (is_open a) ls) h) [
      | inl here ↦ or_left _ _ (beside a x l (none_by (a l.variable) here) (λ e. absurd (omega (arith, e, ltb-true _ _ parts.0))))
      | inr later ↦ or_right _ _ (open_beside a x ls parts.1 later)
    ]
  where
    none_by : (o : Option Bool) → is_none o ≡ true → o ≡ None
    none_by None k = refl
    none_by (Some t) k = absurd (false≢true k)

-- one without a value, and another of a larger variable
both : (a : ℕ → Option Bool) (x : ℕ) (p : List Literal) (k : Literal) → list_any (is_open a) p ≡ true → a k.variable ≡ None → list_all (λ j. nat_lt j.variable k.variable) p ≡ true → list_any (is_beside a x) (p ++ k ∷ []) ≡ true
both a x p k one free below =
    elim (cases_eq k.variable x) [
      | inl same ↦ any_more (is_beside a x) p k (open_beside a x p (subst (λ v. list_all (λ j. nat_lt j.variable v) p ≡ true) same below) one)
      | inr other ↦ any_last (is_beside a x) p k (beside a x k free other)
    ]

open_last : (a : ℕ → Option Bool) (p : List Literal) (k : Literal) → a k.variable ≡ None → list_any (is_open a) (p ++ k ∷ []) ≡ true
open_last a p k free = any_last (is_open a) p k (ap (λ (o : Option Bool). is_none o) free)

-- a literal whose number is above the first, between the two, or below
abbrev AreFree : List Entry → ℕ → Literal → Type 0
AreFree entries number l = (n : ℕ) → n < number → trail_values (take n entries) l.variable ≡ None

above : (entries : List Entry) (p : List Literal) (k : Literal) (first second number : ℕ) → IsSecond entries p first second → list_all (λ j. nat_lt j.variable k.variable) p ≡ true → AreFree entries number k → first < number → IsSecond entries (p ++ k ∷ []) number first
above entries p k first second number s below free less = record {
  one = λ n early. open_last (trail_values (take n entries)) p k (free n early);
  two = λ n x early. both (trail_values (take n entries)) x p k (s.one n early) (free n (omega (arith, early, less))) below;
  order = omega (arith, less);
}

between : (entries : List Entry) (p : List Literal) (k : Literal) (first second number : ℕ) → IsSecond entries p first second → list_all (λ j. nat_lt j.variable k.variable) p ≡ true → AreFree entries number k → number ≤ first → IsSecond entries (p ++ k ∷ []) first number
between entries p k first second number s below free less = record {
  one = λ n early. any_more (is_open (trail_values (take n entries))) p k (s.one n early);
  two = λ n x early. both (trail_values (take n entries)) x p k (s.one n (omega (arith, early, less))) (free n early) below;
  order = less;
}

beneath : (entries : List Entry) (p : List Literal) (k : Literal) (first second : ℕ) → IsSecond entries p first second → IsSecond entries (p ++ k ∷ []) first second
beneath entries p k first second s = record {
  one = λ n early. any_more (is_open (trail_values (take n entries))) p k (s.one n early);
  two = λ n x early. any_more (is_beside (trail_values (take n entries)) x) p k (s.two n x early);
  order = s.order;
}

-- the steps of the walk, as the loop makes them
at_place : (entries : List Entry) (seen : List Literal) (i : ℕ) (l : Literal) (first second : ℕ) → i < length seen → l ≡ get_or seen i l → IsSecond entries (take i seen ++ l ∷ []) first second → IsSecond entries (take (i + 1) seen) first second
at_place entries seen i l first second within at s =
    subst (λ (p : List Literal). IsSecond entries p first second) (ap (λ k. take i seen ++ k ∷ []) at ∙ sym (take_more seen i l within)) s

front_below : (seen : List Literal) (i : ℕ) (l : Literal) → i < length seen → l ≡ get_or seen i l → are_increasing seen ≡ true → list_all (λ j. nat_lt j.variable l.variable) (take i seen) ≡ true
front_below seen i l within at order = ap (λ (k : Literal). list_all (λ j. nat_lt j.variable k.variable) (take i seen)) at ∙ front_is_below seen i l within order

pub walk_above : (entries : List Entry) (seen : List Literal) (i : ℕ) (l : Literal) (first second number : ℕ) → are_increasing seen ≡ true → i < length seen → l ≡ get_or seen i l → ((n : ℕ) → n < number → trail_values (take n entries) l.variable ≡ None) → IsSecond entries (take i seen) first second → first < number → IsSecond entries (take (i + 1) seen) number first
walk_above entries seen i l first second number order within at free s less =
    at_place entries seen i l number first within at (above entries (take i seen) l first second number s (front_below seen i l within at order) free less)

pub walk_between : (entries : List Entry) (seen : List Literal) (i : ℕ) (l : Literal) (first second number : ℕ) → are_increasing seen ≡ true → i < length seen → l ≡ get_or seen i l → ((n : ℕ) → n < number → trail_values (take n entries) l.variable ≡ None) → IsSecond entries (take i seen) first second → number ≤ first → IsSecond entries (take (i + 1) seen) first number
walk_between entries seen i l first second number order within at free s less =
    at_place entries seen i l first number within at (between entries (take i seen) l first second number s (front_below seen i l within at order) free less)

pub walk_beneath : (entries : List Entry) (seen : List Literal) (i : ℕ) (l : Literal) (first second : ℕ) → i < length seen → l ≡ get_or seen i l → IsSecond entries (take i seen) first second → IsSecond entries (take (i + 1) seen) first second
walk_beneath entries seen i l first second within at s = at_place entries seen i l first second within at (beneath entries (take i seen) l first second s)

pub walk_begun : (entries : List Entry) → IsSecond entries [] 0 0
walk_begun entries = record {
  one = λ n early. absurd (omega (arith, early));
  two = λ n x early. absurd (omega (arith, early));
  order = omega arith;
}

pub walk_done : (entries : List Entry) (c seen : List Literal) (i first second : ℕ) → seen ≡ c → length seen ≤ i → IsSecond entries (take i seen) first second → IsCalmBefore second entries c
walk_done entries c seen i first second same past s n early =
    calm_open (trail_values (take n entries)) c (λ x.
    ap (list_any (is_beside (trail_values (take n entries)) x)) (sym (take_all i seen past ∙ same)) ∙ s.two n x early)

-- a trail up to a decision, with a clause that is calm before each earlier one
pub cut_trail : (clauses : List (List Literal)) (es : List Entry) (c : List Literal) (place start : ℕ) → IsTrail clauses es → IsCalmBefore start es c → ((p : ℕ) → p < place → IsDecisionAt es p → p < start) → IsTrail (clauses ++ c ∷ []) (take place es)
unfolding trail_values
cut_trail clauses es c place start h calm first =
    trail_with clauses (take place es) unassigned c (first_is_trail clauses es unassigned place h) (λ p is.
    let there : (p < place) × (slice_get es p ≡ Some is.0) = got_take es place p is.0 is.1 in
    subst (λ (ds : List Entry). IsCalm (trail_values ds) c) (sym (take_shorter es p place (omega (arith, there.0))))
    (calm p (first p there.0 (is.0, there.1, is.2))))

pub cut_calm : (clauses : List (List Literal)) (es : List Entry) (place : ℕ) → IsTrail clauses es → IsDecisionAt es place → AreCalm (trail_values (take place es)) clauses
unfolding trail_values
cut_calm clauses es place h is = calm_before clauses es unassigned place h is

-- an entry that isn't a decision
not_decided : (es : List Entry) (place : ℕ) (d : Entry) (b : Bool) → place < length es → is_some (get_or es place d).reason ≡ not b → b ≡ false → IsDecisionAt es place → ⊥
not_decided es place d b within is not_none (e, got, none) =
    let both : Some (get_or es place d) ≡ Some e = sym (slice_get-get_or es place d within) ∙ got in
    let same : get_or es place d ≡ e = cc in
    true≢false (sym (is ∙ ap not not_none) ∙ ap (λ (k : Entry). is_some k.reason) same ∙ ap (λ (o : Option ℕ). is_some o) none)

pub none_decided : (es : List Entry) (place start : ℕ) (d : Entry) (b : Bool) → place < length es → is_some (get_or es place d).reason ≡ not b → b ≡ false → ((p : ℕ) → p < place → IsDecisionAt es p → p < start) → (p : ℕ) → p < place + 1 → IsDecisionAt es p → p < start
none_decided es place start d b within is not_none before p early decided =
    elim (cases_eq p place) [
      | inl same ↦ absurd (not_decided es place d b within is not_none (subst (λ (q : ℕ). IsDecisionAt es q) same decided))
      | inr other ↦ before p (omega (arith, early, other)) decided
    ]
