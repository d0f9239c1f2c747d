-- The state of a clause, read up to its first literal that is true or its second without a value.
use Rattle.std.proofs.Common.{◌≡◌, ℕ, zero, suc, ◌+◌, ◌<◌, ◌≤◌, ◌==◌, nat_lt, Bool, true, false, not, ◌&&◌, cond, List, [], ◌∷◌, ◌++◌, length, get_or, take, drop, Option, Some, None, filter, is_none, refl, ap, sym, ◌∙◌, subst, arith, inl, inr}
use Rattle.std.specs.List.{list_all, list_any}
use Rattle.std.proofs.lemmas.Bool.{and_parts, and_from, or_left, or_right, or_cases, and_left, and_right, ltb-true, eq-eqb, ne_eqb, not_from_false, not-true, cases_eq, false≢true, eqb-false}
use Rattle.std.proofs.lemmas.List.{take_more, take_all, take-append-drop}
use Rattle.std.proofs.lemmas.List.Elements.{filter-append}
use Rattle.std.proofs.lemmas.List.Folds.{list_any-append}
use Rattle.cnf_form.specs.Literals.{Literal, same_truth, same_literal}
use Rattle.cnf_form.specs.Clauses.{are_increasing}
use Rattle.cnf_form.specs.Propagation.{assign, has_value, is_true, is_false, is_falsified, open_literals, only_literal, unit_literal}
use Rattle.cnf_form.proofs.Inserting.{all_above}
use Rattle.cnf_form.specs.Variables.{is_below}
use Rattle.cdcl_core.specs.Trails.{IsCalm}
use Rattle.cdcl_core.specs.Passes.{IsFree, has_true}
use Rattle.cdcl_core.proofs.Values.{assign-other}

-- a literal without a value, of another variable than x
abbrev pub is_beside : (ℕ → Option Bool) → ℕ → Literal → Bool
is_beside a x k = is_none (a k.variable) && not (k.variable == x)

-- what is known of a clause of which the literals p were seen, none of them true and at most one without a value
abbrev pub IsScan : (ℕ → Option Bool) → ℕ → List Literal → Option Literal → Type 0
IsScan a n p None = open_literals a p ≡ []
IsScan a n p (Some l) = (open_literals a p ≡ l ∷ []) × IsFree a n l × ((x : ℕ) → (x ≡ l.variable → ⊥) → list_any (is_beside a x) p ≡ true) × (list_any (same_literal l) p ≡ true)

pub any_more : (q : Literal → Bool) (p : List Literal) (k : Literal) → list_any q p ≡ true → list_any q (p ++ k ∷ []) ≡ true
any_more q p k h = list_any-append q p (k ∷ []) ∙ or_left _ _ h

pub any_last : (q : Literal → Bool) (p : List Literal) (k : Literal) → q k ≡ true → list_any q (p ++ k ∷ []) ≡ true
any_last q p k h = list_any-append q p (k ∷ []) ∙ or_right _ _ (or_left _ _ h)

open_more : (a : ℕ → Option Bool) (p : List Literal) (k : Literal) (t : Bool) → is_false a k ≡ t → open_literals a (p ++ k ∷ []) ≡ open_literals a p ++ cond (not t) (k ∷ []) []
unfolding open_literals
open_more a p k t is = filter-append (λ l. not (is_false a l)) p (k ∷ []) ∙ rw is refl

append_none : (ls : List Literal) → ls ++ [] ≡ ls
append_none [] = refl
append_none (l ∷ ls) = ap (λ ks. l ∷ ks) (append_none ls)

has_none : (o : Option Bool) (p : Bool) → o ≡ None → has_value o p ≡ false
has_none None p h = refl
has_none (Some t) p h = cc

pub beside : (a : ℕ → Option Bool) (x : ℕ) (k : Literal) → a k.variable ≡ None → (k.variable ≡ x → ⊥) → is_beside a x k ≡ true
beside a x k free other = and_from _ _ (ap (λ (o : Option Bool). is_none o) free) (not_from_false _ (ne_eqb k.variable x other))

kept_all_by : (q r : Literal → Bool) (l : Literal) (kept : List Literal) (t : Bool) → q l ≡ true → list_all q kept ≡ true → list_all q (cond t (l ∷ kept) kept) ≡ true
kept_all_by q r l kept true h rest = and_from _ _ h rest
kept_all_by q r l kept false h rest = rest

kept_all : (q r : Literal → Bool) (ls : List Literal) → list_all q ls ≡ true → list_all q (filter r ls) ≡ true
kept_all q r [] h = refl
kept_all q r (l ∷ ls) h =
    let parts : (q l ≡ true) × (list_all q ls ≡ true) = and_parts _ _ h in
    kept_all_by q r l (filter r ls) (r l) parts.0 (kept_all q r ls parts.1)

pub open_all : (q : Literal → Bool) (a : ℕ → Option Bool) (p : List Literal) (l : Literal) → open_literals a p ≡ l ∷ [] → list_all q p ≡ true → q l ≡ true
unfolding open_literals
open_all q a p l is h =
    (and_parts (q l) true (sym (ap (list_all q) is) ∙ kept_all q (λ k. not (is_false a k)) p h)).0

pub same_itself : (b : Bool) → same_truth b b ≡ true
same_itself true = refl
same_itself false = refl

scan_first : (a : ℕ → Option Bool) (n : ℕ) (p : List Literal) (k : Literal) → IsScan a n p None → IsFree a n k → IsScan a n (p ++ k ∷ []) (Some k)
scan_first a n p k h free = (
  open_more a p k false (has_none (a k.variable) (not k.positive) free.1) ∙ ap (λ ls. ls ++ k ∷ []) h,
  free,
  λ x other. any_last (is_beside a x) p k (beside a x k free.1 (λ e. other (sym e))),
  any_last (same_literal k) p k (and_from _ _ (eq-eqb k.variable k.variable refl) (same_itself k.positive)),
)

-- two literals without a value, the variable of the one below that of the other
scan_second : (a : ℕ → Option Bool) (n : ℕ) (p : List Literal) (k l : Literal) → IsScan a n p (Some l) → a k.variable ≡ None → list_all (λ j. nat_lt j.variable k.variable) p ≡ true → (x : ℕ) → list_any (is_beside a x) (p ++ k ∷ []) ≡ true
scan_second a n p k l h free below x =
    let less : l.variable < k.variable = ltb-true _ _ (open_all (λ j. nat_lt j.variable k.variable) a p l h.0 below) in
    elim (cases_eq x l.variable) [
      | inl same ↦ any_last (is_beside a x) p k (beside a x k free (λ e. absurd (omega (arith, e, same, less))))
      | inr other ↦ any_more (is_beside a x) p k (h.2 x other)
    ]

scan_false : (a : ℕ → Option Bool) (n : ℕ) (p : List Literal) (k : Literal) (o : Option Literal) → IsScan a n p o → is_false a k ≡ true → IsScan a n (p ++ k ∷ []) o
scan_false a n p k None h fails = open_more a p k true fails ∙ append_none (open_literals a p) ∙ h
scan_false a n p k (Some l) h fails = (open_more a p k true fails ∙ append_none (open_literals a p) ∙ h.0, h.1, λ x other. any_more (is_beside a x) p k (h.2 x other), any_more (same_literal l) p k h.3)

-- the end of the walk
none_open_by : (a : ℕ → Option Bool) (l : Literal) (ls kept : List Literal) (t : Bool) → is_false a l ≡ t → (kept ≡ [] → list_all (is_false a) ls ≡ true) → cond (not t) (l ∷ kept) kept ≡ [] → list_all (is_false a) (l ∷ ls) ≡ true
none_open_by a l ls kept true fails rest h = and_from _ _ fails (rest h)
none_open_by a l ls kept false fails rest h = cc

none_open : (a : ℕ → Option Bool) (c : List Literal) → filter (λ l. not (is_false a l)) c ≡ [] → list_all (is_false a) c ≡ true
none_open a [] h = refl
none_open a (l ∷ ls) h = none_open_by a l ls (filter (λ k. not (is_false a k)) ls) (is_false a l) refl (none_open a ls) h

-- a literal that stays open keeps a clause from being false
not_all_false : (a : ℕ → Option Bool) (c : List Literal) (q : Literal → Bool) → ((l : Literal) → q l ≡ true → is_false a l ≡ false) → list_any q c ≡ true → list_all (is_false a) c ≡ false
not_all_false a [] q means h = absurd (false≢true h)
not_all_false a (l ∷ ls) q means h =
    elim (or_cases (q l) (list_any q ls) h) [
      | inl here ↦ and_left _ _ (means l here)
      | inr later ↦ and_right _ _ (not_all_false a ls q means later)
    ]

is_none_None : (o : Option Bool) → is_none o ≡ true → o ≡ None
is_none_None None h = refl
is_none_None (Some t) h = cc

stays_open : (a : ℕ → Option Bool) (m l : Literal) → is_beside a m.variable l ≡ true → is_false (assign a m) l ≡ false
stays_open a m l h =
    let parts : (is_none (a l.variable) ≡ true) × (not (l.variable == m.variable) ≡ true) = and_parts _ _ h in
    has_none (assign a m l.variable) (not l.positive) (assign-other a m l.variable (eqb-false _ _ (not-true _ parts.1)) ∙ is_none_None _ parts.0)

true_has : (o : Option Bool) (p : Bool) → has_value o p ≡ true → o ≡ Some p
true_has None p h = absurd (false≢true h)
true_has (Some true) true h = refl
true_has (Some true) false h = cc
true_has (Some false) true h = cc
true_has (Some false) false h = refl

not_its_negation : (b : Bool) → same_truth b (not b) ≡ false
not_its_negation true = refl
not_its_negation false = refl

stays_true : (a : ℕ → Option Bool) (m l : Literal) → a m.variable ≡ None → is_true a l ≡ true → is_false (assign a m) l ≡ false
stays_true a m l free h =
    let has : a l.variable ≡ Some l.positive = true_has (a l.variable) l.positive h in
    let other : l.variable ≡ m.variable → ⊥ = λ e. let same : a l.variable ≡ a m.variable = ap a e in let no_way : Some l.positive ≡ None = sym has ∙ same ∙ free in cc in
    rw (assign-other a m l.variable other ∙ has) (not_its_negation l.positive)

pub calm_satisfied : (a : ℕ → Option Bool) (c : List Literal) → has_true a c ≡ true → IsCalm a c
unfolding is_falsified
calm_satisfied a c h m free = not_all_false (assign a m) c (is_true a) (λ l is. stays_true a m l free is) h

pub calm_open : (a : ℕ → Option Bool) (c : List Literal) → ((x : ℕ) → list_any (is_beside a x) c ≡ true) → IsCalm a c
unfolding is_falsified
calm_open a c h m free = not_all_false (assign a m) c (is_beside a m.variable) (λ l is. stays_open a m l is) (h m.variable)

falsified_end : (a : ℕ → Option Bool) (c : List Literal) → open_literals a c ≡ [] → is_falsified a c ≡ true
unfolding open_literals is_falsified
falsified_end a c h = none_open a c h

-- places of a clause
any_of_first : (q : Literal → Bool) (c : List Literal) (i : ℕ) → list_any q (take i c) ≡ true → list_any q c ≡ true
any_of_first q c i h = ap (list_any q) (sym (take-append-drop i c)) ∙ list_any-append q (take i c) (drop i c) ∙ or_left _ _ h

pub all_at : {X : Type 0} (q : X → Bool) (ls : List X) (i : ℕ) (d : X) → i < length ls → list_all q ls ≡ true → q (get_or ls i d) ≡ true
all_at q [] i d within h = absurd (omega (arith, within))
all_at q (l ∷ ls) zero d within h = (and_parts _ _ h).0
all_at q (l ∷ ls) (suc i) d within h = all_at q ls i d (omega (arith, within)) (and_parts _ _ h).1

any_at : (q : Literal → Bool) (ls : List Literal) (i : ℕ) (d : Literal) → i < length ls → q (get_or ls i d) ≡ true → list_any q ls ≡ true
any_at q [] i d within h = absurd (omega (arith, within))
any_at q (l ∷ ls) zero d within h = or_left _ _ h
any_at q (l ∷ ls) (suc i) d within h = or_right _ _ (any_at q ls i d (omega (arith, within)) h)

pub front_is_below : (c : List Literal) (i : ℕ) (d : Literal) → i < length c → are_increasing c ≡ true → list_all (λ j. nat_lt j.variable (get_or c i d).variable) (take i c) ≡ true
unfolding are_increasing
front_is_below [] i d within h = absurd (omega (arith, within))
front_is_below (l ∷ ls) zero d within h = refl
front_is_below (l ∷ ls) (suc i) d within h =
    let parts : (all_above l.variable ls ≡ true) × (are_increasing ls ≡ true) = and_parts _ _ h in
    and_from _ _ (all_at (λ k. nat_lt l.variable k.variable) ls i d (omega (arith, within)) parts.0) (front_is_below ls i d (omega (arith, within)) parts.1)

no_value_by : (o : Option Bool) (p : Bool) → has_value o p ≡ false → has_value o (not p) ≡ false → o ≡ None
no_value_by None p h k = refl
no_value_by (Some true) true h k = cc
no_value_by (Some true) false h k = cc
no_value_by (Some false) true h k = cc
no_value_by (Some false) false h k = cc

-- the steps of the walk, as the loop makes them
pub walk_true : (a : ℕ → Option Bool) (c seen : List Literal) (i : ℕ) (l : Literal) (b : Bool) → seen ≡ c → i < length seen → l ≡ get_or seen i l → b ≡ is_true a l → b ≡ true → has_true a c ≡ true
walk_true a c seen i l b same within at is so =
    ap (has_true a) (sym same) ∙ any_at (is_true a) seen i l within (ap (is_true a) (sym at) ∙ sym is ∙ so)

-- a literal that isn't true or false
free_at : (a : ℕ → Option Bool) (n : ℕ) (c seen : List Literal) (i : ℕ) (l : Literal) (t f : Bool) → seen ≡ c → is_below n c ≡ true → i < length seen → l ≡ get_or seen i l → t ≡ is_true a l → t ≡ false → f ≡ is_false a l → f ≡ false → IsFree a n l
unfolding is_below
free_at a n c seen i l t f same below within at is_t not_t is_f not_f = (
  ltb-true _ _ (ap (λ (k : Literal). nat_lt k.variable n) at ∙ all_at (λ k. nat_lt k.variable n) seen i l within (ap (list_all (λ k. nat_lt k.variable n)) same ∙ below)),
  no_value_by (a l.variable) l.positive (sym is_t ∙ not_t) (sym is_f ∙ not_f),
)

pub walk_first : (a : ℕ → Option Bool) (n : ℕ) (c seen : List Literal) (i : ℕ) (l : Literal) (o after : Option Literal) (t f : Bool) → seen ≡ c → is_below n c ≡ true → i < length seen → l ≡ get_or seen i l → t ≡ is_true a l → t ≡ false → f ≡ is_false a l → f ≡ false
    → IsScan a n (take i seen) o → o ≡ None → after ≡ Some l → IsScan a n (take (i + 1) seen) after
walk_first a n c seen i l o after t f same below within at is_t not_t is_f not_f h none made =
    let free : IsFree a n l = free_at a n c seen i l t f same below within at is_t not_t is_f not_f in
    subst (λ (p : List Literal). IsScan a n p after) (ap (λ k. take i seen ++ k ∷ []) at ∙ sym (take_more seen i l within))
    (subst (λ (u : Option Literal). IsScan a n (take i seen ++ l ∷ []) u) (sym made)
    (scan_first a n (take i seen) l (subst (λ (u : Option Literal). IsScan a n (take i seen) u) none h) free))

pub walk_second : (a : ℕ → Option Bool) (n : ℕ) (c seen : List Literal) (i : ℕ) (l first : Literal) (o : Option Literal) (t f : Bool) → seen ≡ c → are_increasing c ≡ true → is_below n c ≡ true → i < length seen → l ≡ get_or seen i l → t ≡ is_true a l → t ≡ false → f ≡ is_false a l → f ≡ false
    → IsScan a n (take i seen) o → o ≡ Some first → IsCalm a c × IsFree a n first × (list_any (same_literal first) c ≡ true)
walk_second a n c seen i l first o t f same order below within at is_t not_t is_f not_f h some =
    let free : IsFree a n l = free_at a n c seen i l t f same below within at is_t not_t is_f not_f in
    let scan : IsScan a n (take i seen) (Some first) = subst (λ (u : Option Literal). IsScan a n (take i seen) u) some h in
    let front : list_all (λ j. nat_lt j.variable l.variable) (take i seen) ≡ true
    = ap (λ (k : Literal). list_all (λ j. nat_lt j.variable k.variable) (take i seen)) at ∙ front_is_below seen i l within (ap are_increasing same ∙ order) in (
      calm_open a c (λ x.
          ap (list_any (is_beside a x)) (sym same)
          ∙ any_of_first (is_beside a x) seen (i + 1) (ap (list_any (is_beside a x)) (sym (ap (λ k. take i seen ++ k ∷ []) at ∙ sym (take_more seen i l within))) ∙ scan_second a n (take i seen) l first scan free.1 front x)),
      scan.1,
      ap (list_any (same_literal first)) (sym same) ∙ any_of_first (same_literal first) seen i scan.3,
    )

pub walk_false : (a : ℕ → Option Bool) (n : ℕ) (seen : List Literal) (i : ℕ) (l : Literal) (o after : Option Literal) (f : Bool) → i < length seen → l ≡ get_or seen i l → f ≡ is_false a l → f ≡ true
    → IsScan a n (take i seen) o → after ≡ o → IsScan a n (take (i + 1) seen) after
walk_false a n seen i l o after f within at is_f so h made =
    subst (λ (p : List Literal). IsScan a n p after) (ap (λ k. take i seen ++ k ∷ []) at ∙ sym (take_more seen i l within))
    (subst (λ (u : Option Literal). IsScan a n (take i seen ++ l ∷ []) u) (sym made) (scan_false a n (take i seen) l o h (sym is_f ∙ so)))

-- the end: each literal is false, or each but one
scan_of_all : (a : ℕ → Option Bool) (n : ℕ) (c seen : List Literal) (i : ℕ) (o u : Option Literal) → seen ≡ c → length seen ≤ i → IsScan a n (take i seen) o → o ≡ u → IsScan a n c u
scan_of_all a n c seen i o u same past h is =
    subst (λ (w : Option Literal). IsScan a n c w) is (subst (λ (p : List Literal). IsScan a n p o) (take_all i seen past ∙ same) h)

pub walk_none : (a : ℕ → Option Bool) (n : ℕ) (c seen : List Literal) (i : ℕ) (o : Option Literal) → seen ≡ c → length seen ≤ i → IsScan a n (take i seen) o → o ≡ None → is_falsified a c ≡ true
walk_none a n c seen i o same past h none = falsified_end a c (scan_of_all a n c seen i o None same past h none)

pub walk_one : (a : ℕ → Option Bool) (n : ℕ) (c seen : List Literal) (i : ℕ) (l : Literal) (o : Option Literal) → seen ≡ c → length seen ≤ i → IsScan a n (take i seen) o → o ≡ Some l → (unit_literal a c ≡ Some l) × IsFree a n l × (list_any (same_literal l) c ≡ true)
walk_one a n c seen i l o same past h some =
    let scan : IsScan a n c (Some l) = scan_of_all a n c seen i o (Some l) same past h some in
    (ap (only_literal a) scan.0 ∙ rw (has_none (a l.variable) l.positive scan.1.1) refl, scan.1, scan.3)

pub walk_begin : (a : ℕ → Option Bool) (n : ℕ) → IsScan a n [] None
unfolding open_literals
walk_begin a n = refl
