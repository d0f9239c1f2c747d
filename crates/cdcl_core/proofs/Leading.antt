use Rattle.std.proofs.Common.{◌≡◌, ℕ, Bool, true, false, ◌==◌, List, [], ◌∷◌, ◌++◌, Option, Some, None, fold, refl, ap, sym, ◌∙◌, subst, if◌then◌else◌, inl, inr}
use Rattle.std.proofs.Math.Path.{fun_ext}
use Rattle.std.specs.List.{list_any}
use Rattle.std.proofs.lemmas.Bool.{cases_eq}
use Rattle.cnf_form.specs.Literals.{Literal}
use Rattle.cnf_form.specs.Propagation.{assign, is_falsified, numbered, unit_of_hint, hint_is_falsified, and_then_holds, reaches_conflict}
use Rattle.cnf_form.specs.Variables.{occurs}
use Rattle.cdcl_core.specs.declared.trail.Entry.{Entry}
use Rattle.cdcl_core.specs.Trails.{assigned, IsMadeTrue, IsTrailFrom, if_decided, decided_literals, if_forced, reasons}
use Rattle.cdcl_core.proofs.Lists.{none_from}
use Rattle.cdcl_core.proofs.Values.{Extends, assign-same, assign-other, assign-extends, differ, hint_kept}

-- the assignment with the decisions of these entries, and no others of them
abbrev pub with_decisions : (ℕ → Option Bool) → List Entry → ℕ → Option Bool
with_decisions a es = fold assign a (decided_literals es)

-- the decisions to come don't touch a variable that has a value now
elsewhere_by : (ls : List Literal) (a b : ℕ → Option Bool) (l : Literal) (o : Option ℕ) (x : ℕ) (t : Bool) → a x ≡ Some t → a l.variable ≡ None → ((c : ℕ → Option Bool) → fold assign c ls x ≡ c x) → fold assign b (if_decided o l ls) x ≡ b x
elsewhere_by ls a b l None x t has free rest = rest (assign b l) ∙ assign-other b l x (differ a x l.variable t has free)
elsewhere_by ls a b l (Some n) x t has free rest = rest b

pub elsewhere : (clauses : List (List Literal)) (es : List Entry) (a b : ℕ → Option Bool) (x : ℕ) (t : Bool) → IsTrailFrom clauses a es → a x ≡ Some t → with_decisions b es x ≡ b x
unfolding IsTrailFrom decided_literals
elsewhere clauses [] a b x t h has = refl
elsewhere clauses (e ∷ es) a b x t h has =
    elsewhere_by (decided_literals es) a b e.literal e.reason x t has h.0
    (λ c. elsewhere clauses es (assign a e.literal) c x t h.2 (assign-extends a e.literal h.0 x t has))

-- nor does it matter whether a literal is made true before them or after them
agree : (ls : List Literal) (a b : ℕ → Option Bool) (x : ℕ) → a x ≡ b x → fold assign a ls x ≡ fold assign b ls x
agree [] a b x h = h
agree (l ∷ ls) a b x h = agree ls (assign a l) (assign b l) x (ap (λ (o : Option Bool). if x == l.variable then Some l.positive else o) h)

pub commute : (clauses : List (List Literal)) (es : List Entry) (a c : ℕ → Option Bool) (l : Literal) (t : Bool) → IsTrailFrom clauses c es → c l.variable ≡ Some t → with_decisions (assign a l) es ≡ assign (with_decisions a es) l
commute clauses es a c l t h has =
    fun_ext (λ x.
    elim (cases_eq x l.variable) [
      | inl same ↦ elsewhere clauses es c (assign a l) x t h (ap c same ∙ has) ∙ assign-same a l x same ∙ sym (assign-same (with_decisions a es) l x same)
      | inr other ↦ agree (decided_literals es) (assign a l) a x (assign-other a l x other) ∙ sym (assign-other (with_decisions a es) l x other)
    ])

pub stays_free : (clauses : List (List Literal)) (es : List Entry) (a : ℕ → Option Bool) (l : Literal) → a l.variable ≡ None → IsTrailFrom clauses (assign a l) es → with_decisions a es l.variable ≡ None
stays_free clauses es a l free h = elsewhere clauses es (assign a l) a l.variable l.positive h (assign-same a l l.variable refl) ∙ free

pub commute_here : (clauses : List (List Literal)) (es : List Entry) (a : ℕ → Option Bool) (l : Literal) → IsTrailFrom clauses (assign a l) es → with_decisions (assign a l) es ≡ assign (with_decisions a es) l
commute_here clauses es a l h = commute clauses es a (assign a l) l l.positive h (assign-same a l l.variable refl)

pub decisions_extend : (clauses : List (List Literal)) (es : List Entry) (a : ℕ → Option Bool) (l : Literal) → a l.variable ≡ None → IsTrailFrom clauses (assign a l) es → Extends (with_decisions a es) (with_decisions (assign a l) es)
decisions_extend clauses es a l free h =
    subst (λ (b : ℕ → Option Bool). Extends (with_decisions a es) b) (sym (commute_here clauses es a l h))
    (assign-extends (with_decisions a es) l (stays_free clauses es a l free h))

-- the decisions alone, and then the clauses that forced literals, lead to the clause that is false
reaches_step : (clauses : List (List Literal)) (h k : ℕ) (hs : List ℕ) (a : ℕ → Option Bool) → reaches_conflict clauses ((h ∷ hs) ++ k ∷ []) a ≡ and_then_holds (unit_of_hint a (numbered clauses h)) (λ l. reaches_conflict clauses (hs ++ k ∷ []) (assign a l))
unfolding reaches_conflict
reaches_step clauses h k [] a = refl
reaches_step clauses h k (m ∷ ms) a = refl

conflict_by : (clauses : List (List Literal)) (es : List Entry) (a : ℕ → Option Bool) (l : Literal) (o : Option ℕ) (k : ℕ) → a l.variable ≡ None → IsMadeTrue clauses a l o → IsTrailFrom clauses (assign a l) es
    → reaches_conflict clauses (reasons es ++ k ∷ []) (with_decisions (assign a l) es) ≡ true
    → reaches_conflict clauses (if_forced o (reasons es) ++ k ∷ []) (fold assign a (if_decided o l (decided_literals es))) ≡ true
conflict_by clauses es a l None k free made h rest = rest
conflict_by clauses es a l (Some n) k free made h rest =
    let extends : Extends a (with_decisions a es) = λ x t has. elsewhere clauses es (assign a l) a x t h (assign-extends a l free x t has) ∙ has in
    reaches_step clauses n k (reasons es) (with_decisions a es)
    ∙ ap (λ (u : Option Literal). and_then_holds u (λ m. reaches_conflict clauses (reasons es ++ k ∷ []) (assign (with_decisions a es) m)))
    (hint_kept a (with_decisions a es) (numbered clauses n) l extends (stays_free clauses es a l free h) made)
    ∙ ap (reaches_conflict clauses (reasons es ++ k ∷ [])) (sym (commute_here clauses es a l h))
    ∙ rest

pub conflict : (clauses : List (List Literal)) (es : List Entry) (a : ℕ → Option Bool) (k : ℕ) → IsTrailFrom clauses a es → hint_is_falsified (assigned a es) (numbered clauses k) ≡ true → reaches_conflict clauses (reasons es ++ k ∷ []) (with_decisions a es) ≡ true
unfolding IsTrailFrom reaches_conflict decided_literals reasons
conflict clauses [] a k h fails = fails
conflict clauses (e ∷ es) a k h fails =
    conflict_by clauses es a e.literal e.reason k h.0 h.1 h.2 (conflict clauses es (assign a e.literal) k h.2 fails)

-- right after the last decision no clause was false, since each was calm before it
abbrev pub HasCalm : List (List Literal) → (ℕ → Option Bool) → Type 0
HasCalm clauses a = (b : ℕ → Option Bool) × (list_any (is_falsified b) clauses ≡ false) × Extends a b

calm_by : (clauses : List (List Literal)) (es : List Entry) (a : ℕ → Option Bool) (l : Literal) (o : Option ℕ) (ls : List Literal) → decided_literals es ≡ ls → a l.variable ≡ None → IsMadeTrue clauses a l o → IsTrailFrom clauses (assign a l) es
    → ((decided_literals es ≡ [] → ⊥) → HasCalm clauses (with_decisions (assign a l) es))
    → (if_decided o l (decided_literals es) ≡ [] → ⊥) → HasCalm clauses (fold assign a (if_decided o l (decided_literals es)))
calm_by clauses es a l None [] is free made h rest some = (assign a l, none_from (is_falsified (assign a l)) clauses (λ k c at. made.0 k c at l free), λ x t has. sym (ap (λ ks. fold assign (assign a l) ks x) is) ∙ has)
calm_by clauses es a l None (d ∷ ds) is free made h rest some = rest (λ none. cc)
calm_by clauses es a l (Some n) ls is free made h rest some =
    let calm : HasCalm clauses (with_decisions (assign a l) es) = rest some in
    (calm.0, calm.1, λ x t has. calm.2 x t (decisions_extend clauses es a l free h x t has))

pub last_decision : (clauses : List (List Literal)) (es : List Entry) (a : ℕ → Option Bool) → IsTrailFrom clauses a es → (decided_literals es ≡ [] → ⊥) → HasCalm clauses (with_decisions a es)
unfolding IsTrailFrom decided_literals
last_decision clauses [] a h some = absurd (some refl)
last_decision clauses (e ∷ es) a h some =
    calm_by clauses es a e.literal e.reason (decided_literals es) refl h.0 h.1 h.2 (last_decision clauses es (assign a e.literal) h.2) some

-- each decision is of a variable that occurs
abbrev HasOccurring : List (List Literal) → (ℕ → Option Bool) → Type 0
HasOccurring clauses b = (x : ℕ) (t : Bool) → b x ≡ Some t → occurs clauses x ≡ true

occurring_more : (clauses : List (List Literal)) (b : ℕ → Option Bool) (l : Literal) → HasOccurring clauses b → occurs clauses l.variable ≡ true → HasOccurring clauses (assign b l)
occurring_more clauses b l before here x t has =
    elim (cases_eq x l.variable) [
      | inl same ↦ ap (occurs clauses) same ∙ here
      | inr other ↦ before x t (sym (assign-other b l x other) ∙ has)
    ]

occurring_by : (clauses : List (List Literal)) (a b : ℕ → Option Bool) (l : Literal) (o : Option ℕ) (ls : List Literal) → IsMadeTrue clauses a l o → HasOccurring clauses b → ((c : ℕ → Option Bool) → HasOccurring clauses c → HasOccurring clauses (fold assign c ls)) → HasOccurring clauses (fold assign b (if_decided o l ls))
occurring_by clauses a b l None ls made before rest = rest (assign b l) (occurring_more clauses b l before made.1)
occurring_by clauses a b l (Some n) ls made before rest = rest b before

pub decisions_occur : (clauses : List (List Literal)) (es : List Entry) (a b : ℕ → Option Bool) → IsTrailFrom clauses a es → HasOccurring clauses b → HasOccurring clauses (with_decisions b es)
unfolding IsTrailFrom decided_literals
decisions_occur clauses [] a b h before = before
decisions_occur clauses (e ∷ es) a b h before =
    occurring_by clauses a b e.literal e.reason (decided_literals es) h.1 before (λ c still. decisions_occur clauses es (assign a e.literal) c h.2 still)

-- each decision is of a variable that had no value
abbrev pub AreFresh : (ℕ → Option Bool) → List Literal → Type 0
AreFresh a [] = Unit {0}
AreFresh a (l ∷ ls) = (a l.variable ≡ None) × AreFresh (assign a l) ls

fresh_later : (a b : ℕ → Option Bool) (l : Literal) (x : ℕ) → ((y : ℕ) → a y ≡ None → b y ≡ None) → assign a l x ≡ None → (x ≡ l.variable → ⊥) × (b x ≡ None)
fresh_later a b l x less none =
    let other : x ≡ l.variable → ⊥ = λ same. let some : assign a l x ≡ Some l.positive = assign-same a l x same in cc in
    (other, less x (sym (assign-other a l x other) ∙ none))

fresh_by : (a b : ℕ → Option Bool) (l : Literal) (o : Option ℕ) (ls : List Literal) → ((x : ℕ) → a x ≡ None → b x ≡ None) → a l.variable ≡ None
    → ((c : ℕ → Option Bool) → ((x : ℕ) → assign a l x ≡ None → c x ≡ None) → AreFresh c ls) → AreFresh b (if_decided o l ls)
fresh_by a b l None ls less free rest =
    (less l.variable free, rest (assign b l) (λ x none. let k : (x ≡ l.variable → ⊥) × (b x ≡ None) = fresh_later a b l x less none in assign-other b l x k.0 ∙ k.1))
fresh_by a b l (Some n) ls less free rest = rest b (λ x none. (fresh_later a b l x less none).1)

pub fresh_decisions : (clauses : List (List Literal)) (es : List Entry) (a b : ℕ → Option Bool) → IsTrailFrom clauses a es → ((x : ℕ) → a x ≡ None → b x ≡ None) → AreFresh b (decided_literals es)
unfolding IsTrailFrom decided_literals
fresh_decisions clauses [] a b h less = tt
fresh_decisions clauses (e ∷ es) a b h less =
    fresh_by a b e.literal e.reason (decided_literals es) less h.0 (λ c still. fresh_decisions clauses es (assign a e.literal) c h.2 still)
