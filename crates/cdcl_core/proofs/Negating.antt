use Rattle.std.proofs.Common.{◌≡◌, ℕ, ◌<◌, ◌==◌, nat_lt, Bool, true, false, not, ◌&&◌, if◌then◌else◌, List, [], ◌∷◌, ◌++◌, Option, Some, None, option_map, fold, map, refl, ap, sym, ◌∙◌, subst, arith, inl, inr}
use Rattle.std.proofs.Math.Path.{fun_ext}
use Rattle.std.specs.List.{list_all, list_any}
use Rattle.std.proofs.lemmas.Bool.{and_parts, and_from, or_parts, or_from, or_cases, ltb-true, ltb-false, lt-ltb, eqb-true, eqb-false, cases_eq, true≢false, false≢true, false_from_ne_true}
use Rattle.cnf_form.specs.Literals.{Literal, negation, same_truth, same_literal}
use Rattle.cnf_form.specs.Clauses.{are_increasing, insert_literal, with_literal, clause_of, is_subset}
use Rattle.cnf_form.specs.Propagation.{unassigned, assign, has_value, is_false, falsify, is_falsified, numbered, hint_is_falsified, reaches_conflict, follows}
use Rattle.cnf_form.specs.Refutations.{is_new}
use Rattle.cnf_form.specs.Variables.{occurs, is_over}
use Rattle.cnf_form.proofs.Inserting.{mapped, all_above, above_later, increasing-insert}
use Rattle.cnf_form.proofs.Meaning.{truths}
use Rattle.cdcl_core.specs.declared.trail.Entry.{Entry}
use Rattle.cdcl_core.specs.Trails.{trail_values, IsTrail, decided_literals, reasons}
use Rattle.cdcl_core.proofs.Values.{Extends, assign-same, assign-other, all_false_kept}
use Rattle.cdcl_core.proofs.Leading.{with_decisions, conflict, last_decision, decisions_occur, AreFresh, fresh_decisions}

abbrev falsify_one : (ℕ → Option Bool) → Literal → ℕ → Option Bool
falsify_one a l = assign a (negation l)

-- literals of larger variables leave a variable as it is
untouched : (x : ℕ) (ls : List Literal) (a : ℕ → Option Bool) → all_above x ls ≡ true → fold falsify_one a ls x ≡ a x
untouched x [] a h = refl
untouched x (k ∷ ks) a h =
    let parts : (nat_lt x k.variable ≡ true) × (all_above x ks ≡ true) = and_parts _ _ h in
    untouched x ks (falsify_one a k) parts.1 ∙ assign-other a (negation k) x (λ e. absurd (omega (arith, e, ltb-true _ _ parts.0)))

agree : (ls : List Literal) (a b : ℕ → Option Bool) (x : ℕ) → a x ≡ b x → fold falsify_one a ls x ≡ fold falsify_one b ls x
agree [] a b x h = h
agree (l ∷ ls) a b x h = agree ls (falsify_one a l) (falsify_one b l) x (ap (λ (o : Option Bool). if x == l.variable then Some (not l.positive) else o) h)

same_not : (a b : Bool) → same_truth a b ≡ true → not a ≡ not b
same_not true true h = refl
same_not true false h = cc
same_not false true h = cc
same_not false false h = refl

other_not : (a b : Bool) → same_truth a b ≡ false → not a ≡ b
other_not true true h = cc
other_not true false h = refl
other_not false true h = refl
other_not false false h = cc

-- an insertion makes one literal more false
inserted_by : (l k : Literal) (ks s : List Literal) (a : ℕ → Option Bool) (t u w : Bool) → nat_lt k.variable l.variable ≡ t → (k.variable == l.variable) ≡ u → same_truth k.positive l.positive ≡ w
    → (all_above k.variable ks && are_increasing ks) ≡ true
    → ((r : List Literal) (b : ℕ → Option Bool) → insert_literal l ks ≡ Some r → fold falsify_one b r ≡ falsify_one (fold falsify_one b ks) l)
    → (if t then option_map (λ c. k ∷ c) (insert_literal l ks) else if u then (if w then Some (k ∷ ks) else None) else Some (l ∷ k ∷ ks)) ≡ Some s
    → fold falsify_one a s ≡ falsify_one (fold falsify_one a (k ∷ ks)) l
inserted_by l k ks s a true u w less same sign order rest is =
    let found : (r : List Literal) × (insert_literal l ks ≡ Some r) × (k ∷ r ≡ s) = mapped k (insert_literal l ks) s is in
    ap (fold falsify_one a) (sym found.2) ∙ rest found.0 (falsify_one a k) found.1
inserted_by l k ks s a false true true less same sign order rest is =
    let made : k ∷ ks ≡ s = cc in
    let at : k.variable ≡ l.variable = eqb-true _ _ same in
    ap (fold falsify_one a) (sym made)
    ∙ fun_ext (λ x.
    elim (cases_eq x l.variable) [
      | inl here ↦
          untouched x ks (falsify_one a k) (subst (λ v. all_above v ks ≡ true) (at ∙ sym here) (and_parts _ _ order).0)
          ∙ assign-same a (negation k) x (here ∙ sym at) ∙ ap Some (same_not k.positive l.positive sign)
          ∙ sym (assign-same (fold falsify_one a (k ∷ ks)) (negation l) x here)
      | inr other ↦ sym (assign-other (fold falsify_one a (k ∷ ks)) (negation l) x other)
    ])
inserted_by l k ks s a false true false less same sign order rest is = cc
inserted_by l k ks s a false false w less same sign order rest is =
    let made : l ∷ k ∷ ks ≡ s = cc in
    let not_less : l.variable < k.variable = omega (arith, eqb-false k.variable l.variable same, ltb-false _ _ less) in
    let above : all_above l.variable (k ∷ ks) ≡ true = and_from _ _ (lt-ltb _ _ not_less) (above_later l.variable k.variable ks not_less (and_parts _ _ order).0) in
    ap (fold falsify_one a) (sym made)
    ∙ fun_ext (λ x.
    elim (cases_eq x l.variable) [
      | inl here ↦
          untouched x (k ∷ ks) (falsify_one a l) (subst (λ v. all_above v (k ∷ ks) ≡ true) (sym here) above)
          ∙ assign-same a (negation l) x here ∙ sym (assign-same (fold falsify_one a (k ∷ ks)) (negation l) x here)
      | inr other ↦ agree (k ∷ ks) (falsify_one a l) a x (assign-other a (negation l) x other) ∙ sym (assign-other (fold falsify_one a (k ∷ ks)) (negation l) x other)
    ])

inserted : (l : Literal) (c s : List Literal) (a : ℕ → Option Bool) → are_increasing c ≡ true → insert_literal l c ≡ Some s → fold falsify_one a s ≡ falsify_one (fold falsify_one a c) l
unfolding insert_literal are_increasing
inserted l [] s a order is =
    let same : l ∷ [] ≡ s = cc in
    ap (fold falsify_one a) (sym same)
inserted l (k ∷ ks) s a order is =
    inserted_by l k ks s a (nat_lt k.variable l.variable) (k.variable == l.variable) (same_truth k.positive l.positive) refl refl refl order
    (λ r b found. inserted l ks r b (and_parts _ _ order).1 found) is

-- a literal that can't be inserted has a variable that the clause makes the other way
unmapped : (k : Literal) (o : Option (List Literal)) → option_map (λ c. k ∷ c) o ≡ None → o ≡ None
unmapped k None h = refl
unmapped k (Some c) h = cc

refused_by : (l k : Literal) (ks : List Literal) (a : ℕ → Option Bool) (t u w : Bool) → (k.variable == l.variable) ≡ u → same_truth k.positive l.positive ≡ w
    → (all_above k.variable ks && are_increasing ks) ≡ true
    → ((b : ℕ → Option Bool) → insert_literal l ks ≡ None → fold falsify_one b ks l.variable ≡ Some l.positive)
    → (if t then option_map (λ c. k ∷ c) (insert_literal l ks) else if u then (if w then Some (k ∷ ks) else None) else Some (l ∷ k ∷ ks)) ≡ None
    → fold falsify_one a (k ∷ ks) l.variable ≡ Some l.positive
refused_by l k ks a true u w same sign order rest is = rest (falsify_one a k) (unmapped k (insert_literal l ks) is)
refused_by l k ks a false true true same sign order rest is = cc
refused_by l k ks a false true false same sign order rest is =
    let at : k.variable ≡ l.variable = eqb-true _ _ same in
    untouched l.variable ks (falsify_one a k) (subst (λ v. all_above v ks ≡ true) at (and_parts _ _ order).0)
    ∙ assign-same a (negation k) l.variable (sym at) ∙ ap Some (other_not k.positive l.positive sign)
refused_by l k ks a false false w same sign order rest is = cc

refused : (l : Literal) (c : List Literal) (a : ℕ → Option Bool) → are_increasing c ≡ true → insert_literal l c ≡ None → fold falsify_one a c l.variable ≡ Some l.positive
unfolding insert_literal are_increasing
refused l [] a order is = cc
refused l (k ∷ ks) a order is =
    refused_by l k ks a (nat_lt k.variable l.variable) (k.variable == l.variable) (same_truth k.positive l.positive) refl refl order
    (λ b none. refused l ks b (and_parts _ _ order).1 none) is

-- the negations of literals of fresh variables make a clause, which is false just where they are true
twice : (b : Bool) → not (not b) ≡ b
twice true = refl
twice false = refl

denied : (a : ℕ → Option Bool) (l : Literal) → falsify_one a (negation l) ≡ assign a l
denied a l = fun_ext (λ x. ap (λ (p : Bool). if x == l.variable then Some p else a x) (twice l.positive))

abbrev pub IsDenial : List Literal → (ℕ → Option Bool) → Type 0
IsDenial s a = (are_increasing s ≡ true) × (fold falsify_one unassigned s ≡ a)

denial_by : (d : Literal) (ds c : List Literal) (o : Option (List Literal)) → insert_literal (negation d) c ≡ o → are_increasing c ≡ true → fold falsify_one unassigned c d.variable ≡ None → AreFresh (assign (fold falsify_one unassigned c) d) ds
    → ((r : List Literal) → are_increasing r ≡ true → AreFresh (fold falsify_one unassigned r) ds → (s : List Literal) × (fold with_literal (Some r) (map negation ds) ≡ Some s) × IsDenial s (fold assign (fold falsify_one unassigned r) ds))
    → (s : List Literal) × (fold with_literal o (map negation ds) ≡ Some s) × IsDenial s (fold assign (assign (fold falsify_one unassigned c) d) ds)
denial_by d ds c None is order free fresh rest =
    let some : fold falsify_one unassigned c d.variable ≡ Some (not d.positive) = refused (negation d) c unassigned order is in
    absurd (cc)
denial_by d ds c (Some r) is order free fresh rest =
    let after : fold falsify_one unassigned r ≡ assign (fold falsify_one unassigned c) d = inserted (negation d) c r unassigned order is ∙ denied (fold falsify_one unassigned c) d in
    let found : (s : List Literal) × (fold with_literal (Some r) (map negation ds) ≡ Some s) × IsDenial s (fold assign (fold falsify_one unassigned r) ds)
    = rest r (increasing-insert (negation d) c r order is) (subst (λ (a : ℕ → Option Bool). AreFresh a ds) (sym after) fresh) in
    (found.0, found.1, (found.2.0, found.2.1 ∙ ap (λ (a : ℕ → Option Bool). fold assign a ds) after))

denial : (ds c : List Literal) → are_increasing c ≡ true → AreFresh (fold falsify_one unassigned c) ds → (s : List Literal) × (fold with_literal (Some c) (map negation ds) ≡ Some s) × IsDenial s (fold assign (fold falsify_one unassigned c) ds)
denial [] c order fresh = (c, refl, (order, refl))
denial (d ∷ ds) c order fresh =
    denial_by d ds c (insert_literal (negation d) c) refl order fresh.0 fresh.1 (λ r inc still. denial ds r inc still)

none_increasing : are_increasing [] ≡ true
unfolding are_increasing
none_increasing = refl

-- the clause of the negated decisions
pub record IsNegation (es : List Entry) (s : List Literal) : Type 0 where
  pub order : are_increasing s ≡ true
  pub denies : falsify s ≡ with_decisions unassigned es

pub negated : (clauses : List (List Literal)) (es : List Entry) → IsTrail clauses es → (s : List Literal) × (clause_of (map negation (decided_literals es)) ≡ Some s) × IsNegation es s
unfolding clause_of falsify
negated clauses es h =
    let found : (s : List Literal) × (fold with_literal (Some []) (map negation (decided_literals es)) ≡ Some s) × IsDenial s (fold assign unassigned (decided_literals es))
    = denial (decided_literals es) [] none_increasing (fresh_decisions clauses es unassigned unassigned h (λ x none. none)) in
    (found.0, found.1, record { order = found.2.0; denies = found.2.1 })

pub is_negation : (clauses : List (List Literal)) (es : List Entry) (s : List Literal) → IsTrail clauses es → clause_of (map negation (decided_literals es)) ≡ Some s → IsNegation es s
is_negation clauses es s h is =
    let found : (r : List Literal) × (clause_of (map negation (decided_literals es)) ≡ Some r) × IsNegation es r = negated clauses es h in
    let same : found.0 ≡ s = cc in
    subst (λ (r : List Literal). IsNegation es r) same found.2

pub is_some_clause : (clauses : List (List Literal)) (es : List Entry) → IsTrail clauses es → clause_of (map negation (decided_literals es)) ≡ None → ⊥
is_some_clause clauses es h none =
    let found : (r : List Literal) × (clause_of (map negation (decided_literals es)) ≡ Some r) × IsNegation es r = negated clauses es h in
    let both : Some found.0 ≡ None = sym found.1 ∙ none in
    cc

-- it follows
pub negation_follows : (clauses : List (List Literal)) (es : List Entry) (s : List Literal) (k : ℕ) → IsTrail clauses es → IsNegation es s → hint_is_falsified (trail_values es) (numbered clauses k) ≡ true → follows clauses s (reasons es ++ k ∷ []) ≡ true
unfolding follows trail_values
negation_follows clauses es s k h is fails = ap (reaches_conflict clauses (reasons es ++ k ∷ [])) is.denies ∙ conflict clauses es unassigned k h fails

-- it is false where the decisions are true
false_itself_by : (l : Literal) (a : ℕ → Option Bool) → a l.variable ≡ Some (not l.positive) → is_false a l ≡ true
false_itself_by l a is = rw is (same_itself (not l.positive))
  where
    same_itself : (b : Bool) → same_truth b b ≡ true
    same_itself true = refl
    same_itself false = refl

false_itself : (c : List Literal) (a : ℕ → Option Bool) → are_increasing c ≡ true → list_all (is_false (fold falsify_one a c)) c ≡ true
unfolding are_increasing
false_itself [] a order = refl
false_itself (l ∷ ls) a order =
    let parts : (all_above l.variable ls ≡ true) × (are_increasing ls ≡ true) = and_parts _ _ order in
    and_from _ _
    (false_itself_by l (fold falsify_one (falsify_one a l) ls) (untouched l.variable ls (falsify_one a l) parts.0 ∙ assign-same a (negation l) l.variable refl))
    (false_itself ls (falsify_one a l) parts.1)

pub negation_is_false : (es : List Entry) (s : List Literal) → IsNegation es s → list_all (is_false (with_decisions unassigned es)) s ≡ true
unfolding falsify
negation_is_false es s is = subst (λ (a : ℕ → Option Bool). list_all (is_false a) s ≡ true) is.denies (false_itself s unassigned is.order)

-- a subset of what is false is false
same_false : (a : ℕ → Option Bool) (l k : Literal) → same_literal l k ≡ true → is_false a k ≡ true → is_false a l ≡ true
same_false a l k same fails =
    let parts : ((l.variable == k.variable) ≡ true) × (same_truth l.positive k.positive ≡ true) = and_parts _ _ same in
    ap (λ v. has_value (a v) (not l.positive)) (eqb-true _ _ parts.0) ∙ ap (λ p. has_value (a k.variable) (not p)) (truths l.positive k.positive parts.1) ∙ fails

member_false : (a : ℕ → Option Bool) (l : Literal) (s : List Literal) → list_all (is_false a) s ≡ true → list_any (same_literal l) s ≡ true → is_false a l ≡ true
member_false a l [] all h = absurd (true≢false (sym h))
member_false a l (k ∷ ks) all h =
    let parts : (is_false a k ≡ true) × (list_all (is_false a) ks ≡ true) = and_parts _ _ all in
    elim (or_cases (same_literal l k) (list_any (same_literal l) ks) h) [
      | inl here ↦ same_false a l k here parts.0
      | inr later ↦ member_false a l ks parts.1 later
    ]

subset_false : (a : ℕ → Option Bool) (d s : List Literal) → list_all (is_false a) s ≡ true → list_all (λ l. list_any (same_literal l) s) d ≡ true → list_all (is_false a) d ≡ true
subset_false a [] s all h = refl
subset_false a (l ∷ ls) s all h =
    let parts : (list_any (same_literal l) s ≡ true) × (list_all (λ k. list_any (same_literal k) s) ls ≡ true) = and_parts _ _ h in
    and_from _ _ (member_false a l s all parts.0) (subset_false a ls s all parts.1)

subset_falsified : (a : ℕ → Option Bool) (d s : List Literal) → list_all (is_false a) s ≡ true → is_subset d s ≡ true → is_falsified a d ≡ true
unfolding is_subset is_falsified
subset_falsified a d s all h = subset_false a d s all h

no_subset : (a : ℕ → Option Bool) (clauses : List (List Literal)) (s : List Literal) → list_all (is_false a) s ≡ true → list_any (is_falsified a) clauses ≡ false → list_any (λ d. is_subset d s) clauses ≡ false
no_subset a [] s all none = refl
no_subset a (d ∷ ds) s all none =
    let parts : (is_falsified a d ≡ false) × (list_any (is_falsified a) ds ≡ false) = or_parts _ _ none in
    or_from _ _ (false_from_ne_true (is_subset d s) (λ yes. true≢false (sym (subset_falsified a d s all yes) ∙ parts.0))) (no_subset a ds s all parts.1)

-- it is new, if there is a decision
pub negation_is_new : (clauses : List (List Literal)) (es : List Entry) (s : List Literal) → IsTrail clauses es → IsNegation es s → (decided_literals es ≡ [] → ⊥) → is_new clauses s ≡ true
unfolding is_new
negation_is_new clauses es s h is some =
    let calm : (b : ℕ → Option Bool) × (list_any (is_falsified b) clauses ≡ false) × Extends (with_decisions unassigned es) b = last_decision clauses es unassigned h some in
    ap not (no_subset calm.0 clauses s (all_false_kept (with_decisions unassigned es) calm.0 s calm.2 (negation_is_false es s is)) calm.1)

-- its variables are those of decisions, and so occur
false_has : (o : Option Bool) (p : Bool) → has_value o p ≡ true → (t : Bool) × (o ≡ Some t)
false_has None p h = absurd (false≢true h)
false_has (Some t) p h = (t, refl)

over_if_false : (clauses : List (List Literal)) (a : ℕ → Option Bool) (c : List Literal) → ((x : ℕ) (t : Bool) → a x ≡ Some t → occurs clauses x ≡ true) → list_all (is_false a) c ≡ true → list_all (λ l. occurs clauses l.variable) c ≡ true
over_if_false clauses a [] occurring h = refl
over_if_false clauses a (l ∷ ls) occurring h =
    let parts : (is_false a l ≡ true) × (list_all (is_false a) ls ≡ true) = and_parts _ _ h in
    let has : (t : Bool) × (a l.variable ≡ Some t) = false_has (a l.variable) (not l.positive) parts.0 in
    and_from _ _ (occurring l.variable has.0 has.1) (over_if_false clauses a ls occurring parts.1)

pub negation_is_over : (clauses : List (List Literal)) (es : List Entry) (s : List Literal) → IsTrail clauses es → IsNegation es s → is_over clauses s ≡ true
unfolding is_over
negation_is_over clauses es s h is =
    over_if_false clauses (with_decisions unassigned es) s (decisions_occur clauses es unassigned unassigned h (λ x t has. let none : None ≡ Some t = has in cc)) (negation_is_false es s is)
