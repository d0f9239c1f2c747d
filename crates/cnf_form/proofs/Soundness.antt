use Rattle.std.proofs.Common.{◌≡◌, ℕ, zero, suc, inl, inr, ◌-◌, Bool, true, false, not, ◌||◌, ◌==◌, cond, if◌then◌else◌, List, [], ◌∷◌, ◌++◌, Option, Some, None, refl, ap, sym, ◌∙◌, filter, fold, slice_get}
use Rattle.std.specs.List.{list_any, list_all}
use Rattle.std.proofs.lemmas.Bool.{and_parts, or_parts, and_from, false≢true, eqb-true, cases_Bool}
use Rattle.std.proofs.lemmas.List.Folds.{list_all-append}
use Rattle.cnf_form.specs.Literals.{Literal, negation, same_truth}
use Rattle.cnf_form.specs.Valuations.{literal_value, satisfies_clause, satisfies}
use Rattle.cnf_form.specs.Propagation.{unassigned, assign, has_value, is_true, is_false, falsify, is_falsified, open_literals, only_literal, unit_literal, numbered, unit_of_hint, hint_is_falsified, and_then_holds, reaches_conflict, follows}
use Rattle.cnf_form.specs.Refutations.{Step, clauses_of, follows_all, ends_empty, is_empty_clause, refutes}

-- a valuation gives each variable the value that the assignment gives it, if any
abbrev Agrees : (ℕ → Bool) → (ℕ → Option Bool) → Type 0
Agrees v a = (x : ℕ) (b : Bool) → a x ≡ Some b → v x ≡ b

same_from_true : (a b : Bool) → same_truth a b ≡ true → a ≡ b
same_from_true true b h = sym h
same_from_true false true h = cc
same_from_true false false h = refl

not_negation : (b : Bool) → same_truth b (not b) ≡ false
not_negation true = refl
not_negation false = refl

other_sign : (a b : Bool) → same_truth a b ≡ false → same_truth a (not b) ≡ true
other_sign true true h = cc
other_sign true false h = refl
other_sign false true h = refl
other_sign false false h = cc

assigned : (v : ℕ → Bool) (a : ℕ → Option Bool) (l : Literal) → Agrees v a → literal_value v l ≡ true → (x : ℕ) (b t : Bool) → (x == l.variable) ≡ t → (if t then Some l.positive else a x) ≡ Some b → v x ≡ b
assigned v a l agrees is_so x b true at given =
    ap v (eqb-true x l.variable at) ∙ same_from_true (v l.variable) l.positive is_so ∙ cc
assigned v a l agrees is_so x b false at given = agrees x b given

agrees-assign : (v : ℕ → Bool) (a : ℕ → Option Bool) (l : Literal) → Agrees v a → literal_value v l ≡ true → Agrees v (assign a l)
agrees-assign v a l agrees is_so x b given = assigned v a l agrees is_so x b (x == l.variable) refl given

agrees-fold : (v : ℕ → Bool) (a : ℕ → Option Bool) (c : List Literal) → Agrees v a → list_any (literal_value v) c ≡ false → Agrees v (fold (λ b l. assign b (negation l)) a c)
agrees-fold v a [] agrees h = agrees
agrees-fold v a (l ∷ ls) agrees h =
    let parts : (literal_value v l ≡ false) × (list_any (literal_value v) ls ≡ false) = or_parts _ _ h in
    agrees-fold v (assign a (negation l)) ls (agrees-assign v a (negation l) agrees (other_sign (v l.variable) l.positive parts.0)) parts.1

agrees-falsify : (v : ℕ → Bool) (c : List Literal) → satisfies_clause v c ≡ false → Agrees v (falsify c)
unfolding falsify satisfies_clause
agrees-falsify v c h = agrees-fold v unassigned c (λ x b given. cc) h

value_open : (v : ℕ → Bool) (a : ℕ → Option Bool) (l : Literal) (o : Option Bool) → ((b : Bool) → o ≡ Some b → v l.variable ≡ b) → literal_value v l ≡ true → has_value o (not l.positive) ≡ false
value_open v a l None agrees h = refl
value_open v a l (Some b) agrees h =
    ap (λ t. same_truth t (not l.positive)) (sym (agrees b refl) ∙ same_from_true (v l.variable) l.positive h) ∙ not_negation l.positive

true_is_open : (v : ℕ → Bool) (a : ℕ → Option Bool) (l : Literal) → Agrees v a → literal_value v l ≡ true → is_false a l ≡ false
true_is_open v a l agrees h = value_open v a l (a l.variable) (agrees l.variable) h

-- a clause that is true has a true literal among those that aren't false
open_step : (v : ℕ → Bool) (a : ℕ → Option Bool) (l : Literal) (rest kept : List Literal) (t : Bool) → Agrees v a → is_false a l ≡ t → (list_any (literal_value v) rest ≡ true → list_any (literal_value v) kept ≡ true) → (literal_value v l || list_any (literal_value v) rest) ≡ true → list_any (literal_value v) (cond (not t) (l ∷ kept) kept) ≡ true
open_step v a l rest kept false agrees is step h =
    elim (cases_Bool (literal_value v l)) [
      | inl holds ↦ rw holds refl
      | inr fails ↦ rw fails (step (rw fails at h))
    ]
open_step v a l rest kept true agrees is step h =
    elim (cases_Bool (literal_value v l)) [
      | inl holds ↦ absurd (false≢true (sym (true_is_open v a l agrees holds) ∙ is))
      | inr fails ↦ step (rw fails at h)
    ]

true_among_open : (v : ℕ → Bool) (a : ℕ → Option Bool) (c : List Literal) → Agrees v a → list_any (literal_value v) c ≡ true → list_any (literal_value v) (filter (λ l. not (is_false a l)) c) ≡ true
true_among_open v a [] agrees h = h
true_among_open v a (l ∷ ls) agrees h =
    open_step v a l ls (filter (λ k. not (is_false a k)) ls) (is_false a l) agrees refl (λ k. true_among_open v a ls agrees k) h

only_case : (v : ℕ → Bool) (a : ℕ → Option Bool) (k l : Literal) (t : Bool) → (literal_value v k || false) ≡ true → (if t then None else Some k) ≡ Some l → literal_value v l ≡ true
only_case v a k l true h is = cc
only_case v a k l false h is =
    let same : k ≡ l = cc in
    elim (cases_Bool (literal_value v k)) [
      | inl holds ↦ ap (literal_value v) (sym same) ∙ holds
      | inr fails ↦ absurd (false≢true (rw fails at h))
    ]

only_is_true : (v : ℕ → Bool) (a : ℕ → Option Bool) (c : List Literal) (l : Literal) → list_any (literal_value v) c ≡ true → only_literal a c ≡ Some l → literal_value v l ≡ true
only_is_true v a [] l h is = cc
only_is_true v a (k ∷ []) l h is = only_case v a k l (is_true a k) h is
only_is_true v a (k ∷ m ∷ ms) l h is = cc

unit_is_true : (v : ℕ → Bool) (a : ℕ → Option Bool) (c : List Literal) (l : Literal) → Agrees v a → satisfies_clause v c ≡ true → unit_literal a c ≡ Some l → literal_value v l ≡ true
unfolding satisfies_clause open_literals
unit_is_true v a c l agrees h is = only_is_true v a (filter (λ k. not (is_false a k)) c) l (true_among_open v a c agrees h) is

not_all_false : (v : ℕ → Bool) (a : ℕ → Option Bool) (c : List Literal) → Agrees v a → list_any (literal_value v) c ≡ true → list_all (is_false a) c ≡ true → ⊥
not_all_false v a [] agrees h all = false≢true h
not_all_false v a (l ∷ ls) agrees h all =
    let parts : (is_false a l ≡ true) × (list_all (is_false a) ls ≡ true) = and_parts _ _ all in
    elim (cases_Bool (literal_value v l)) [
      | inl holds ↦ false≢true (sym (true_is_open v a l agrees holds) ∙ parts.0)
      | inr fails ↦ not_all_false v a ls agrees (rw fails at h) parts.1
    ]

not_falsified : (v : ℕ → Bool) (a : ℕ → Option Bool) (c : List Literal) → Agrees v a → satisfies_clause v c ≡ true → is_falsified a c ≡ true → ⊥
unfolding satisfies_clause is_falsified
not_falsified v a c agrees h all = not_all_false v a c agrees h all

got_is_satisfied : (v : ℕ → Bool) (clauses : List (List Literal)) (i : ℕ) (c : List Literal) → list_all (satisfies_clause v) clauses ≡ true → slice_get clauses i ≡ Some c → satisfies_clause v c ≡ true
got_is_satisfied v [] i c all is = cc
got_is_satisfied v (d ∷ ds) zero c all is =
    let parts : (satisfies_clause v d ≡ true) × (list_all (satisfies_clause v) ds ≡ true) = and_parts _ _ all in
    let same : d ≡ c = cc in
    ap (satisfies_clause v) (sym same) ∙ parts.0
got_is_satisfied v (d ∷ ds) (suc i) c all is =
    let parts : (satisfies_clause v d ≡ true) × (list_all (satisfies_clause v) ds ≡ true) = and_parts _ _ all in
    got_is_satisfied v ds i c parts.1 is

numbered_case : (v : ℕ → Bool) (clauses : List (List Literal)) (h : ℕ) (c : List Literal) (t : Bool) → list_all (satisfies_clause v) clauses ≡ true → (if t then None else slice_get clauses (h - 1)) ≡ Some c → satisfies_clause v c ≡ true
numbered_case v clauses h c true all is = cc
numbered_case v clauses h c false all is = got_is_satisfied v clauses (h - 1) c all is

hint_not_falsified : (v : ℕ → Bool) (a : ℕ → Option Bool) (o : Option (List Literal)) → Agrees v a → ((c : List Literal) → o ≡ Some c → satisfies_clause v c ≡ true) → hint_is_falsified a o ≡ true → ⊥
hint_not_falsified v a None agrees sat h = false≢true h
hint_not_falsified v a (Some c) agrees sat h = not_falsified v a c agrees (sat c refl) h

hint_is_true : (v : ℕ → Bool) (a : ℕ → Option Bool) (o : Option (List Literal)) (l : Literal) → Agrees v a → ((c : List Literal) → o ≡ Some c → satisfies_clause v c ≡ true) → unit_of_hint a o ≡ Some l → literal_value v l ≡ true
hint_is_true v a None l agrees sat h = cc
hint_is_true v a (Some c) l agrees sat h = unit_is_true v a c l agrees (sat c refl) h

then_case : (o : Option Literal) (rest : Literal → Bool) → ((l : Literal) → o ≡ Some l → rest l ≡ true → ⊥) → and_then_holds o rest ≡ true → ⊥
then_case None rest never h = false≢true h
then_case (Some l) rest never h = never l refl h

no_conflict : (v : ℕ → Bool) (clauses : List (List Literal)) (hints : List ℕ) (a : ℕ → Option Bool) → list_all (satisfies_clause v) clauses ≡ true → Agrees v a → reaches_conflict clauses hints a ≡ true → ⊥
unfolding reaches_conflict
no_conflict v clauses [] a all agrees h = false≢true h
no_conflict v clauses (n ∷ []) a all agrees h =
    hint_not_falsified v a (numbered clauses n) agrees (λ c is. numbered_case v clauses n c (n == 0) all is) h
no_conflict v clauses (n ∷ k ∷ ns) a all agrees h =
    then_case (unit_of_hint a (numbered clauses n)) (λ l. reaches_conflict clauses (k ∷ ns) (assign a l))
    (λ l is rest. no_conflict v clauses (k ∷ ns) (assign a l) all
    (agrees-assign v a l agrees (hint_is_true v a (numbered clauses n) l agrees (λ c at. numbered_case v clauses n c (n == 0) all at) is)) rest)
    h

pub what_follows : (v : ℕ → Bool) (clauses : List (List Literal)) (clause : List Literal) (hints : List ℕ) → follows clauses clause hints ≡ true → satisfies v clauses ≡ true → satisfies_clause v clause ≡ true
unfolding follows satisfies
what_follows v clauses clause hints h all =
    elim (cases_Bool (satisfies_clause v clause)) [
      | inl holds ↦ holds
      | inr fails ↦ absurd (no_conflict v clauses hints (falsify clause) all (agrees-falsify v clause fails) h)
    ]

log_step : (v : ℕ → Bool) (before : List (List Literal)) (log : List Step) → follows_all before log ≡ true → list_all (satisfies_clause v) before ≡ true → list_all (satisfies_clause v) (clauses_of log) ≡ true
unfolding follows_all satisfies
log_step v before [] h all = refl
log_step v before (s ∷ ss) h all =
    let parts : (follows before s.clause s.hints ≡ true) × (follows_all (before ++ s.clause ∷ []) ss ≡ true) = and_parts _ _ h in
    let first : satisfies_clause v s.clause ≡ true = what_follows v before s.clause s.hints parts.0 all in
    and_from (satisfies_clause v s.clause) (list_all (satisfies_clause v) (clauses_of ss)) first
    (log_step v (before ++ s.clause ∷ []) ss parts.1
    (list_all-append (satisfies_clause v) before (s.clause ∷ []) ∙ and_from _ _ all (and_from _ _ first refl)))

pub log_keeps : (v : ℕ → Bool) (formula : List (List Literal)) (log : List Step) → follows_all formula log ≡ true → satisfies v formula ≡ true → satisfies v (clauses_of log) ≡ true
unfolding satisfies
log_keeps v formula log h all = log_step v formula log h all

empty_is_false : (v : ℕ → Bool) (c : List Literal) → is_empty_clause c ≡ true → satisfies_clause v c ≡ true → ⊥
unfolding satisfies_clause
empty_is_false v [] e h = false≢true h
empty_is_false v (l ∷ ls) e h = false≢true e

not_empty_at_end : (v : ℕ → Bool) (log : List Step) → ends_empty log ≡ true → list_all (satisfies_clause v) (clauses_of log) ≡ true → ⊥
unfolding ends_empty
not_empty_at_end v [] e all = false≢true e
not_empty_at_end v (s ∷ []) e all =
    let parts : (satisfies_clause v s.clause ≡ true) × (true ≡ true) = and_parts _ _ all in
    empty_is_false v s.clause e parts.0
not_empty_at_end v (s ∷ t ∷ ss) e all =
    let parts : (satisfies_clause v s.clause ≡ true) × (list_all (satisfies_clause v) (clauses_of (t ∷ ss)) ≡ true) = and_parts _ _ all in
    not_empty_at_end v (t ∷ ss) e parts.1

pub no_valuation : (v : ℕ → Bool) (formula : List (List Literal)) (log : List Step) → refutes formula log ≡ true → satisfies v formula ≡ true → ⊥
unfolding satisfies
no_valuation v formula log h all =
    let parts : (follows_all formula log ≡ true) × (ends_empty log ≡ true) = and_parts _ _ h in
    not_empty_at_end v log parts.1 (log_step v formula log parts.0 all)
