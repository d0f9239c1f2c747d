use Rattle.std.proofs.Common.{◌≡◌, ℕ, ◌≤◌, Bool, true, false, not, List, [], ◌∷◌, ◌++◌, length, replicate, Option, None, Some, append-nil, append_assoc, refl, ap, sym, ◌∙◌, arith, inl, inr}
use Rattle.std.specs.List.{list_all, list_any}
use Rattle.std.proofs.lemmas.Bool.{and_parts, and_from, or_cases, or_left, or_right, not_from_false, false≢true}
use Rattle.std.proofs.lemmas.List.{length-replicate}
use Rattle.std.proofs.lemmas.List.Folds.{list_all-append}
use Rattle.cnf_form.specs.Literals.{Literal}
use Rattle.cnf_form.specs.Propagation.{unassigned, is_true, follows}
use Rattle.cnf_form.specs.Refutations.{has_no_empty, Step, clauses_of, follows_all, is_new, is_fresh, is_empty_clause, ends_empty, refutes}
use Rattle.cnf_form.specs.Valuations.{literal_value, satisfies_clause, satisfies}
use Rattle.cnf_form.specs.Variables.{is_below, is_over}
use Rattle.cnf_form.proofs.Occurs.{below_if_over, over_before}
use Rattle.proof_check.proofs.Chains.{at_more}
use Rattle.cdcl_core.specs.Trails.{Assignment, trail_values, IsTrail, AreCalmFirst}
use Rattle.cdcl_core.specs.Passes.{has_true}
use Rattle.cdcl_core.specs.Searches.{IsSearch, IsLesson, IsDescent}
use Rattle.cdcl_core.proofs.Values.{no_trail}

regroup : (before : List (List Literal)) (c : List Literal) (cs : List (List Literal)) → (before ++ c ∷ []) ++ cs ≡ before ++ c ∷ cs
regroup [] c cs = refl
regroup (b ∷ bs) c cs = ap (λ ds. b ∷ ds) (regroup bs c cs)

-- one more step of a log
follows_more : (before : List (List Literal)) (log : List Step) (s : Step) → follows_all before log ≡ true → follows (before ++ clauses_of log) s.clause s.hints ≡ true → follows_all before (log ++ s ∷ []) ≡ true
unfolding follows_all
follows_more before [] s h here = and_from _ _ (ap (λ (cs : List (List Literal)). follows cs s.clause s.hints) (sym (append-nil before)) ∙ here) refl
follows_more before (t ∷ ts) s h here =
    let parts : (follows before t.clause t.hints ≡ true) × (follows_all (before ++ t.clause ∷ []) ts ≡ true) = and_parts _ _ h in
    and_from _ _ parts.0 (follows_more (before ++ t.clause ∷ []) ts s parts.1 (ap (λ (cs : List (List Literal)). follows cs s.clause s.hints) (regroup before t.clause (clauses_of ts)) ∙ here))

fresh_more : (before : List (List Literal)) (log : List Step) (s : Step) → is_fresh before log ≡ true → is_new (before ++ clauses_of log) s.clause ≡ true → is_fresh before (log ++ s ∷ []) ≡ true
unfolding is_fresh
fresh_more before [] s h here = and_from _ _ (ap (λ (cs : List (List Literal)). is_new cs s.clause) (sym (append-nil before)) ∙ here) refl
fresh_more before (t ∷ ts) s h here =
    let parts : (is_new before t.clause ≡ true) × (is_fresh (before ++ t.clause ∷ []) ts ≡ true) = and_parts _ _ h in
    and_from _ _ parts.0 (fresh_more (before ++ t.clause ∷ []) ts s parts.1 (ap (λ (cs : List (List Literal)). is_new cs s.clause) (regroup before t.clause (clauses_of ts)) ∙ here))

no_empty_more : (log : List Step) (s : Step) → has_no_empty log ≡ true → is_empty_clause s.clause ≡ false → has_no_empty (log ++ s ∷ []) ≡ true
unfolding has_no_empty
no_empty_more log s h here = list_all-append (λ (t : Step). not (is_empty_clause t.clause)) log (s ∷ []) ∙ and_from _ _ h (and_from _ _ (not_from_false _ here) refl)

clauses_more : (log : List Step) (s : Step) → clauses_of (log ++ s ∷ []) ≡ clauses_of log ++ s.clause ∷ []
clauses_more [] s = refl
clauses_more (t ∷ ts) s = ap (λ cs. t.clause ∷ cs) (clauses_more ts s)

ends_with : (log : List Step) (s : Step) → ends_empty (log ++ s ∷ []) ≡ is_empty_clause s.clause
unfolding ends_empty
ends_with [] s = refl
ends_with (t ∷ []) s = refl
ends_with (t ∷ u ∷ us) s = ends_with (u ∷ us) s

over_more : (f clauses : List (List Literal)) (log : List Step) (s : Step) → clauses ≡ f ++ clauses_of log → list_all (is_over f) (clauses_of log) ≡ true → is_over clauses s.clause ≡ true → list_all (is_over f) (clauses_of (log ++ s ∷ [])) ≡ true
over_more f clauses log s all over here =
    ap (list_all (is_over f)) (clauses_more log s) ∙ list_all-append (is_over f) (clauses_of log) (s.clause ∷ [])
    ∙ and_from _ _ over (and_from _ _ (over_before f (clauses_of log) s.clause over (ap (λ (cs : List (List Literal)). is_over cs s.clause) (sym all) ∙ here)) refl)

-- the search as it begins
no_log_follows : (f : List (List Literal)) → follows_all f [] ≡ true
unfolding follows_all
no_log_follows f = refl

no_log_fresh : (f : List (List Literal)) → is_fresh f [] ≡ true
unfolding is_fresh
no_log_fresh f = refl

no_log_empty : has_no_empty [] ≡ true
unfolding has_no_empty
no_log_empty = refl

pub begins : (f clauses : List (List Literal)) (log : List Step) (now : Assignment) (n k : ℕ) → clauses ≡ f → log ≡ [] → now ≡ record { marks = replicate n None; entries = [] } → list_all (is_below n) f ≡ true → k ≡ 0 → IsSearch f clauses log now k
begins f clauses log now n k same none is below first =
    rw (same, none, is, first) record {
      all = sym (append-nil f);
      follows = no_log_follows f;
      fresh = no_log_fresh f;
      no_empty = no_log_empty;
      over = refl;
      below = rw (length-replicate {A = Option Bool} n None) below;
      trail = no_trail f unassigned;
      calm = λ i c early. absurd (omega (arith, early));
    }

-- a step that is learnt
calm_more : (clauses : List (List Literal)) (a : ℕ → Option Bool) (c : List Literal) (n : ℕ) → n ≤ length clauses → AreCalmFirst n a clauses → AreCalmFirst n a (clauses ++ c ∷ [])
calm_more clauses a c n within calm k d early at =
    elim (at_more clauses c d k at) [
      | inl before ↦ calm k d early before
      | inr last ↦ absurd (omega (arith, early, within, last.0))
    ]

pub learns : (f clauses more : List (List Literal)) (log longer : List Step) (old now : Assignment) (s : Step) (m n : ℕ) → IsSearch f clauses log old m → IsLesson clauses s → is_empty_clause s.clause ≡ false
    → IsTrail (clauses ++ s.clause ∷ []) now.entries → length now.marks ≡ length old.marks → n ≤ length clauses → AreCalmFirst n (trail_values now.entries) clauses → more ≡ clauses ++ s.clause ∷ [] → longer ≡ log ++ s ∷ [] → IsSearch f more longer now n
learns f clauses more log longer old now s m n h lesson some trail size count calm made put =
    rw (made, put) record {
      all = ap (λ (cs : List (List Literal)). cs ++ s.clause ∷ []) h.all ∙ append_assoc f (clauses_of log) (s.clause ∷ []) ∙ ap (λ (cs : List (List Literal)). f ++ cs) (sym (clauses_more log s));
      follows = follows_more f log s h.follows (ap (λ (cs : List (List Literal)). follows cs s.clause s.hints) (sym h.all) ∙ lesson.follows);
      fresh = fresh_more f log s h.fresh (ap (λ (cs : List (List Literal)). is_new cs s.clause) (sym h.all) ∙ lesson.is_new some);
      no_empty = no_empty_more log s h.no_empty some;
      over = over_more f clauses log s h.all h.over lesson.over;
      below = list_all-append (is_below (length now.marks)) clauses (s.clause ∷ []) ∙ and_from _ _ (rw size h.below) (and_from _ _ (rw size (below_if_over (length old.marks) clauses s.clause h.below lesson.over)) refl);
      trail = trail;
      calm = calm_more clauses (trail_values now.entries) s.clause n count calm;
    }

pub ends : (f clauses : List (List Literal)) (log longer : List Step) (now : Assignment) (n : ℕ) (s : Step) → IsSearch f clauses log now n → IsLesson clauses s → is_empty_clause s.clause ≡ true → longer ≡ log ++ s ∷ [] → refutes f longer ≡ true
ends f clauses log longer now n s h lesson none put =
    rw put (and_from _ _ (follows_more f log s h.follows (ap (λ (cs : List (List Literal)). follows cs s.clause s.hints) (sym h.all) ∙ lesson.follows)) (ends_with log s ∙ none))

pub ends_over : (f clauses : List (List Literal)) (log longer : List Step) (now : Assignment) (n : ℕ) (s : Step) → IsSearch f clauses log now n → IsLesson clauses s → longer ≡ log ++ s ∷ [] → list_all (is_over f) (clauses_of longer) ≡ true
ends_over f clauses log longer now n s h lesson put = rw put (over_more f clauses log s h.all h.over lesson.over)

-- where each clause has a literal that is true, a valuation with these literals satisfies all
any_true_by : (q r : Literal → Bool) (c : List Literal) → ((l : Literal) → q l ≡ true → r l ≡ true) → list_any q c ≡ true → list_any r c ≡ true
any_true_by q r [] means h = absurd (false≢true h)
any_true_by q r (l ∷ ls) means h =
    elim (or_cases (q l) (list_any q ls) h) [
      | inl here ↦ or_left _ _ (means l here)
      | inr later ↦ or_right _ _ (any_true_by q r ls means later)
    ]

satisfied_by : (v : ℕ → Bool) (a : ℕ → Option Bool) (clauses : List (List Literal)) → ((l : Literal) → is_true a l ≡ true → literal_value v l ≡ true) → list_all (has_true a) clauses ≡ true → list_all (satisfies_clause v) clauses ≡ true
unfolding satisfies_clause
satisfied_by v a [] means h = refl
satisfied_by v a (c ∷ cs) means h =
    let parts : (has_true a c ≡ true) × (list_all (has_true a) cs ≡ true) = and_parts _ _ h in
    and_from _ _ (any_true_by (is_true a) (literal_value v) c means parts.0) (satisfied_by v a cs means parts.1)

pub is_found : (v : ℕ → Bool) (a : ℕ → Option Bool) (f clauses : List (List Literal)) (log : List Step) → clauses ≡ f ++ clauses_of log → ((l : Literal) → is_true a l ≡ true → literal_value v l ≡ true) → list_all (has_true a) clauses ≡ true → satisfies v f ≡ true
unfolding satisfies
is_found v a f clauses log all means h =
    (and_parts _ _ (sym (list_all-append (satisfies_clause v) f (clauses_of log)) ∙ ap (list_all (satisfies_clause v)) (sym all) ∙ satisfied_by v a clauses means h)).0

pub is_found_at : (v : ℕ → Bool) (f clauses : List (List Literal)) (log : List Step) (now : Assignment) (n : ℕ) (o : Option ℕ) → IsSearch f clauses log now n → ((l : Literal) → is_true (trail_values now.entries) l ≡ true → literal_value v l ≡ true) → IsDescent clauses (trail_values now.entries) o → ((k : ℕ) → o ≡ Some k → ⊥) → satisfies v f ≡ true
is_found_at v f clauses log now n None h means all never = is_found v (trail_values now.entries) f clauses log h.all means all
is_found_at v f clauses log now n (Some k) h means all never = absurd (never k refl)
