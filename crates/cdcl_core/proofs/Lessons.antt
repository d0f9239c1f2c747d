use Rattle.std.proofs.Common.{◌≡◌, ℕ, true, false, cond, List, [], ◌∷◌, ◌++◌, map, filter, Option, Some, None, is_none, refl, ap, sym, ◌∙◌, IsSome}
use Rattle.std.specs.List.{filter_map, cons_option}
use Rattle.std.proofs.lemmas.Bool.{true≢false}
use Rattle.cnf_form.specs.Literals.{Literal, negation}
use Rattle.cnf_form.specs.Clauses.{clause_of}
use Rattle.cnf_form.specs.Propagation.{numbered, hint_is_falsified, follows}
use Rattle.cnf_form.specs.Refutations.{is_empty_clause}
use Rattle.cdcl_core.specs.declared.trail.Entry.{Entry}
use Rattle.cdcl_core.specs.Trails.{trail_values, IsTrail, decided_literals, reasons, if_decided, if_forced}
use Rattle.cdcl_core.specs.Searches.{IsLesson}
use Rattle.cdcl_core.proofs.Negating.{IsNegation, is_negation, is_some_clause, negation_follows, negation_is_new, negation_is_over}

denied_by : (e : Entry) (o : Option ℕ) (ks : List Literal) (kept : List Entry) → map (λ (d : Entry). negation d.literal) kept ≡ map negation ks → map (λ (d : Entry). negation d.literal) (cond (is_none o) (e ∷ kept) kept) ≡ map negation (if_decided o e.literal ks)
denied_by e None ks kept h = ap (λ ls. negation e.literal ∷ ls) h
denied_by e (Some n) ks kept h = h

denied : (es : List Entry) → map (λ (e : Entry). negation e.literal) (filter (λ (e : Entry). is_none e.reason) es) ≡ map negation (decided_literals es)
unfolding decided_literals
denied [] = refl
denied (e ∷ es) = denied_by e e.reason (decided_literals es) (filter (λ (d : Entry). is_none d.reason) es) (denied es)

forced_by : (o : Option ℕ) (ns ms : List ℕ) → ns ≡ ms → cons_option o ns ≡ if_forced o ms
forced_by None ns ms h = h
forced_by (Some n) ns ms h = ap (λ ks. n ∷ ks) h

forced : (es : List Entry) → filter_map (λ (e : Entry). e.reason) es ≡ reasons es
unfolding reasons
forced [] = refl
forced (e ∷ es) = forced_by e.reason (filter_map (λ (d : Entry). d.reason) es) (reasons es) (forced es)

none_decided : (es : List Entry) (s : List Literal) → clause_of (map negation (decided_literals es)) ≡ Some s → is_empty_clause s ≡ false → decided_literals es ≡ [] → ⊥
unfolding clause_of
none_decided es s is some none =
    let empty : Some [] ≡ Some s = sym (ap (λ (ls : List Literal). clause_of (map negation ls)) none) ∙ is in
    let same : [] ≡ s = cc in
    true≢false (ap is_empty_clause same ∙ some)

pub negation_is_there : (clauses : List (List Literal)) (es seen : List Entry) (ls given : List Literal) (o : Option (List Literal)) → IsTrail clauses es → seen ≡ es → ls ≡ map (λ (e : Entry). negation e.literal) (filter (λ (e : Entry). is_none e.reason) seen) → given ≡ ls → o ≡ clause_of given → clause_of (map negation (decided_literals es)) ≡ o
negation_is_there clauses es seen ls given o h same made passed is =
    sym (is ∙ ap clause_of (passed ∙ made ∙ denied seen ∙ ap (λ ds. map negation (decided_literals ds)) same))

pub some_by : (clauses : List (List Literal)) (es : List Entry) (o : Option (List Literal)) → IsTrail clauses es → clause_of (map negation (decided_literals es)) ≡ o → IsSome o
some_by clauses es None h is = absurd (is_some_clause clauses es h is)
some_by clauses es (Some s) h is = refl

pub is_lesson : (clauses : List (List Literal)) (es seen : List Entry) (s : List Literal) (hints given : List ℕ) (k : ℕ) → IsTrail clauses es → clause_of (map negation (decided_literals es)) ≡ Some s → seen ≡ es → given ≡ filter_map (λ (e : Entry). e.reason) seen → hints ≡ given ++ k ∷ []
    → hint_is_falsified (trail_values es) (numbered clauses k) ≡ true → IsLesson clauses (record { clause = s; hints = hints })
is_lesson clauses es seen s hints given k h is same from all fails =
    let negates : IsNegation es s = is_negation clauses es s h is in
    record {
      follows = ap (follows clauses s) (all ∙ ap (λ ns. ns ++ k ∷ []) (from ∙ forced seen ∙ ap reasons same)) ∙ negation_follows clauses es s k h negates fails;
      is_new = λ some. negation_is_new clauses es s h negates (none_decided es s is some);
      over = negation_is_over clauses es s h negates;
    }
