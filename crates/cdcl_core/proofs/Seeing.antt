-- Clauses of variables that were seen in a formula are over its variables.
use Rattle.std.proofs.Common.{◌≡◌, Bool, true, false, List, [], ◌∷◌, refl, slice_index_or}
use Rattle.std.specs.List.{list_all}
use Rattle.std.proofs.lemmas.Bool.{and_parts, and_from}
use Rattle.cnf_form.specs.Literals.{Literal}
use Rattle.cnf_form.specs.Refutations.{Step, clauses_of}
use Rattle.cnf_form.specs.Variables.{is_over}
use Rattle.cdcl_core.specs.Occurrences.{AreSeen}

over : (formula : List (List Literal)) (seen : List Bool) → AreSeen formula seen → (c : List Literal) →
    list_all (λ l. slice_index_or seen l.variable false) c ≡ true → is_over formula c ≡ true
unfolding is_over
over formula seen are [] h = refl
over formula seen are (l ∷ ls) h =
    let parts : (slice_index_or seen l.variable false ≡ true) × (list_all (λ (k : Literal). slice_index_or seen k.variable false) ls ≡ true) = and_parts _ _ h in
    and_from _ _ (are l.variable parts.0) (over formula seen are ls parts.1)

pub all_over : (formula : List (List Literal)) (seen : List Bool) → AreSeen formula seen → (log : List Step) →
    list_all (λ s. list_all (λ l. slice_index_or seen l.variable false) s.clause) log ≡ true →
    list_all (is_over formula) (clauses_of log) ≡ true
all_over formula seen are [] h = refl
all_over formula seen are (s ∷ log) h =
    let parts : (list_all (λ (l : Literal). slice_index_or seen l.variable false) s.clause ≡ true) × (list_all (λ (t : Step). list_all (λ (l : Literal). slice_index_or seen l.variable false) t.clause) log ≡ true) = and_parts _ _ h in
    and_from _ _ (over formula seen are s.clause parts.0) (all_over formula seen are log parts.1)
