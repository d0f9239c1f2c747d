use Rattle.std.proofs.Common.{◌≡◌, ◌∙◌, ◌==◌, List, Some, true, slice_get, ap, sym}
use Rattle.std.specs.List.{list_any}
use Rattle.cnf_form.specs.Literals.{Literal}
use Rattle.cnf_form.proofs.Occurs.{occurs_at}
use Rattle.cdcl_core.proofs.clause_list.ClauseList.shows.Goals as goal

pub returns-in-Some-get : goal.returns-in-Some-get
returns-in-Some-get c =
    λ yes.
    let at : slice_get c.args.self.now c.in-Some.place.now ≡ Some c.in-Some-get.clause.now
    = ap (λ (cs : List (List Literal)). slice_get cs c.in-Some.place.now) (sym c.list.ensures) ∙ sym c.in-Some-get.ensures.value in
    let has : list_any (λ (l : Literal). l.variable == c.args.literal.variable) c.in-Some-get.clause.now ≡ true
    = ap (λ v. list_any (λ (l : Literal). l.variable == v) c.in-Some-get.clause.now) (sym c.variable.ensures.value) ∙ sym c.has_variable.ensures ∙ yes in
    occurs_at c.args.self.now c.in-Some.place.now c.in-Some-get.clause.now c.args.literal.variable at has
