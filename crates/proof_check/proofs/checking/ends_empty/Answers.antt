use Rattle.std.proofs.Common.{ap, sym, ◌∙◌, ◌==◌, length, List}
use Rattle.cnf_form.specs.Literals.{Literal}
use Rattle.proof_check.proofs.Turns.{empty_at_end, no_end, empty_by_length}
use Rattle.proof_check.proofs.checking.ends_empty.Goals as goal

pub returns-in-Some : goal.returns-in-Some
returns-in-Some c =
    rw (← c.steps.ensures)
    (c.is_empty.ensures ∙ ap (λ (ls : List Literal). length ls == 0) (c.literals.ensures.value ∙ c.clause.ensures)
    ∙ sym (empty_at_end c.steps.result.now c.in-Some.step.now (sym c.in-Some.ensures.value) ∙ empty_by_length c.in-Some.step.now.clause))

pub returns-in-None : goal.returns-in-None
returns-in-None c = rw (← c.steps.ensures) (sym (no_end c.steps.result.now (sym c.in-None.ensures.value)))
