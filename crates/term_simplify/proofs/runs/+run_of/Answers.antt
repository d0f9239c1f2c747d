use Rattle.std.proofs.Common.{◌∙◌, ◌+◌, ap, refl, sym}
use Rattle.term_simplify.proofs.RunNumbers.{run_by}
use Rattle.term_simplify.proofs.runs.+run_of.Goals as goal

pub returns-then-goes_on-clause-is : goal.returns-then-goes_on-clause-is
returns-then-goes_on-clause-is t c =
    sym (run_by c.args.width c.args.number c.requires ∙ rw (← c.goes_on.ensures, c.if-goes_on.true) (ap (λ k. k + 1) (sym c.run_of.ensures.is)))

pub returns-else-goes_on-clause-is : goal.returns-else-goes_on-clause-is
returns-else-goes_on-clause-is t c = sym (run_by c.args.width c.args.number c.requires ∙ rw (← c.goes_on.ensures, c.if-goes_on.false) refl)
