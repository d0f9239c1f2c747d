use Rattle.std.proofs.Common.{◌∙◌, refl, sym}
use Rattle.term_simplify.proofs.DivisionSteps.{stages_few}
use Rattle.term_simplify.proofs.Stepping.{at_tree, if_ok}
use Rattle.term_simplify.proofs.builder.Builder.quotient_by.Goals as goal

pub returns-then-is_power-clause-ok : goal.returns-then-is_power-clause-ok
returns-then-is_power-clause-ok c =
    if_ok _ _ _ c.power_quotient.ensures.ok (λ id n. at_tree (rw (sym c.is_power.ensures ∙ c.if-is_power.true) refl) n)

pub long_quotient-requires-clause-few : goal.long_quotient-requires-clause-few
long_quotient-requires-clause-few c =
    stages_few c.args.d.width c.args.d.bits c.args.d.divisor c.requires.how (sym c.is_power.ensures ∙ c.if-is_power.false)

pub returns-else-is_power-clause-ok : goal.returns-else-is_power-clause-ok
returns-else-is_power-clause-ok c =
    if_ok _ _ _ c.long_quotient.ensures.ok (λ id n. at_tree (rw (sym c.is_power.ensures ∙ c.if-is_power.false) refl) n)
