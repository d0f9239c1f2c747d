use Rattle.std.proofs.Common.{◌+◌, ap, sym, ◌∙◌}
use Rattle.std.specs.Prelude.{is_some}
use Rattle.term_simplify.proofs.NarrowReading.{negative_read}
use Rattle.term_simplify.proofs.narrowing.of_negative.Goals as goal

pub returns-clause-is : goal.returns-clause-is
returns-clause-is c =
    negative_read c.args.terms.now c.args.a c.reach_of-reach.result c.width_of.result
    c.narrowest.result c.reach_of-reach.ensures.is c.width_of.ensures.value (c.min.result + 1)
    (sym (c.is_some.ensures ∙ ap is_some c.number_at.ensures.number) ∙ c.if-is_some.false)
    (ap (λ k. k + 1) c.min.ensures) c.narrowest.ensures
