use Rattle.std.proofs.Common.{◌∙◌, ap}
use Rattle.term_simplify.specs.Zeros.{alike, leaving_some}
use Rattle.term_simplify.proofs.ZeroReading.{common_read, none_common}
use Rattle.term_simplify.proofs.zeros.common_zeros.Goals as goal

pub returns-clause-is : goal.returns-clause-is
returns-clause-is c =
    common_read c.args.terms.now c.args.a c.args.b _ _ _ c.low_zeros-zeros.ensures.is c.low_zeros.ensures.is c.width_of.ensures.value _
    (c.leaving_some.ensures ∙ ap (λ k. leaving_some c.width_of.result (alike k)) c.min-few.ensures)

pub returns-then-zeros-eq0-clause-is : goal.returns-then-zeros-eq0-clause-is
returns-then-zeros-eq0-clause-is c = none_common c.args.terms.now c.args.a c.args.b _ c.low_zeros-zeros.ensures.is c.if-zeros-eq0.true
