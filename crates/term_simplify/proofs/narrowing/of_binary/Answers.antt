use Rattle.std.proofs.Common.{sym, ◌∙◌}
use Rattle.term_simplify.proofs.NarrowReading.{binary_read}
use Rattle.term_simplify.proofs.narrowing.of_binary.Goals as goal

pub returns-clause-is : goal.returns-clause-is
returns-clause-is c =
    binary_read c.args.terms.now c.args.a c.reach_of-left.result c.width_of.result
    c.narrowest.result c.reach_of-left.ensures.is c.width_of.ensures.value c.args.b
    c.reach_of-right.result c.reach_of-right.ensures.is c.args.op
    c.unsigned_result.result c.signed_result.result
    (sym c.is_settled.ensures.is ∙ c.if-is_settled.false)
    c.unsigned_result.ensures c.signed_result.ensures c.narrowest.ensures
