use Rattle.std.proofs.Common.{arith}
use Rattle.term_simplify.proofs.builder.Builder.without.Goals as goal

pub plain_step-requires : goal.plain_step-requires
plain_step-requires c = omega (arith, c.in_ok-within.ensures.ok.width)
