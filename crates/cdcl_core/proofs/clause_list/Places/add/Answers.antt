use Rattle.std.proofs.Common.{arith}
use Rattle.cdcl_core.proofs.Noting.{each_noted}
use Rattle.cdcl_core.proofs.clause_list.Places.add.Goals as goal

pub returns-clause-noted : goal.returns-clause-noted
returns-clause-noted c =
    λ l has.
    each_noted c.loop-literal.self c.args.place c.args.clause.now l (λ i d within. c.loop-literal.invariant.noted i d (omega (arith, within, c.loop-literal-test.false))) has
