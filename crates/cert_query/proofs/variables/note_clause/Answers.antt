use Rattle.std.proofs.Common.{length, arith}
use Rattle.cert_query.proofs.Noting.{literal_below}
use Rattle.cert_query.proofs.variables.note_clause.Goals as goal

pub note-requires : goal.note-requires
note-requires c =
    let below = literal_below (length c.args.seen.now.items) c.args.clause.now c.loop-literal.literal-index c.literal-item.result c.requires c.loop-literal-test.true c.literal-item.is in
    omega (arith, below, c.variable.ensures.value, c.loop-literal.invariant.size)
