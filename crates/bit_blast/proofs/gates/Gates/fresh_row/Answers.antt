use Rattle.std.proofs.Common.{◌∙◌, arith}
use Rattle.bit_blast.proofs.Counted.{fresh_more, fresh_end}
use Rattle.bit_blast.proofs.gates.Gates.fresh_row.Goals as goal

pub loop-place-preserved : goal.loop-place-preserved
loop-place-preserved c =
    rw (c.in_ok-push.ensures.items, c.in_ok-variable.ensures.formula, c.in_ok-variable.ensures.literal)
    (fresh_more c.args.width c.loop-place._place c.loop-place.row.items c.loop-place.self c.loop-place-test.true
    ∙ c.loop-place.invariant)

pub returns : goal.returns
returns c = fresh_end c.args.width c.loop-place._place c.loop-place.row.items c.loop-place.self (omega arith) ∙ c.loop-place.invariant
