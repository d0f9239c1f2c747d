use Rattle.std.proofs.Common.{◌∙◌, arith}
use Rattle.bit_blast.proofs.Counted.{number_row_more, number_row_end}
use Rattle.bit_blast.proofs.rows.number_row.Goals as goal

pub loop-place-preserved : goal.loop-place-preserved
loop-place-preserved c =
    rw (c.in_ok-push.ensures.items, c.constant.ensures)
    (number_row_more c.args.width c.loop-place._place c.loop-place.rest c.loop-place.row.items c.loop-place-test.true
    ∙ c.loop-place.invariant)

pub returns : goal.returns
returns c = number_row_end c.args.width c.loop-place._place c.loop-place.rest c.loop-place.row.items (omega arith) ∙ c.loop-place.invariant
