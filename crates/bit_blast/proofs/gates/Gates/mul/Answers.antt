use Rattle.std.proofs.Common.{◌∙◌, arith}
use Rattle.bit_blast.proofs.Multiplying.{product_more, product_end}
use Rattle.bit_blast.proofs.gates.Gates.mul.Goals as goal

pub loop-i-preserved : goal.loop-i-preserved
loop-i-preserved c =
    product_more c.args.a.now c.args.b.now c.loop-i.total.items _ _ _ c.loop-i.i _ _ _ c.loop-i-test.true c.index-b-i.is c.in_ok-partial.ensures (rw (c.deref.ensures.value, c.deref-in-loop-i.ensures.value) at c.in_ok-total-2.ensures)
    ∙ c.loop-i.invariant

pub returns : goal.returns
returns c = product_end c.args.a.now c.args.b.now c.loop-i.total.items c.loop-i.i c.loop-i.self (omega arith) ∙ c.loop-i.invariant
