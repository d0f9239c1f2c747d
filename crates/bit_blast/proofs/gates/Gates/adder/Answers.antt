use Rattle.std.proofs.Common.{◌∙◌, arith}
use Rattle.bit_blast.proofs.Walks.{adder_more, adder_end}
use Rattle.bit_blast.proofs.gates.Gates.adder.Goals as goal

pub loop-i-preserved : goal.loop-i-preserved
loop-i-preserved c =
    rw c.in_ok-push.ensures.items
    (adder_more c.args.a.now c.args.b.now c.loop-i.sums.items c.loop-i.i _ _ _ _ _ _ _ _ (omega arith) (omega arith) c.index-a-i.is c.index-b-i.is c.in_ok-sum.ensures c.in_ok-carry.ensures
    ∙ c.loop-i.invariant)

pub returns : goal.returns
returns c = adder_end c.args.a.now c.args.b.now c.loop-i.sums.items c.loop-i.i c.loop-i.carry c.loop-i.self (omega arith) ∙ c.loop-i.invariant
