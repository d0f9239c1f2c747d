use Rattle.std.proofs.Common.{◌∙◌, arith, rules}
use Rattle.bit_blast.proofs.Walks.{equal_more, equal_end}
use Rattle.bit_blast.proofs.gates.Gates.equal.Goals as goal

pub loop-i-preserved : goal.loop-i-preserved
loop-i-preserved c =
    equal_more c.args.a.now c.args.b.now c.loop-i.i _ _ c.loop-i.same _ _ _ _ _ (omega arith) (omega arith) c.index-a-i.is c.index-b-i.is c.in_ok-differs.ensures (search rules)
    ∙ c.loop-i.invariant

pub returns : goal.returns
returns c = equal_end c.args.a.now c.args.b.now c.loop-i.i c.loop-i.same c.loop-i.self (omega arith) ∙ c.loop-i.invariant
