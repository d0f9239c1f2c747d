use Rattle.std.proofs.Common.{◌∙◌, arith}
use Rattle.circuit_spec.specs.Gates.{gate_of}
use Rattle.bit_blast.proofs.Walks.{each_more, each_end}
use Rattle.bit_blast.proofs.gates.Gates.each.Goals as goal

pub loop-i-preserved : goal.loop-i-preserved
loop-i-preserved c =
    rw c.in_ok-push.ensures.items
    (each_more (gate_of c.args.gate.now) c.args.a.now c.args.b.now c.loop-i.row.items c.loop-i.i _ _ _ _ _ (omega arith) (omega arith) c.index-a-i.is c.index-b-i.is c.in_ok-literal.ensures
    ∙ c.loop-i.invariant)

pub returns : goal.returns
returns c = each_end (gate_of c.args.gate.now) c.args.a.now c.args.b.now c.loop-i.row.items c.loop-i.i c.loop-i.self (omega arith) ∙ c.loop-i.invariant
