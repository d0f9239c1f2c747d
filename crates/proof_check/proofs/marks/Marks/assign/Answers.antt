use Rattle.std.proofs.Common.{arith}
use Rattle.proof_check.proofs.Assigning.{made}
use Rattle.proof_check.proofs.marks.Marks.assign.Goals as goal

pub returns-clause-ok : goal.returns-clause-ok
returns-clause-ok c =
    rw (← c.self.view_is)
    (made c.self.inside.round c.self.inside.marks.items c.reach.new.marks.items _ c.variable-place.result c.args.literal c.is_positive.result c.self.invariant c.in_ok-reach.ensures.items c.variable-place.ensures.value c.is_positive.ensures (omega (arith, c.in_ok-reach.ensures.there, c.reach.new.marks.ok)))
