use Rattle.proof_check.proofs.Assigning.{cleared}
use Rattle.proof_check.proofs.marks.Marks.clear.Goals as goal

pub returns-in-Some : goal.returns-in-Some
returns-in-Some c = cleared c.self.inside.round c.in-Some.next c.self.inside.marks.items c.in-Some.ensures.1 c.self.invariant
