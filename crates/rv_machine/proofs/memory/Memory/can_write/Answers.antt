use Rattle.rv_machine.proofs.Looking.{looked, writes_none, writes_some}
use Rattle.rv_machine.proofs.memory.Memory.can_write.Goals as goal

pub returns-in_default-clause-value : goal.returns-in_default-clause-value
returns-in_default-clause-value c =
    writes_none c.args.self.now c.args.address (looked c.args.self.now c.self.inside.pages.items _ _ c.self.view_is (rw c.deref.ensures.value at c.in_default.ensures))

pub returns-clause-value : goal.returns-clause-value
returns-clause-value c =
    writes_some c.args.self.now c.args.address c.in-Some.page.now (looked c.args.self.now c.self.inside.pages.items _ _ c.self.view_is (rw c.deref.ensures.value at c.in-Some.ensures))
