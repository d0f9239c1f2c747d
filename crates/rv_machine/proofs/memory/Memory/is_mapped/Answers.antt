use Rattle.std.proofs.Common.{◌∙◌}
use Rattle.rv_machine.proofs.Looking.{looked, mapped_is, copied_some}
use Rattle.rv_machine.proofs.memory.Memory.is_mapped.Goals as goal

pub returns-clause-value : goal.returns-clause-value
returns-clause-value c =
    c.is_some.ensures ∙ copied_some c.page.result
    ∙ mapped_is c.args.self.now c.args.address _ (looked c.args.self.now c.self.inside.pages.items _ _ c.self.view_is (rw c.deref.ensures.value at c.page.ensures))
