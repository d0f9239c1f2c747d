use Rattle.std.proofs.Common.{sym}
use Rattle.rv_machine.proofs.Finding.{find_present}
use Rattle.rv_machine.proofs.memory.page.Goals as goal

pub returns : goal.returns
returns c = sym (find_present c.args.pages.now c.args.number c.in_ok-found.found c.requires c.in_ok-found.ensures.found)
