use Rattle.std.specs.FinMap.{entries_sorted}
use Rattle.rv_machine.proofs.Finding.{in_order}
use Rattle.rv_machine.proofs.Looking.{map_again}
use Rattle.rv_machine.proofs.memory.Memory.of_image.Goals as goal

pub invariant_of-result : goal.invariant_of-result
invariant_of-result c = rw c.in_ok-pages_of.ensures (in_order _ (entries_sorted c.args.image.now.pages))

pub returns : goal.returns
returns c = rw c.in_ok-pages_of.ensures (map_again c.args.image.now.pages)
