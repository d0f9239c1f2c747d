use Rattle.std.proofs.Common.{refl}
use Rattle.tree_core.specs.Orders.{drawn}
use Rattle.free_nodes.proofs.searching.drawn.Goals as goal

pub returns : goal.returns
unfolding drawn
returns c = refl
