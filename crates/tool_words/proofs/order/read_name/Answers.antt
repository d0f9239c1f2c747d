use Rattle.std.proofs.Common.{rules}
use Rattle.tool_words.specs.Orders.{order_said}
use Rattle.tool_words.proofs.order.read_name.Goals as goal

pub returns-then-eq : goal.returns-then-eq
unfolding order_said
returns-then-eq c = search rules

pub returns-then-eq-2 : goal.returns-then-eq-2
unfolding order_said
returns-then-eq-2 c = search rules

pub returns-then-eq-3 : goal.returns-then-eq-3
unfolding order_said
returns-then-eq-3 c = search rules

pub returns-else-eq-3 : goal.returns-else-eq-3
unfolding order_said
returns-else-eq-3 c = search rules
