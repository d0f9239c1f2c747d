use Rattle.std.proofs.Common.{◌≡◌}
use Rattle.cdcl_core.proofs.order.Order.pick.Given as goal

abbrev pub decreases-loop-place : goal.decreases-loop-place
decreases-loop-place l = l.self.activity

abbrev pub invariant-loop-place : goal.invariant-loop-place
invariant-loop-place l = l.self.literals.items ≡ l.fn.self.literals.items
