use Rattle.std.proofs.Common.{◌-◌}
use Rattle.cdcl_core.proofs.order.negations.Given as goal

abbrev pub decreases-loop-variable : goal.decreases-loop-variable
decreases-loop-variable l = l.last - l.variable
