use Rattle.std.proofs.Common.{All}
use Rattle.cert_audit.specs.Todos.{IsTodo}
use Rattle.cert_complete.specs.Puts.{IsPut}
use Rattle.cert_complete.proofs.completing.walk_on.Given as goal

-- what is ahead is of the program's tree, and what was put is right
abbrev pub invariant-loop : goal.invariant-loop
invariant-loop g l = record {
  each : All (IsTodo l.program l.budgets) l.stack.items;
  right : All (IsPut l.program l.budgets) l.puts.items;
}
