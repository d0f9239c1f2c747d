use Rattle.std.proofs.Common.{take}
use Rattle.cert_audit.specs.Kids.{AreValueKids}
use Rattle.cert_audit.proofs.pin.value_todos.Given as goal

abbrev pub invariant-loop-value : goal.invariant-loop-value
invariant-loop-value l = AreValueKids l.run l.pin.term (take l.value-index l.values) l.kids.items
