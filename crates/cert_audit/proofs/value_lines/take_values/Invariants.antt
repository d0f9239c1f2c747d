use Rattle.std.proofs.Common.{take}
use Rattle.cert_audit.specs.Valued.{AreValueLines}
use Rattle.cert_audit.proofs.value_lines.take_values.Given as goal

abbrev pub invariant-loop-value : goal.invariant-loop-value
invariant-loop-value l = AreValueLines l.valued (take l.value-index l.values) l.lines l.found.items l.rest
