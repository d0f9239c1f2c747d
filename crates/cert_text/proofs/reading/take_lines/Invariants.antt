use Rattle.std.proofs.Common.{length}
use Rattle.cert_text.proofs.Walking.{HasRead}
use Rattle.cert_text.proofs.reading.take_lines.Given as goal

abbrev pub invariant-lines : goal.invariant-lines
invariant-lines l = HasRead l.fn.text l.lines.items l.rest

abbrev pub decreases-lines : goal.decreases-lines
decreases-lines l = length l.rest
