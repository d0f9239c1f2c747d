use Rattle.std.proofs.Common.{◌≡◌, ◌++◌, map, take}
use Rattle.cert_form.specs.declared.line.CertLine.TheVariants.{Assert}
use Rattle.cert_query.proofs.giving.push_asserted.Given as goal

abbrev pub invariant-loop-id : goal.invariant-loop-id
invariant-loop-id l = l.lines.items ≡ l.fn.lines.items ++ map Assert (take l.id-index l.asserted)
