use Rattle.std.proofs.Common.{◌≡◌, ◌++◌, length, map}
use Rattle.bv_dag.specs.Queries.{AreBits}
use Rattle.cert_form.specs.declared.line.CertLine.TheVariants.{Assert}
use Rattle.cert_query.proofs.assertions.take_asserted.Given as goal

abbrev pub invariant-lines : goal.invariant-lines
invariant-lines l = record {
  passed : l.fn.lines ≡ map Assert l.asserted.items ++ l.rest;
  bits : AreBits l.dag l.asserted.items;
}

abbrev pub decreases-lines : goal.decreases-lines
decreases-lines l = length l.rest
