use Rattle.std.proofs.Common.{◌≤◌, take}
use Rattle.std.specs.Prelude.{Contains}
use Rattle.run_leaves.specs.Values.{IsWithout}
use Rattle.cert_audit.specs.Asking.{IsLast}
use Rattle.cert_audit.proofs.pin.without_values.Given as goal

abbrev pub invariant-loop-value : goal.invariant-loop-value
invariant-loop-value l = record {
  without : IsWithout l.run l.term (take l.value-index l.values) l.rest;
  asserted : 1 ≤ l.value-index → Contains l.rest.condition l.last;
  last : 1 ≤ l.value-index → IsLast l.rest.condition l.last;
}
