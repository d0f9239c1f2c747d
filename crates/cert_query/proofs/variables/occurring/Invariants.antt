use Rattle.std.proofs.Common.{◌≡◌, ℕ, ◌+◌, length, take}
use Rattle.cnf_form.specs.Variables.{greatest_variable, occurs}
use Rattle.cert_query.specs.Variables.{is_noted}
use Rattle.cert_query.proofs.variables.occurring.Given as goal

abbrev pub invariant-loop-place : goal.invariant-loop-place
invariant-loop-place l = record {
  size : length l.seen.items ≡ greatest_variable l.formula + 1;
  noted : (v : ℕ) → is_noted l.seen.items v ≡ occurs (take l.place l.formula) v;
}
