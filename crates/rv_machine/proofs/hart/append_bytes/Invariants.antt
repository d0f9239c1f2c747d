use Rattle.std.proofs.Common.{◌≡◌, ◌++◌, ◌≤◌, ◌+◌, ◌-◌, map, vec_len, vec_capacity}
use Rattle.rv_spec.specs.Machine.{addresses}
use Rattle.rv_machine.specs.Pages.{byte_on}
use Rattle.rv_machine.proofs.hart.append_bytes.Given as goal

abbrev pub invariant-loop-i : goal.invariant-loop-i
invariant-loop-i l = record {
  same : l.memory ≡ l.fn.memory;
  room : vec_len l.output + (l.count - l.i) ≤ vec_capacity l.output;
  bytes : l.output.items ≡ l.fn.output.items ++ map (byte_on l.fn.memory) (addresses l.start l.i);
}
