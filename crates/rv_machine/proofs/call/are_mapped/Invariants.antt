use Rattle.std.proofs.Common.{◌≡◌}
use Rattle.std.specs.List.{list_all}
use Rattle.rv_spec.specs.Machine.{addresses}
use Rattle.rv_spec.specs.Memory.{is_mapped}
use Rattle.rv_machine.specs.Pages.{flags_on}
use Rattle.rv_machine.proofs.call.are_mapped.Given as goal

abbrev pub invariant-loop-i : goal.invariant-loop-i
invariant-loop-i l = record {
  same : l.hart ≡ l.fn.hart;
  all : l.mapped ≡ list_all (is_mapped (flags_on l.fn.hart.pages)) (addresses l.start l.i);
}
