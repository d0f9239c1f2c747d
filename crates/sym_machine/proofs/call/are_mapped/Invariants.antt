use Rattle.std.proofs.Common.{◌≡◌}
use Rattle.std.specs.List.{list_all}
use Rattle.cow_pages.specs.SymbolicMemory.{memory_flags}
use Rattle.rv_spec.specs.Machine.{addresses}
use Rattle.rv_spec.specs.Memory.{is_mapped}
use Rattle.sym_machine.proofs.call.are_mapped.Given as goal

abbrev pub invariant-loop-i : goal.invariant-loop-i
invariant-loop-i l = record {
  all : l.mapped ≡ list_all (is_mapped (memory_flags l.state.memory)) (addresses l.start l.i);
}
