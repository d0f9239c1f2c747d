use Rattle.std.proofs.Common.{◌≡◌, ◌+◌, drop}
use Rattle.rv_spec.specs.Memory.{count_of}
use Rattle.sym_state.proofs.first.count_bytes.Given as goal

abbrev pub invariant-loop-region : goal.invariant-loop-region
invariant-loop-region l = l.count + count_of (drop l.region-index l.regions) ≡ count_of l.regions
