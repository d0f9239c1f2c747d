use Rattle.std.proofs.Common.{◌≡◌, ◌+◌, ◌-◌, not}
use Rattle.std.specs.List.{list_any, range_with_len}
use Rattle.elf_load.specs.Fits.{is_in_image}
use Rattle.elf_load.proofs.fitting.has_unmapped.Given as goal

abbrev pub invariant-loop-i : goal.invariant-loop-i
invariant-loop-i l = list_any (λ address. not (is_in_image l.image address)) (range_with_len (l.region.start + l.i) (l.region.count - l.i)) ≡ list_any (λ address. not (is_in_image l.image address)) (range_with_len l.region.start l.region.count)
