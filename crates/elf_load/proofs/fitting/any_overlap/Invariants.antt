use Rattle.std.proofs.Common.{◌≡◌, drop}
use Rattle.elf_load.specs.Areas.{any_pair}
use Rattle.elf_load.specs.Fits.{share_byte}
use Rattle.elf_load.proofs.fitting.any_overlap.Given as goal

abbrev pub invariant-loop-i : goal.invariant-loop-i
invariant-loop-i l = any_pair share_byte (drop l.i l.regions) ≡ any_pair share_byte l.regions
