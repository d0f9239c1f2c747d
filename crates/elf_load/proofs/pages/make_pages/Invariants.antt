use Rattle.std.proofs.Common.{drop}
use Rattle.elf_load.specs.Pages.{HoldsAreas}
use Rattle.elf_load.proofs.pages.make_pages.Given as goal

abbrev pub invariant-loop-i : goal.invariant-loop-i
invariant-loop-i l = HoldsAreas l.bytes (drop l.i l.areas) l.pages
