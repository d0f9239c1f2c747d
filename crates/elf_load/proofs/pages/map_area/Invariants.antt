use Rattle.std.proofs.Common.{List}
use Rattle.std.specs.BTreeMap.{get}
use Rattle.std.specs.Ordering.{nat_cmp}
use Rattle.elf_load.specs.Pages.{HoldsAreas}
use Rattle.elf_load.specs.declared.header.ProgramHeader.{ProgramHeader}
use Rattle.elf_load.proofs.Mapping.{IsMapped}
use Rattle.elf_load.proofs.pages.map_area.Given as goal

abbrev pub invariant-loop-number : goal.invariant-loop-number
invariant-loop-number l = (areas : List ProgramHeader) → HoldsAreas l.bytes areas l.fn.pages → IsMapped l.bytes l.area areas l.number (get nat_cmp l.pages)
