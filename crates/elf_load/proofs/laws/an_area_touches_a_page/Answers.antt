use Rattle.elf_load.proofs.Meanings.{touches_at}
use Rattle.elf_load.proofs.laws.an_area_touches_a_page.Goals as goal

pub returns : goal.returns
returns c = touches_at
