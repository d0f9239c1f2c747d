use Rattle.elf_load.proofs.Meanings.{shares}
use Rattle.elf_load.proofs.laws.areas_share_an_address.Goals as goal

pub returns : goal.returns
returns c = shares
