use Rattle.elf_load.proofs.OneImage.{one_image}
use Rattle.elf_load.proofs.laws.a_file_loads_to_one_image.Goals as goal

pub returns : goal.returns
returns c = one_image
