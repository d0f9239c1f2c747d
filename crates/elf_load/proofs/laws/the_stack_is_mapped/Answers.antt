use Rattle.elf_load.proofs.StackPages.{stack_mapped}
use Rattle.elf_load.proofs.laws.the_stack_is_mapped.Goals as goal

pub returns : goal.returns
returns c = stack_mapped
