use Rattle.prog_gen.proofs.Programs.{refused_by_nothing}
use Rattle.prog_gen.proofs.laws.a_generated_file_is_a_program.Goals as goal

pub returns : goal.returns
returns c = refused_by_nothing
