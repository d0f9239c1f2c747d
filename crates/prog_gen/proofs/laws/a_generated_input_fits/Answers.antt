use Rattle.prog_gen.proofs.Programs.{input_fits}
use Rattle.prog_gen.proofs.laws.a_generated_input_fits.Goals as goal

pub returns : goal.returns
returns c = input_fits
