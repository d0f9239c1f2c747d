use Rattle.test_files.proofs.Bounded.{format_2_has_inputs}
use Rattle.test_files.proofs.laws.a_test_of_format_2_has_inputs.Goals as goal

pub returns : goal.returns
returns c = format_2_has_inputs
