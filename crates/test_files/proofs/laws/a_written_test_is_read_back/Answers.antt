use Rattle.test_files.proofs.ReadBack.{test_back}
use Rattle.test_files.proofs.laws.a_written_test_is_read_back.Goals as goal

pub returns : goal.returns
returns c = test_back
