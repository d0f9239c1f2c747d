use Rattle.test_files.proofs.Bounded.{read_bounded}
use Rattle.test_files.proofs.laws.a_read_test_is_within_its_bounds.Goals as goal

pub returns : goal.returns
returns c = read_bounded
