use Rattle.test_files.proofs.OneTest.{test_by_text}
use Rattle.test_files.proofs.laws.a_text_is_that_of_one_test.Goals as goal

pub returns : goal.returns
returns c = test_by_text
