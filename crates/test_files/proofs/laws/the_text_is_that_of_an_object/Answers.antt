use Rattle.test_files.proofs.TestTexts.{text_of_test}
use Rattle.test_files.proofs.laws.the_text_is_that_of_an_object.Goals as goal

pub returns : goal.returns
returns c = text_of_test
