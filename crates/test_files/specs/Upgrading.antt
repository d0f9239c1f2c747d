-- The text of format 2 of a test of either format.
use Rattle.std.specs.Prelude.{ℕ, List, if◌then◌else◌, Result, Ok, Err}
use Rattle.test_files.specs.Inputs.{has_inputs}
use Rattle.test_files.specs.Tests.{Test, test_text}
use Rattle.test_files.specs.declared.refused.TestRefused.{TestRefused}
use Rattle.test_files.specs.declared.refused.TestRefused.TheVariants.{Length}

-- the text of format 2, which a test with no region, with an empty one or with more than 1,024 bytes doesn't have
abbrev pub text_of : Test → Result (List ℕ) TestRefused
text_of test = if has_inputs test.regions then Ok (test_text test) else Err Length

-- the text of format 2 of the test that was read, or the first reason why there is none
abbrev pub upgraded : Result Test TestRefused → Result (List ℕ) TestRefused
upgraded (Ok test) = text_of test
upgraded (Err why) = Err why
