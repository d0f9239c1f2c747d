-- What is meant for a replay: the bytes of a program's file and of a test's, and what is said of them.
use Rattle.std.specs.Prelude.{◌≡◌, ◌⊎◌, ℕ, List, [], None, Some, Ok, Err}
use Rattle.elf_load.specs.Fits.{unfit}
use Rattle.elf_load.specs.Images.{Image, Loads}
use Rattle.elf_load.specs.declared.unfit.Unfit.{Unfit as WhyUnfit}
use Rattle.replay_core.specs.Differences.{difference_text}
use Rattle.replay_core.specs.Replays.{IsAsSaid, run_of}
use Rattle.test_files.specs.Reading.{reading}
use Rattle.test_files.specs.Tests.{Test}
use Rattle.test_files.specs.declared.refused.TestRefused.{TestRefused as WhyNoTest}
use Rattle.tool_io.specs.Told.{Put}
use Rattle.tool_top.specs.Lines.{same, test_refused, unfit_line}
use Rattle.tool_top.specs.declared.replaying.TheConstants.{MOST_TEST_BYTES}
use Rattle.tool_top.specs.declared.verdict.Verdict.{Verdict}
use Rattle.tool_top.specs.declared.verdict.Verdict.TheVariants.{Done, Differs, TestRefused, Unfit}

-- the most bytes of a test's file that are read: one more than a test may have
abbrev pub most_test_bytes : ℕ
most_test_bytes = MOST_TEST_BYTES

-- the bytes are those of a program, and of this test, whose regions fit it
pub record IsReplayable (bytes text : List ℕ) (image : Image) (test : Test) : Type 0 where
  pub loads : Loads bytes image
  pub reads : reading text ≡ Ok test
  pub fits : unfit image test.regions ≡ None

-- the run is as the test says, and that is said
pub record SaysSame (image : Image) (test : Test) (verdict : Verdict) (said : List ℕ) : Type 0 where
  pub as_said : IsAsSaid image test
  pub is : verdict ≡ Done
  pub line : said ≡ same

-- the run is not as the test says, and how it went is said
pub record IsOther (image : Image) (test : Test) (verdict : Verdict) (said : List ℕ) : Type 0 where
  pub other : ¬ IsAsSaid image test
  pub is : verdict ≡ Differs
  pub lines : said ≡ difference_text (run_of image test)

-- the test was run on the program
pub record IsReplayed (bytes text : List ℕ) (verdict : Verdict) (puts : List Put)
    (said : List ℕ) : Type 0 where
  pub image : Image
  pub test : Test
  pub replayable : IsReplayable bytes text image test
  pub no_files : puts ≡ []
  pub answer : SaysSame image test verdict said ⊎ IsOther image test verdict said

-- the text is no test, and why is said
pub record IsNoTest (bytes text : List ℕ) (verdict : Verdict) (puts : List Put)
    (said : List ℕ) : Type 0 where
  pub image : Image
  pub loads : Loads bytes image
  pub why : WhyNoTest
  pub refuses : reading text ≡ Err why
  pub is : verdict ≡ TestRefused
  pub no_files : puts ≡ []
  pub line : said ≡ test_refused why

-- there is a program, but the regions of this test don't fit it, and why is said
pub record IsTestMisfit (bytes text : List ℕ) (verdict : Verdict) (puts : List Put)
    (said : List ℕ) : Type 0 where
  pub image : Image
  pub test : Test
  pub loads : Loads bytes image
  pub reads : reading text ≡ Ok test
  pub why : WhyUnfit
  pub misfits : unfit image test.regions ≡ Some why
  pub is : verdict ≡ Unfit
  pub no_files : puts ≡ []
  pub line : said ≡ unfit_line why
