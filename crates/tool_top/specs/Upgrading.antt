-- What is meant for an upgrade: the bytes of a test's file, and what is put and said for them.
use Rattle.std.specs.Prelude.{◌≡◌, ◌⊎◌, ℕ, List, [], ◌∷◌, Ok, Err}
use Rattle.test_files.specs.Reading.{reading}
use Rattle.test_files.specs.Upgrading.{upgraded}
use Rattle.test_files.specs.declared.refused.TestRefused.{TestRefused as WhyNoTest}
use Rattle.tool_io.specs.Told.{Put}
use Rattle.tool_top.specs.Lines.{test_refused, upgraded_line}
use Rattle.tool_top.specs.declared.verdict.Verdict.{Verdict}
use Rattle.tool_top.specs.declared.verdict.Verdict.TheVariants.{Done, TestRefused}

-- the test's text in format 2 is put as the file `out`, and that is said
pub record IsUpgraded (out text : List ℕ) (verdict : Verdict) (puts : List Put)
    (said : List ℕ) : Type 0 where
  pub new : List ℕ
  pub gives : upgraded (reading text) ≡ Ok new
  pub is : verdict ≡ Done
  pub file : puts ≡ (record { name = out; bytes = new }) ∷ []
  pub line : said ≡ upgraded_line

-- the text is no test, or one that format 2 has no text of, and why is said
pub record IsNoUpgrade (text : List ℕ) (verdict : Verdict) (puts : List Put)
    (said : List ℕ) : Type 0 where
  pub why : WhyNoTest
  pub refuses : upgraded (reading text) ≡ Err why
  pub is : verdict ≡ TestRefused
  pub no_files : puts ≡ []
  pub line : said ≡ test_refused why

-- what is put and said for the bytes of a test's file
abbrev pub TreatsUpgrade : (out text : List ℕ) → Verdict → List Put → List ℕ → Type 0
TreatsUpgrade out text verdict puts said =
    IsUpgraded out text verdict puts said ⊎ IsNoUpgrade text verdict puts said
