-- The tests that their texts tell from all others, and those whose texts are read back.
use Rattle.std.specs.Prelude.{◌≡◌, ◌<◌, ◌≤◌, ◌^◌, IsTrue, length, Option, None, Some}
use Rattle.std.specs.List.{All}
use Rattle.hex.specs.Hex.{IsBytes}
use Rattle.elf_load.specs.declared.region.Region.{Region}
use Rattle.rv_decode.specs.declared.ends.End.{End}
use Rattle.rv_decode.specs.declared.ends.End.TheVariants.{Exit, Trapped}
use Rattle.rv_decode.specs.declared.ends.PathStep.{PathStep}
use Rattle.rv_decode.specs.declared.ends.PathStep.TheVariants.{Taken, NotTaken, Target}
use Rattle.test_files.specs.Inputs.{bytes_in, has_inputs}
use Rattle.test_files.specs.Reading.{most_bytes}
use Rattle.test_files.specs.Tests.{Test, test_text}

-- a status is below 256
abbrev pub HasStatus : Option End → Type 0
HasStatus (Some (Exit status)) = status < 256
HasStatus (Some (Trapped trap)) = Unit {0}
HasStatus None = Unit {0}

-- a target is an address
abbrev pub HasTarget : PathStep → Type 0
HasTarget (Target target) = target < 2 ^ 32
HasTarget Taken = Unit {0}
HasTarget NotTaken = Unit {0}

-- The tests that their texts tell from all others: numbers of 64 bits, addresses of 32, bytes, and an input that has one for each
-- place of the regions.
pub record IsLegible (test : Test) : Type 0 where
  pub leaf_fits : test.leaf < 2 ^ 64
  pub steps_fit : test.steps < 2 ^ 64
  pub status : HasStatus test.end
  pub targets : All HasTarget test.path
  pub starts : All (λ (region : Region). region.start < 2 ^ 32) test.regions
  pub input_long : length test.input ≡ bytes_in test.regions
  pub input_bytes : IsBytes test.input
  pub output_bytes : IsBytes test.output

-- What holds of each test that a text is, of either format: it is legible, and its numbers are within the bounds of a reader.
pub record IsBounded (test : Test) : Type 0 where
  pub legible : IsLegible test
  pub leaf_within : test.leaf ≤ 2 ^ 53
  pub steps_there : 1 ≤ test.steps
  pub steps_within : test.steps ≤ 1000000

-- The tests that are read back whole: some region, none of them empty, of at most 1,024 bytes in all, and a text of no more bytes
-- than are read.
pub record IsWritable (test : Test) : Type 0 where
  pub bounded : IsBounded test
  pub inputs : IsTrue (has_inputs test.regions)
  pub text_within : length (test_text test) ≤ most_bytes
