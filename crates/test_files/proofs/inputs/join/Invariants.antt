use Rattle.std.proofs.Common.{◌≡◌, take}
use Rattle.test_files.specs.Inputs.{input_filled}
use Rattle.test_files.specs.Seen.{all_seen}
use Rattle.test_files.proofs.inputs.join.Given as goal

abbrev pub invariant-loop-region : goal.invariant-loop-region
invariant-loop-region l = l.input.items ≡ input_filled (all_seen (take l.region-index l.regions))
