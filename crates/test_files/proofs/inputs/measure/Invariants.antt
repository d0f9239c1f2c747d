use Rattle.std.proofs.Common.{◌≡◌, take}
use Rattle.test_files.specs.Inputs.{regions_filled}
use Rattle.test_files.specs.Seen.{all_seen}
use Rattle.test_files.proofs.inputs.measure.Given as goal

abbrev pub invariant-loop-region : goal.invariant-loop-region
invariant-loop-region l = l.found.items ≡ regions_filled (all_seen (take l.region-index l.regions))
