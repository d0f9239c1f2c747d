use Rattle.std.proofs.Common.{◌≡◌, ◌++◌, drop, map}
use Rattle.serde_json.specs.View.{view}
use Rattle.test_files.specs.TestData.{filled_data}
use Rattle.test_files.specs.Tests.{filled}
use Rattle.test_files.proofs.filled.filled_values.Given as goal

abbrev pub invariant-loop-region : goal.invariant-loop-region
invariant-loop-region l = map filled_data (filled l.regions l.input) ≡ map view l.values.items ++ map filled_data (filled (drop l.region-index l.regions) l.rest)
