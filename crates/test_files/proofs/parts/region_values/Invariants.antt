use Rattle.std.proofs.Common.{◌≡◌, map, take}
use Rattle.serde_json.specs.Data.{string}
use Rattle.serde_json.specs.View.{view}
use Rattle.test_files.specs.Tests.{region_text}
use Rattle.test_files.proofs.parts.region_values.Given as goal

abbrev pub invariant-loop-region : goal.invariant-loop-region
invariant-loop-region l = map view l.values.items ≡ map (λ region. string (region_text region)) (take l.region-index l.regions)
