use Rattle.std.proofs.Common.{◌≡◌, ◌++◌, drop, option_map}
use Rattle.serde_json.specs.View.{items_view}
use Rattle.test_files.specs.Reading.{regions_of}
use Rattle.test_files.proofs.places.read_regions.Given as goal

abbrev pub invariant-loop-value : goal.invariant-loop-value
invariant-loop-value l = regions_of (items_view l.values) ≡ option_map (λ later. l.regions.items ++ later) (regions_of (items_view (drop l.value-index l.values)))
