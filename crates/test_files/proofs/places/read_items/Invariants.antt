use Rattle.std.proofs.Common.{◌≡◌, ◌++◌, drop, map, option_map}
use Rattle.serde_json.specs.View.{items_view}
use Rattle.test_files.specs.Reading.{items_in}
use Rattle.test_files.specs.Seen.{item_seen}
use Rattle.test_files.proofs.places.read_items.Given as goal

abbrev pub invariant-loop-value : goal.invariant-loop-value
invariant-loop-value l = items_in (items_view l.values) ≡ option_map (λ later. map item_seen l.items.items ++ later) (items_in (items_view (drop l.value-index l.values)))
