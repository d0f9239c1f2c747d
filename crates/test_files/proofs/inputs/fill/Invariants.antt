use Rattle.std.proofs.Common.{◌≡◌, ◌++◌, drop, map, option_map}
use Rattle.test_files.specs.Inputs.{all_filled}
use Rattle.test_files.specs.Seen.{all_seen, item_seen}
use Rattle.test_files.proofs.inputs.fill.Given as goal

abbrev pub invariant-loop-item : goal.invariant-loop-item
invariant-loop-item l = all_filled (map item_seen l.items) ≡ option_map (λ later. all_seen l.regions.items ++ later) (all_filled (map item_seen (drop l.item-index l.items)))
