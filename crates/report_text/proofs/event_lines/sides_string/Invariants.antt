use Rattle.std.proofs.Common.{◌≡◌, map, string_bytes, take}
use Rattle.fork_tree.specs.Written.{side_born}
use Rattle.spent_text.specs.Sides.{sides_text}
use Rattle.report_text.specs.Entries.{cut_by_place}
use Rattle.report_text.proofs.event_lines.sides_string.Given as goal

abbrev pub invariant-loop-node : goal.invariant-loop-node
invariant-loop-node g l =
    string_bytes l.text ≡ sides_text (map (side_born (cut_by_place g.R.Placed.place)) (take l.node-index l.nodes))
