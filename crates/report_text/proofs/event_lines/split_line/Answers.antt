use Rattle.std.proofs.Common.{map}
use Rattle.fork_tree.specs.Written.{side_born}
use Rattle.report_text.specs.Entries.{cut_by_place}
use Rattle.text_parts.proofs.Made.{made_text}
use Rattle.report_text.proofs.EventTexts.{text_of_split}
use Rattle.report_text.proofs.event_lines.split_line.Goals as goal

pub returns : goal.returns
returns g c =
    made_text c.format.result _ _ c.format.ensures.ok
    (text_of_split _ _ _ _ c.args.by c.args.node c.args.first (map (side_born (cut_by_place g.R.Placed.place)) c.args.nodes.now)
    c.format-by.ensures.text c.format-node.ensures.text c.format-first.ensures.text c.in_ok-sides.ensures)
