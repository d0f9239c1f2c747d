use Rattle.text_parts.proofs.Made.{made_text}
use Rattle.report_text.proofs.EventTexts.{text_of_cut}
use Rattle.report_text.proofs.event_lines.cut_line.Goals as goal

pub returns : goal.returns
returns c =
    made_text c.format.result _ _ c.format.ensures.ok
    (text_of_cut _ _ _ c.args.by c.args.node c.args.cut c.format-by.ensures.text c.format-node.ensures.text c.cut_name-name.ensures)
