use Rattle.text_parts.proofs.Made.{made_text}
use Rattle.report_text.proofs.EventTexts.{plain_text}
use Rattle.report_text.proofs.event_lines.plain_line.Goals as goal

pub returns : goal.returns
returns c =
    made_text c.format.result _ _ c.format.ensures.ok (plain_text c.args.deed.now _ _ c.args.by c.args.node c.format-by.ensures.text c.format-node.ensures.text)
