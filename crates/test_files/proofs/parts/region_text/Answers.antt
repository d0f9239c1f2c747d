use Rattle.std.proofs.Common.{append_assoc}
use Rattle.text_parts.proofs.Made.{made_text}
use Rattle.test_files.proofs.parts.region_text.Goals as goal

pub returns : goal.returns
returns c =
    made_text c.format.result _ _ c.format.ensures.ok
    (simp (c.in_ok-start.ensures, c.to_be_bytes.ensures, c.format-count.ensures.text, append_assoc))
