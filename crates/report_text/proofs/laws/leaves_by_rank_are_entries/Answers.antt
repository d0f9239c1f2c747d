use Rattle.report_text.proofs.Entering.{are_entries}
use Rattle.report_text.proofs.laws.leaves_by_rank_are_entries.Goals as goal

pub returns : goal.returns
returns g c = λ regions s leaves by_rank reports. are_entries g.W.Leaf.HasPart.part regions s leaves by_rank reports
