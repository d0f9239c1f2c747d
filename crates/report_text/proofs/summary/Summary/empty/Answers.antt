use Rattle.report_text.proofs.Counting.{count_none}
use Rattle.report_text.proofs.summary.Summary.empty.Goals as goal

pub returns : goal.returns
returns c = count_none
