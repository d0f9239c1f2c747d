use Rattle.report_text.proofs.EventsBack.{events_told}
use Rattle.report_text.proofs.laws.a_text_is_that_of_one_history.Goals as goal

pub returns : goal.returns
returns c = events_told
