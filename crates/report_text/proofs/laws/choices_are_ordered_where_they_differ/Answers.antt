use Rattle.report_text.proofs.Ranked.{ordered_where_they_differ}
use Rattle.report_text.proofs.laws.choices_are_ordered_where_they_differ.Goals as goal

pub returns-clause-first : goal.returns-clause-first
returns-clause-first c = ordered_where_they_differ
