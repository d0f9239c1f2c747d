use Rattle.report_text.proofs.Claimed.{are_a_report}
use Rattle.report_text.proofs.laws.the_entries_of_a_tree_are_a_report.Goals as goal

pub returns : goal.returns
returns g c = λ worker image regions budgets workers s entries asks drained are rooted all once.
    are_a_report g.W.Leaf.HasPart.part (g.W.Work.rules worker) g.W.State.Placed.place g.W.Leaf.Placed.place image regions budgets asks s drained entries are rooted workers all once
