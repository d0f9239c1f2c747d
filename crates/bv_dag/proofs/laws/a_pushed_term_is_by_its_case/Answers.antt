use Rattle.bv_dag.proofs.TermLaws.{width_of-new, val-new}
use Rattle.bv_dag.proofs.laws.a_pushed_term_is_by_its_case.Goals as goal

pub returns-clause-width : goal.returns-clause-width
returns-clause-width c = width_of-new

pub returns-clause-value : goal.returns-clause-value
returns-clause-value c = val-new
