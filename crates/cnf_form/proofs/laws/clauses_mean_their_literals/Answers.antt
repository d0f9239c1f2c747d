use Rattle.cnf_form.proofs.Meaning.{clause_means, tautology_means}
use Rattle.cnf_form.proofs.laws.clauses_mean_their_literals.Goals as goal

pub returns-clause-clause : goal.returns-clause-clause
returns-clause-clause c = clause_means

pub returns-clause-none : goal.returns-clause-none
returns-clause-none c = tautology_means
