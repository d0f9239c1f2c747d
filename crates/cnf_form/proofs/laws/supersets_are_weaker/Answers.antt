use Rattle.cnf_form.proofs.Meaning.{subset_means}
use Rattle.cnf_form.proofs.laws.supersets_are_weaker.Goals as goal

pub returns : goal.returns
returns c = subset_means
