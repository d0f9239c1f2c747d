use Rattle.cnf_form.proofs.Soundness.{what_follows}
use Rattle.cnf_form.proofs.laws.what_follows_is_satisfied.Goals as goal

pub returns : goal.returns
returns c = what_follows
