use Rattle.cnf_form.proofs.Soundness.{log_keeps}
use Rattle.cnf_form.proofs.laws.logs_keep_valuations.Goals as goal

pub returns : goal.returns
returns c = log_keeps
