use Rattle.rv_machine.proofs.Going.{run_more}
use Rattle.rv_machine.proofs.laws.a_run_goes_on.Goals as goal

pub returns : goal.returns
returns c = run_more
