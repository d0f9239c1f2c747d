use Rattle.rv_spec.specs.Runs.{run_from}
use Rattle.rv_machine.proofs.Going.{last_end, run_ended}
use Rattle.rv_machine.proofs.laws.an_ended_run_stays.Goals as goal

pub returns : goal.returns
returns c = λ s made more ended. let last = last_end (run_from s made).end ended in run_ended s made more last.0 last.1
