use Rattle.fork_spec.proofs.Walking.{walk_goes_on}
use Rattle.fork_spec.proofs.laws.a_walk_goes_on_from_its_first_events.Goals as goal

pub returns : goal.returns
returns c = walk_goes_on
