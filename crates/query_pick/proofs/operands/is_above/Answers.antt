use Rattle.query_pick.proofs.Pending.{all_below}
use Rattle.query_pick.proofs.operands.is_above.Goals as goal

pub returns-in-Some : goal.returns-in-Some
returns-in-Some c above = all_below c.args.places.now c.in-Some.last.now c.args.id c.requires c.in-Some.ensures.value above
