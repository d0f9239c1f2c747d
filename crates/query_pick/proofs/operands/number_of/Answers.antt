use Rattle.query_pick.proofs.Lists.{number_found, number_missing}
use Rattle.query_pick.proofs.operands.number_of.Goals as goal

pub unreachable-requires : goal.unreachable-requires
unreachable-requires c = number_missing c.args.places.now c.args.id c.in-Err.field-0 c.requires.increasing c.requires.there c.in-Err.ensures.position

pub returns : goal.returns
returns c = number_found c.args.places.now c.args.id c.in-Ok.number c.requires.increasing c.in-Ok.ensures.position
