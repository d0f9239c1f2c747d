use Rattle.query_slice.proofs.Firsts.{first_left, first_right}
use Rattle.query_slice.proofs.linking.either.Goals as goal

pub returns-in-Some : goal.returns-in-Some
returns-in-Some c = λ one two e h. first_left one two c.args.first _ c.in-Some.is e

pub returns-in-None : goal.returns-in-None
returns-in-None c = λ one two e h. first_right one two c.args.first c.args.second c.in-None.is e h
