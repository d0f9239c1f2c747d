use Rattle.query_slice.proofs.Kept.{holds_less, none_holds}
use Rattle.query_slice.proofs.laws.a_slice_asks_less.Goals as goal

pub returns-clause-holds : goal.returns-clause-holds
returns-clause-holds c = λ q new s input cut. holds_less q new s cut input

pub returns-clause-none : goal.returns-clause-none
returns-clause-none c = λ q new s cut. none_holds q new s cut
