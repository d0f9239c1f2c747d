use Rattle.sym_state.proofs.Deciding.{same_terms}
use Rattle.sym_state.proofs.laws.terms_follow_from_decisions.Goals as goal

pub returns : goal.returns
returns c = same_terms
