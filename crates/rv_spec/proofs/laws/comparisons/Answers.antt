use Rattle.std.proofs.Common.{refl}
use Rattle.rv_spec.proofs.laws.comparisons.Goals as goal
use Rattle.rv_spec.specs.Arithmetic.{is_less_signed}

pub returns-clause-below : goal.returns-clause-below
returns-clause-below c = refl

pub returns-clause-equal : goal.returns-clause-equal
returns-clause-equal c = refl

pub returns-clause-signed : goal.returns-clause-signed
unfolding is_less_signed
returns-clause-signed c = refl

pub returns-clause-branches : goal.returns-clause-branches
unfolding is_less_signed
returns-clause-branches c = (refl, refl, refl)
