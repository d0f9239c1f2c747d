use Rattle.std.proofs.Common.{refl}
use Rattle.rv_spec.proofs.laws.sums_wrap.Goals as goal
use Rattle.rv_spec.specs.Arithmetic.{difference32}

pub returns-clause-sum : goal.returns-clause-sum
returns-clause-sum c = refl

pub returns-clause-difference : goal.returns-clause-difference
unfolding difference32
returns-clause-difference c = refl
