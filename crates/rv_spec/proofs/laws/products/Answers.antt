use Rattle.std.proofs.Common.{refl}
use Rattle.rv_spec.proofs.laws.products.Goals as goal
use Rattle.rv_spec.specs.Arithmetic.{is_negative_word, upper_half, wide_signed}

pub returns-clause-lower : goal.returns-clause-lower
returns-clause-lower c = refl

pub returns-clause-signed : goal.returns-clause-signed
unfolding upper_half wide_signed is_negative_word
returns-clause-signed c = (refl, refl)

pub returns-clause-mixed : goal.returns-clause-mixed
unfolding upper_half wide_signed is_negative_word
returns-clause-mixed c = refl

pub returns-clause-unsigned : goal.returns-clause-unsigned
unfolding upper_half
returns-clause-unsigned c = refl
