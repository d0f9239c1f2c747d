use Rattle.std.proofs.Common.{refl}
use Rattle.rv_spec.proofs.laws.quotients.Goals as goal
use Rattle.rv_spec.specs.Arithmetic.{is_negative_word, magnitude, quotient, quotient_signed, remainder, remainder_signed, with_sign}

pub returns-clause-by_zero : goal.returns-clause-by_zero
unfolding quotient_signed remainder_signed quotient remainder
returns-clause-by_zero c = (refl, refl, refl, refl)

pub returns-clause-overflow : goal.returns-clause-overflow
unfolding quotient_signed remainder_signed magnitude with_sign is_negative_word
returns-clause-overflow c = (refl, refl)

pub returns-clause-toward_zero : goal.returns-clause-toward_zero
unfolding quotient_signed magnitude with_sign is_negative_word
returns-clause-toward_zero c = (refl, refl)

pub returns-clause-remainders : goal.returns-clause-remainders
unfolding remainder_signed magnitude with_sign is_negative_word
returns-clause-remainders c = (refl, refl)
