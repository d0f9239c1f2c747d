use Rattle.std.proofs.Common.{refl}
use Rattle.rv_spec.proofs.laws.shifts.Goals as goal
use Rattle.rv_spec.specs.Arithmetic.{is_negative_word, shifted_left, shifted_right_signed}

pub returns-clause-by_none : goal.returns-clause-by_none
unfolding shifted_right_signed is_negative_word
returns-clause-by_none c = refl

pub returns-clause-by_most : goal.returns-clause-by_most
unfolding shifted_right_signed is_negative_word
returns-clause-by_most c = refl

pub returns-clause-by_five_bits : goal.returns-clause-by_five_bits
unfolding shifted_right_signed is_negative_word shifted_left
returns-clause-by_five_bits c = (refl, refl)

pub returns-clause-immediate : goal.returns-clause-immediate
unfolding shifted_right_signed is_negative_word
returns-clause-immediate c = refl
