use Rattle.circuit_spec.proofs.SliceMeaning.{number_means, not_means, extract_means, zero_extend_means, sign_extend_means, concat_means}
use Rattle.circuit_spec.proofs.laws.slices.slices_are_the_standards.Goals as goal

pub returns-clause-number : goal.returns-clause-number
returns-clause-number c = number_means

pub returns-clause-not : goal.returns-clause-not
returns-clause-not c = not_means

pub returns-clause-extract : goal.returns-clause-extract
returns-clause-extract c = extract_means

pub returns-clause-zero_extend : goal.returns-clause-zero_extend
returns-clause-zero_extend c = zero_extend_means

pub returns-clause-sign_extend : goal.returns-clause-sign_extend
returns-clause-sign_extend c = sign_extend_means

pub returns-clause-concat : goal.returns-clause-concat
returns-clause-concat c = concat_means
