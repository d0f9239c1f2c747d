use Rattle.circuit_spec.proofs.ComparisonMeaning.{ult_row_means, slt_row_means, equal_row_means}
use Rattle.circuit_spec.proofs.laws.choices.tests_are_the_standards.Goals as goal

pub returns-clause-ult : goal.returns-clause-ult
returns-clause-ult c = ult_row_means

pub returns-clause-slt : goal.returns-clause-slt
returns-clause-slt c = slt_row_means

pub returns-clause-equal : goal.returns-clause-equal
returns-clause-equal c = equal_row_means
