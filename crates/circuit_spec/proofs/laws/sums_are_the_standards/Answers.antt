use Rattle.circuit_spec.proofs.SumMeaning.{add_means, sub_means, neg_means}
use Rattle.circuit_spec.proofs.ComparisonMeaning.{ult_means}
use Rattle.circuit_spec.proofs.laws.sums_are_the_standards.Goals as goal

pub returns-clause-add : goal.returns-clause-add
returns-clause-add c = add_means

pub returns-clause-sub : goal.returns-clause-sub
returns-clause-sub c = sub_means

pub returns-clause-neg : goal.returns-clause-neg
returns-clause-neg c = neg_means

pub returns-clause-ult : goal.returns-clause-ult
returns-clause-ult c = ult_means
