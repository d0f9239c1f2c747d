use Rattle.circuit_spec.proofs.ProductValues.{mul_means}
use Rattle.circuit_spec.proofs.QuotientValues.{udiv_means, urem_means}
use Rattle.circuit_spec.proofs.laws.products.products_are_the_standards.Goals as goal

pub returns-clause-mul : goal.returns-clause-mul
returns-clause-mul c = mul_means

pub returns-clause-udiv : goal.returns-clause-udiv
returns-clause-udiv c = udiv_means

pub returns-clause-urem : goal.returns-clause-urem
returns-clause-urem c = urem_means
