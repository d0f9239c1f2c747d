use Rattle.circuit_spec.proofs.PlaceByPlace.{and_row_means, or_row_means, xor_row_means, ite_means}
use Rattle.circuit_spec.proofs.laws.choices.places_are_the_standards.Goals as goal

pub returns-clause-and : goal.returns-clause-and
returns-clause-and c = and_row_means

pub returns-clause-or : goal.returns-clause-or
returns-clause-or c = or_row_means

pub returns-clause-xor : goal.returns-clause-xor
returns-clause-xor c = xor_row_means

pub returns-clause-ite : goal.returns-clause-ite
returns-clause-ite c = ite_means
