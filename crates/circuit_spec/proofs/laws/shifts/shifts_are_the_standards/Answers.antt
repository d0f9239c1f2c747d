use Rattle.circuit_spec.proofs.ShiftMeaning.{shl_means, lshr_means, ashr_means}
use Rattle.circuit_spec.proofs.laws.shifts.shifts_are_the_standards.Goals as goal

pub returns-clause-shl : goal.returns-clause-shl
returns-clause-shl c = shl_means

pub returns-clause-lshr : goal.returns-clause-lshr
returns-clause-lshr c = lshr_means

pub returns-clause-ashr : goal.returns-clause-ashr
returns-clause-ashr c = ashr_means
