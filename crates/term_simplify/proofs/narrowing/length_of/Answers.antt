use Rattle.term_simplify.specs.Narrowing.{length_of}
use Rattle.term_simplify.proofs.narrowing.length_of.Goals as goal

pub returns-clause-is : goal.returns-clause-is
unfolding length_of
returns-clause-is c = c.max.ensures
