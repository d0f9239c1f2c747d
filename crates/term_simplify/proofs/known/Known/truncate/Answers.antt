use Rattle.term_simplify.proofs.Keeping.{kept_front}
use Rattle.term_simplify.proofs.known.Known.truncate.Goals as goal

pub invariant_of-self : goal.invariant_of-self
invariant_of-self c = rw (c.truncate.ensures, c.truncate-2.ensures) (kept_front c.self.inside.terms c.self.inside.ends c.args.len c.self.invariant)
