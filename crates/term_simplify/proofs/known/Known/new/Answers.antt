use Rattle.term_simplify.proofs.Keeping.{kept_none}
use Rattle.term_simplify.proofs.known.Known.new.Goals as goal

pub invariant_of-result : goal.invariant_of-result
invariant_of-result c = rw (c.new.ensures, c.new-2.ensures) (kept_none c.args.inputs)
