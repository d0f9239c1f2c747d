use Rattle.cnf_form.proofs.Pieces.{none_yet, no_pieces}
use Rattle.cnf_form.proofs.clauses.Clauses.new.Goals as goal

pub invariant_of-result : goal.invariant_of-result
invariant_of-result c = rw (c.new.ensures.items, c.new-2.ensures.items) none_yet

pub returns : goal.returns
returns c = rw (c.new.ensures.items, c.new-2.ensures.items) no_pieces
