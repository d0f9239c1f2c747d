use Rattle.cert_text.proofs.Listed.{SoFar}
use Rattle.cert_text.proofs.lists.take_all.Given as goal

abbrev pub invariant-loop : goal.invariant-loop
invariant-loop g l = SoFar g.X.Item.read l.closing l.fn.text l.counter l.items.items l.rest
