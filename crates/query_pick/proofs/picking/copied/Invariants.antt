use Rattle.query_pick.proofs.Copying.{IsCopied}
use Rattle.query_pick.proofs.picking.copied.Given as goal

abbrev pub invariant-loop-id : goal.invariant-loop-id
invariant-loop-id g l = IsCopied (g.T.Table.graph l.terms) l.dag l.places l.id-index
