use Rattle.std.proofs.Common.{reverse}
use Rattle.std.specs.List.Sorted.{IsStrictlyIncreasing}
use Rattle.query_pick.proofs.Searching.{IsSearched, least_of}
use Rattle.query_pick.proofs.finding.cone.Given as goal

abbrev pub invariant-loop-id : goal.invariant-loop-id
invariant-loop-id g l = IsStrictlyIncreasing l.pending.items × IsSearched (g.T.Table.graph l.terms) l.tops l.pending.items (reverse l.found.items)

abbrev pub decreases-loop-id : goal.decreases-loop-id
decreases-loop-id g l = least_of (g.T.Table.graph l.terms) (reverse l.found.items)
