use Rattle.std.proofs.Common.{◌/◌, length, take}
use Rattle.free_nodes.specs.Entries.{IsJoined}
use Rattle.free_nodes.specs.Listings.{candidates_of, HasLeaves}
use Rattle.free_nodes.proofs.entries.put_leaves.Given as goal

abbrev pub invariant-loop-i : goal.invariant-loop-i
invariant-loop-i l = record {
  joined : IsJoined l.entries (length l.fn.entries / 2) 0;
  leaves : HasLeaves (candidates_of (take l.i l.nodes)) (length l.fn.entries / 2) l.entries;
}
