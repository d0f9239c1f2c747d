use Rattle.std.proofs.Common.{◌≡◌, ◌++◌, map, take}
use Rattle.fork_tree.specs.Candidates.{kid_candidate}
use Rattle.fork_tree.proofs.tree.list_kids.Given as goal

abbrev pub invariant-loop-kid : goal.invariant-loop-kid
invariant-loop-kid g l = record {
  listed : l.free.nodes ≡ l.fn.free.nodes ++ map (kid_candidate l.fn.depth) (take l.kid-index l.kids);
  capacity : l.free.capacity ≡ l.fn.free.capacity;
}
