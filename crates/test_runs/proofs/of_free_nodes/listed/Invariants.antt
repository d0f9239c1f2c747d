use Rattle.std.proofs.Common.{◌≡◌, length}
use Rattle.test_runs.proofs.of_free_nodes.listed.Given as goal

abbrev pub invariant-loop-depth : goal.invariant-loop-depth
invariant-loop-depth l = length l.nodes.nodes ≡ l.depth-index
