use Rattle.std.proofs.Common.{◌≡◌, map, take}
use Rattle.term_trees.specs.Trees.{trees}
use Rattle.query_cache.specs.Fingerprints.{tree_print}
use Rattle.query_cache.proofs.fingerprints.all_prints.Given as goal

abbrev pub invariant-loop-node : goal.invariant-loop-node
invariant-loop-node l = l.prints.items ≡ map tree_print (trees (take l.node-index l.dag.nodes))
