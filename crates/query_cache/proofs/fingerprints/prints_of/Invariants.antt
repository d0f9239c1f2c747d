use Rattle.std.proofs.Common.{◌≡◌, map, take}
use Rattle.term_trees.specs.Trees.{tree_of}
use Rattle.query_cache.specs.Fingerprints.{tree_print}
use Rattle.query_cache.proofs.fingerprints.prints_of.Given as goal

abbrev pub invariant-loop-id : goal.invariant-loop-id
invariant-loop-id l = l.prints.items ≡ map tree_print (map (tree_of l.query.graph) (take l.id-index l.query.asserted))
