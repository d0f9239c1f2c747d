use Rattle.std.proofs.Common.{◌≡◌, filter, map, take}
use Rattle.bv_dag.specs.Graphs.{Graph}
use Rattle.query_slice.specs.Classes.{first_under, is_reached}
use Rattle.query_slice.proofs.slicing.reached.Given as goal

abbrev pub invariant-loop-id : goal.invariant-loop-id
invariant-loop-id l =
    (graph : Graph) → l.links.firsts.items ≡ map (first_under graph) l.links.places.items
    → l.kept.items ≡ filter (is_reached graph l.links.classes l.new) (take l.id-index l.asserted)
