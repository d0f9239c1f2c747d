use Rattle.std.proofs.Common.{◌≡◌, ◌<◌, ℕ, List, map, take}
use Rattle.bv_dag.specs.Graphs.{IsDag}
use Rattle.query_pick.specs.Cones.{IsCone}
use Rattle.query_slice.specs.Classes.{first_under}
use Rattle.query_slice.proofs.Walked.{IsWalked}
use Rattle.query_slice.proofs.linking.walked.Given as goal

abbrev pub invariant-loop-id : goal.invariant-loop-id
invariant-loop-id g l = (0 < l.id-index → IsDag (g.T.Table.graph l.terms)) × (l.firsts.items ≡ map (first_under (g.T.Table.graph l.terms)) (take l.id-index l.id-items))
    × ((tops : List ℕ) → IsCone (g.T.Table.graph l.terms) tops l.id-items → IsWalked (record { graph = g.T.Table.graph l.terms; asserted = tops }) l.classes (take l.id-index l.id-items))
