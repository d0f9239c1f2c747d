use Rattle.std.proofs.Common.{◌≡◌, ◌<◌, ◌+◌, ◌%◌, ℕ, false, replicate, slice_set}
use Rattle.bv_dag.specs.Queries.{holds}
use Rattle.query_pick.proofs.one_byte.try_byte.Given as goal

abbrev pub invariant-loop-steps : goal.invariant-loop-steps
invariant-loop-steps l = ((b : ℕ) → slice_set l.input.items l.place b ≡ slice_set (replicate l.query.graph.inputs 0) l.place b) × ((k : ℕ) → k < l.steps → holds l.query (slice_set (replicate l.query.graph.inputs 0) l.place ((l.first + k) % 256)) ≡ false)
