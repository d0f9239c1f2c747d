use Rattle.std.proofs.Common.{◌≡◌, false}
use Rattle.std.specs.Prelude.{All}
use Rattle.bv_dag.specs.Queries.{holds}
use Rattle.model_pool.proofs.scanning.scan.Given as goal

-- none of the samples so far meets the condition
abbrev pub invariant-loop-sample : goal.invariant-loop-sample
invariant-loop-sample g l = All (λ sample. holds l.query sample.now ≡ false) l.yielded
