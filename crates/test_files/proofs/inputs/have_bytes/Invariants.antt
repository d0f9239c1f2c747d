use Rattle.std.proofs.Common.{◌≡◌, ◌+◌, take, sum_by}
use Rattle.test_files.proofs.inputs.have_bytes.Given as goal

abbrev pub invariant-loop-region : goal.invariant-loop-region
invariant-loop-region l = l.left + sum_by (λ region. region.count) (take l.region-index l.regions) ≡ l.count
