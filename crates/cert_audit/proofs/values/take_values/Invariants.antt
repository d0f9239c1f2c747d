use Rattle.std.proofs.Common.{◌≡◌, ◌++◌, length, map}
use Rattle.fork_spec.specs.Walks.{value_side}
use Rattle.cert_audit.proofs.values.take_values.Given as goal

abbrev pub invariant-sides : goal.invariant-sides
invariant-sides l = l.sides ≡ map value_side l.values.items ++ l.rest

abbrev pub decreases-sides : goal.decreases-sides
decreases-sides l = length l.rest
