use Rattle.std.proofs.Common.{length, map, ◌+◌, ◌-◌}
use Rattle.cdcl_core.specs.Places.{AreKept}
use Rattle.cdcl_core.proofs.clause_list.Places.reach.Given as goal

abbrev pub invariant-loop-alloc : goal.invariant-loop-alloc
invariant-loop-alloc l = AreKept (map (λ v. v.items) l.initial.self-inside.lists.items) (map (λ v. v.items) l.self-inside.lists.items)

abbrev pub decreases-loop-alloc : goal.decreases-loop-alloc
decreases-loop-alloc l = l.index + 1 - length l.self-inside.lists.items
