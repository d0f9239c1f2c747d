use Rattle.std.proofs.Common.{◌≡◌, take}
use Rattle.cdcl_core.proofs.clause_list.clause_list.Given as goal

abbrev pub invariant-loop-place : goal.invariant-loop-place
invariant-loop-place l = l.list ≡ take l.place l.formula
