use Rattle.std.proofs.Common.{◌≡◌, get_or, map, take}
use Rattle.query_pick.proofs.comparing.numbers_at.Given as goal

abbrev pub invariant-loop-id : goal.invariant-loop-id
invariant-loop-id l = l.some.items ≡ map (λ id. get_or l.numbers id 0) (take l.id-index l.ids)
