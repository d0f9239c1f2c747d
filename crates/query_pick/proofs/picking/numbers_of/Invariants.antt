use Rattle.std.proofs.Common.{◌≡◌, ◌<◌, All, length, map, take}
use Rattle.query_pick.proofs.Copying.{place_of}
use Rattle.query_pick.proofs.picking.numbers_of.Given as goal

abbrev pub invariant-loop-id : goal.invariant-loop-id
invariant-loop-id l = (map (place_of l.places) l.numbers.items ≡ take l.id-index l.some) × All (λ k. k < length l.places) l.numbers.items
