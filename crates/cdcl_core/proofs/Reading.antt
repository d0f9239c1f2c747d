-- An element that was got by its place.
use Rattle.std.proofs.Common.{◌≡◌, ℕ, ◌<◌, List, length, get_or, Some, slice_get, sym}
use Rattle.std.proofs.lemmas.Option.{slice_get_within, get_or_from_slice_get}

pub got_at : {X : Type 0} (xs : List X) (k : ℕ) (x : X) → slice_get xs k ≡ Some x → (k < length xs) × (x ≡ get_or xs k x)
got_at xs k x at = (slice_get_within xs k x at, sym (get_or_from_slice_get xs k x x at))
