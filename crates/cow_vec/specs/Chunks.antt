-- How a list is laid out in chunks.
use Rattle.std.specs.Prelude.{◌≡◌, ℕ, Option, None, Some, [], ◌∷◌, ◌+◌, ◌-◌, ◌*◌, ◌<◌, ◌≤◌, min, List, length, map, slice_index_or, Vec}
use Rattle.std.specs.List.{flat_map}
use Rattle.std.specs.declared.sync.Arc.{Arc}
use Rattle.std.specs.declared.alloc.Global.{Global}
use Rattle.std.specs.Arc.{arc_value}
use Rattle.cow_vec.specs.declared.chunk.TheConstants.{CHUNK}

-- the items of each chunk
abbrev pub pieces_of : {T : Type 0} → List (Arc (Vec T Global) Global) → List (List T)
pieces_of {T} chunks = map (λ (c : Arc (Vec T Global) Global). (arc_value c).items) chunks

-- those of the first chunk, if there is one
abbrev pub first_piece : {T : Type 0} → Option (Arc (Vec T Global) Global) → List (List T)
first_piece None = []
first_piece (Some chunk) = (arc_value chunk).items ∷ []

-- where there is no first chunk there is no other
abbrev pub IsLed : {T : Type 0} → Option (Arc (Vec T Global) Global)
    → List (Arc (Vec T Global) Global) → Type 0
IsLed None rest = rest ≡ []
IsLed (Some chunk) rest = Unit {0}

-- the pieces, one after another
abbrev pub joined_pieces : {T : Type 0} → List (List T) → List T
joined_pieces pieces = flat_map (λ p. p) pieces

-- There are as many pieces as `len` items need. Each has what is needed of it, and no more than
-- a whole chunk. So those before the last are whole, and the last may have items past `len`.
pub record IsChunked {T : Type 0} (pieces : List (List T)) (len : ℕ) : Type 0 where
  pub enough : len ≤ CHUNK * length pieces
  pub needed : CHUNK * length pieces < len + CHUNK
  pub held : (k : ℕ) (d : List T) → k < length pieces →
      min CHUNK (len - CHUNK * k) ≤ length (slice_index_or pieces k d)
  pub at_most : (k : ℕ) (d : List T) → k < length pieces →
      length (slice_index_or pieces k d) ≤ CHUNK
