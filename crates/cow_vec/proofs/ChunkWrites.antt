-- What a value more leaves in the list.
use Rattle.std.proofs.Common.{◌≡◌, ℕ, ◌+◌, ◌/◌, ◌%◌, List, [], ◌∷◌, ◌++◌, get_or, take, set}
use Rattle.cow_vec.specs.Chunks.{joined_pieces, IsChunked}
use Rattle.cow_vec.specs.declared.chunk.TheConstants.{CHUNK}
use Rattle.cow_vec.proofs.Chunked.{IsChunked-push}
use Rattle.cow_vec.proofs.Writes.{items-push_chunk, items-push_to_last, IsChunked-push_to_last}

-- one value more stands behind the others
pub record Pushes {T : Type 0} (pieces more : List (List T)) (len next : ℕ) (x : T) : Type 0 where
  pub chunked : IsChunked more next
  pub items : take next (joined_pieces more) ≡ take len (joined_pieces pieces) ++ x ∷ []

-- in a chunk of its own
pub pushes_chunk : {T : Type 0} (pieces more : List (List T)) (len next : ℕ) (x : T) →
    IsChunked pieces len → len % CHUNK ≡ 0 → next ≡ len + 1 → more ≡ pieces ++ (x ∷ []) ∷ [] →
    Pushes pieces more len next x
pushes_chunk pieces more len next x chunked even next_is is =
    record {
      chunked = rw (next_is, is) (IsChunked-push pieces len x chunked even);
      items = rw (next_is, is) (items-push_chunk pieces len x chunked even);
    }

-- in the last chunk
pub pushes_to_last : {T : Type 0} (pieces more : List (List T)) (len next : ℕ) (x : T) →
    IsChunked pieces len → (len % CHUNK ≡ 0 → ⊥) → next ≡ len + 1 →
    more ≡ set pieces (len / CHUNK) (take (len % CHUNK) (get_or pieces (len / CHUNK) []) ++ x ∷ []) →
    Pushes pieces more len next x
pushes_to_last pieces more len next x chunked room next_is is =
    record {
      chunked = rw (next_is, is) (IsChunked-push_to_last pieces len [] x chunked room);
      items = rw (next_is, is) (items-push_to_last pieces len [] x chunked room);
    }
