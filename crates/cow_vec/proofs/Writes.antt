-- What a write leaves in the list.
use Rattle.std.proofs.Common.{◌≡◌, ℕ, ◌+◌, ◌-◌, ◌*◌, ◌/◌, ◌%◌, ◌<◌, ◌≤◌, List, [], ◌∷◌, ◌++◌, get_or, length, take, drop, set, sym, ap, ◌∙◌, arith, length-append}
use Rattle.std.proofs.lemmas.List.{append-nil, append_assoc, drop_all, length-set, length-take-le, length_push, set-append_left, set-append_right, take_all, take-append-drop, take-append-le, take-take}
use Rattle.std.proofs.lemmas.List.Concat.{flat_map-append}
use Rattle.std.proofs.Math.Seq.{take-set-lt}
use Rattle.cow_vec.specs.Chunks.{joined_pieces, IsChunked}
use Rattle.cow_vec.specs.declared.chunk.TheConstants.{CHUNK}
use Rattle.cow_vec.proofs.Pieces.{joined_pieces_split, joined_pieces-set, joined_pieces-push, take_into}
use Rattle.cow_vec.proofs.Chunked.{IsChunked-set, IsChunked-take, chunk_there, items_covered, item_there, length-joined_pieces-before, length-joined_pieces-take}

-- an item is put in place of another
pub items-set : {T : Type 0} (pieces : List (List T)) (len i : ℕ) (d : List T) (x : T) →
    IsChunked pieces len → i < len →
    take len (joined_pieces (set pieces (i / CHUNK) (set (get_or pieces (i / CHUNK) d) (i % CHUNK) x))) ≡ set (take len (joined_pieces pieces)) i x
items-set pieces len i d x chunked h =
    let there : i / CHUNK < length pieces = chunk_there pieces len i chunked h in
    let before : List _ = joined_pieces (take (i / CHUNK) pieces) in
    let piece : List _ = get_or pieces (i / CHUNK) d in
    let behind : List _ = joined_pieces (drop (i / CHUNK + 1) pieces) in
    let start : length before ≡ CHUNK * (i / CHUNK) = length-joined_pieces-before pieces len i chunked h in
    let place : i - CHUNK * (i / CHUNK) ≡ i % CHUNK = omega arith in
    ap (take len) (
    joined_pieces-set pieces (i / CHUNK) (set piece (i % CHUNK) x) there
    ∙ ap (λ (q : List _). before ++ q) (sym (set-append_left piece behind (i % CHUNK) x (item_there pieces len i d chunked h)))
    ∙ ap (λ n. before ++ set (piece ++ behind) n x) (sym place)
    ∙ sym (set-append_right before (piece ++ behind) (CHUNK * (i / CHUNK)) i x start (omega arith))
    ∙ ap (λ (q : List _). set q i x) (sym (joined_pieces_split pieces (i / CHUNK) d there))
    )
    ∙ take-set-lt len (joined_pieces pieces) i x h

pub IsChunked-set_item : {T : Type 0} (pieces : List (List T)) (len i : ℕ) (d : List T) (x : T) →
    IsChunked pieces len → i < len →
    IsChunked (set pieces (i / CHUNK) (set (get_or pieces (i / CHUNK) d) (i % CHUNK) x)) len
IsChunked-set_item pieces len i d x chunked h =
    let there : i / CHUNK < length pieces = chunk_there pieces len i chunked h in
    let same : length (set (get_or pieces (i / CHUNK) d) (i % CHUNK) x) ≡ length (get_or pieces (i / CHUNK) d) = length-set (get_or pieces (i / CHUNK) d) (i % CHUNK) x in
    IsChunked-set pieces len len (i / CHUNK) (set (get_or pieces (i / CHUNK) d) (i % CHUNK) x) chunked (omega arith) chunked.enough
    (omega (arith, same, chunked.held (i / CHUNK) d there))
    (omega (arith, same, chunked.at_most (i / CHUNK) d there))
    (λ j l other. omega arith)

-- the last chunk, where it has room, stands behind all others
last_there : {T : Type 0} (pieces : List (List T)) (len : ℕ) → IsChunked pieces len →
    (len % CHUNK ≡ 0 → ⊥) → length pieces ≡ len / CHUNK + 1
last_there pieces len chunked room = omega (arith, chunked.enough, chunked.needed, room)

pub last_within : {T : Type 0} (pieces : List (List T)) (len : ℕ) → IsChunked pieces len →
    (len % CHUNK ≡ 0 → ⊥) → len / CHUNK < length pieces
last_within pieces len chunked room = omega (arith, last_there pieces len chunked room)

-- and has all items that the list has of it
pub last_held : {T : Type 0} (pieces : List (List T)) (len : ℕ) (d : List T) →
    IsChunked pieces len → (len % CHUNK ≡ 0 → ⊥) →
    len % CHUNK ≤ length (get_or pieces (len / CHUNK) d)
last_held pieces len d chunked room = omega (arith, chunked.held (len / CHUNK) d (last_within pieces len chunked room))

length-last : {T : Type 0} (pieces : List (List T)) (len : ℕ) (d : List T) (x : T) →
    IsChunked pieces len → (len % CHUNK ≡ 0 → ⊥) →
    length (take (len % CHUNK) (get_or pieces (len / CHUNK) d) ++ x ∷ []) ≡ len % CHUNK + 1
length-last pieces len d x chunked room =
    length_push (take (len % CHUNK) (get_or pieces (len / CHUNK) d)) x
    ∙ ap (λ n. n + 1) (length-take-le (len % CHUNK) (get_or pieces (len / CHUNK) d) (last_held pieces len d chunked room))

-- a value is put into the last chunk
pub items-push_to_last : {T : Type 0} (pieces : List (List T)) (len : ℕ) (d : List T) (x : T) →
    IsChunked pieces len → (len % CHUNK ≡ 0 → ⊥) →
    take (len + 1) (joined_pieces (set pieces (len / CHUNK) (take (len % CHUNK) (get_or pieces (len / CHUNK) d) ++ x ∷ []))) ≡ take len (joined_pieces pieces) ++ x ∷ []
items-push_to_last pieces len d x chunked room =
    let within : len / CHUNK < length pieces = last_within pieces len chunked room in
    let before : List _ = joined_pieces (take (len / CHUNK) pieces) in
    let piece : List _ = get_or pieces (len / CHUNK) d in
    let kept : List _ = take (len % CHUNK) piece in
    let none : drop (len / CHUNK + 1) pieces ≡ [] = drop_all (len / CHUNK + 1) pieces (omega (arith, last_there pieces len chunked room)) in
    let start : length before ≡ CHUNK * (len / CHUNK) = length-joined_pieces-take pieces len (len / CHUNK) chunked (omega (arith, within)) (omega arith) in
    let new : joined_pieces (set pieces (len / CHUNK) (kept ++ x ∷ [])) ≡ before ++ (kept ++ x ∷ []) =
    joined_pieces-set pieces (len / CHUNK) (kept ++ x ∷ []) within
    ∙ ap (λ (rest : List (List _)). before ++ ((kept ++ x ∷ []) ++ joined_pieces rest)) none
    ∙ ap (λ (q : List _). before ++ q) (append-nil (kept ++ x ∷ [])) in
    let old : joined_pieces pieces ≡ before ++ piece =
    joined_pieces_split pieces (len / CHUNK) d within
    ∙ ap (λ (rest : List (List _)). before ++ (piece ++ joined_pieces rest)) none
    ∙ ap (λ (q : List _). before ++ q) (append-nil piece) in
    ap (take (len + 1)) new
    ∙ take_all (len + 1) (before ++ (kept ++ x ∷ [])) (omega (arith, length-append before (kept ++ x ∷ []), start, length-last pieces len d x chunked room))
    ∙ sym (append_assoc before kept (x ∷ []))
    ∙ ap (λ (q : List _). q ++ x ∷ []) (sym (ap (take len) old ∙ take_into before piece len (len % CHUNK) (omega (arith, start))))

pub IsChunked-push_to_last : {T : Type 0} (pieces : List (List T)) (len : ℕ) (d : List T) (x : T) →
    IsChunked pieces len → (len % CHUNK ≡ 0 → ⊥) →
    IsChunked (set pieces (len / CHUNK) (take (len % CHUNK) (get_or pieces (len / CHUNK) d) ++ x ∷ [])) (len + 1)
IsChunked-push_to_last pieces len d x chunked room =
    let so_many : length pieces ≡ len / CHUNK + 1 = last_there pieces len chunked room in
    let new : length (take (len % CHUNK) (get_or pieces (len / CHUNK) d) ++ x ∷ []) ≡ len % CHUNK + 1 = length-last pieces len d x chunked room in
    IsChunked-set pieces len (len + 1) (len / CHUNK) (take (len % CHUNK) (get_or pieces (len / CHUNK) d) ++ x ∷ []) chunked (omega arith)
    (omega (arith, so_many))
    (omega (arith, new))
    (omega (arith, new))
    (λ j l other. omega (arith, l, other, so_many))

-- a value is put into a chunk of its own
pub items-push_chunk : {T : Type 0} (pieces : List (List T)) (len : ℕ) (x : T) →
    IsChunked pieces len → len % CHUNK ≡ 0 →
    take (len + 1) (joined_pieces (pieces ++ (x ∷ []) ∷ [])) ≡ take len (joined_pieces pieces) ++ x ∷ []
items-push_chunk pieces len x chunked even =
    let all : length pieces ≡ len / CHUNK = omega (arith, chunked.enough, chunked.needed, even) in
    let so_many : length (joined_pieces pieces) ≡ len =
    ap (λ (ps : List (List _)). length (joined_pieces ps)) (sym (take_all (length pieces) pieces (omega arith)))
    ∙ length-joined_pieces-take pieces len (length pieces) chunked (omega arith) (omega (arith, all))
    ∙ omega (arith, all, even) in
    ap (take (len + 1)) (joined_pieces-push pieces (x ∷ []))
    ∙ take_all (len + 1) (joined_pieces pieces ++ x ∷ []) (omega (arith, length_push (joined_pieces pieces) x, so_many))
    ∙ ap (λ (q : List _). q ++ x ∷ []) (sym (take_all len (joined_pieces pieces) (omega (arith, so_many))))

-- the first items stand in the first chunks
pub items-take : {T : Type 0} (pieces : List (List T)) (len fewer n : ℕ) → IsChunked pieces len →
    fewer ≤ len → fewer ≤ CHUNK * n → CHUNK * n < fewer + CHUNK →
    take fewer (joined_pieces (take n pieces)) ≡ take fewer (take len (joined_pieces pieces))
items-take pieces len fewer n chunked h enough needed =
    sym (take-append-le fewer (joined_pieces (take n pieces)) (joined_pieces (drop n pieces)) (items_covered (take n pieces) fewer (IsChunked-take pieces len fewer n chunked h enough needed)))
    ∙ ap (take fewer) (sym (flat_map-append (λ p. p) (take n pieces) (drop n pieces)) ∙ ap joined_pieces (take-append-drop n pieces))
    ∙ sym (take-take fewer len (joined_pieces pieces) h)
