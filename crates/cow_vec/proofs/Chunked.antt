-- Where an item stands in its chunk, and that what a write leaves is in chunks again.
use Rattle.std.proofs.Common.{◌≡◌, ◌≢◌, ℕ, zero, suc, ◌+◌, ◌-◌, ◌*◌, ◌/◌, ◌%◌, ◌<◌, ◌≤◌, min, inl, inr, List, [], ◌∷◌, ◌++◌, get_or, length, take, drop, set, refl, sym, ap, ◌∙◌, arith, length-append, get_or-set_same, get_or-set_other, Some}
use Rattle.std.specs.List.{slice_get}
use Rattle.std.proofs.lemmas.Bool.{cases_eq, cases_lt}
use Rattle.std.proofs.lemmas.List.{take_more, length-set, length-take-le, get_or-take, get_or_append_left, get_or_push, length_push}
use Rattle.std.proofs.lemmas.List.Concat.{get_or-flat_map}
use Rattle.std.proofs.lemmas.Option.{slice_get-get_or}
use Rattle.cow_vec.specs.Chunks.{joined_pieces, IsChunked}
use Rattle.cow_vec.specs.declared.chunk.TheConstants.{CHUNK}
use Rattle.cow_vec.proofs.Pieces.{joined_pieces_split, joined_pieces-push}

-- no items are in no chunks
pub IsChunked-none : {T : Type 0} → IsChunked {T = T} [] 0
IsChunked-none = record {
  enough = omega arith;
  needed = omega arith;
  held = λ k d h. absurd (omega (arith, h));
  at_most = λ k d h. absurd (omega (arith, h));
}

-- the pieces before one are full
pub length-joined_pieces-take : {T : Type 0} (pieces : List (List T)) (len k : ℕ) →
    IsChunked pieces len → k ≤ length pieces → CHUNK * k ≤ len →
    length (joined_pieces (take k pieces)) ≡ CHUNK * k
length-joined_pieces-take pieces len zero chunked h l = refl
length-joined_pieces-take pieces len (suc k) chunked h l =
    let next : suc k ≡ k + 1 = omega arith in
    rw (next, take_more pieces k [] (omega (arith, h)), joined_pieces-push (take k pieces) (get_or pieces k []), length-append (joined_pieces (take k pieces)) (get_or pieces k []))
    (omega (arith, chunked.held k [] (omega (arith, h)), chunked.at_most k [] (omega (arith, h)), length-joined_pieces-take pieces len k chunked (omega (arith, h)) (omega (arith, l))))

-- the chunk of an item is there
pub chunk_there : {T : Type 0} (pieces : List (List T)) (len i : ℕ) → IsChunked pieces len →
    i < len → i / CHUNK < length pieces
chunk_there pieces len i chunked h = omega (arith, chunked.enough)

-- and has the item
pub item_there : {T : Type 0} (pieces : List (List T)) (len i : ℕ) (d : List T) →
    IsChunked pieces len → i < len → i % CHUNK < length (get_or pieces (i / CHUNK) d)
item_there pieces len i d chunked h = omega (arith, chunked.held (i / CHUNK) d (chunk_there pieces len i chunked h))

-- so many items stand before the chunk of an item
pub length-joined_pieces-before : {T : Type 0} (pieces : List (List T)) (len i : ℕ) →
    IsChunked pieces len → i < len →
    length (joined_pieces (take (i / CHUNK) pieces)) ≡ CHUNK * (i / CHUNK)
length-joined_pieces-before pieces len i chunked h =
    length-joined_pieces-take pieces len (i / CHUNK) chunked (omega (arith, chunk_there pieces len i chunked h)) (omega arith)

-- the chunks have all items
pub items_covered : {T : Type 0} (pieces : List (List T)) (len : ℕ) → IsChunked pieces len →
    len ≤ length (joined_pieces pieces)
items_covered pieces len chunked =
    elim (cases_lt 0 len) [
      | inl some ↦
          let last : ℕ = (len - 1) / CHUNK in
          let there : last < length pieces = chunk_there pieces len (len - 1) chunked (omega (arith, some)) in
          rw (joined_pieces_split pieces last [] there, length-append (joined_pieces (take last pieces)) (get_or pieces last [] ++ joined_pieces (drop (last + 1) pieces)), length-append (get_or pieces last []) (joined_pieces (drop (last + 1) pieces)))
          (omega (arith, some, chunked.held last [] there, length-joined_pieces-before pieces len (len - 1) chunked (omega (arith, some))))
      | inr none ↦ omega (arith, none)
    ]

pub length-items : {T : Type 0} (pieces : List (List T)) (len : ℕ) → IsChunked pieces len →
    length (take len (joined_pieces pieces)) ≡ len
length-items pieces len chunked = length-take-le len (joined_pieces pieces) (items_covered pieces len chunked)

pub below_len : {T : Type 0} (pieces : List (List T)) (len i : ℕ) → IsChunked pieces len →
    i < length (take len (joined_pieces pieces)) → i < len
below_len pieces len i chunked h = omega (arith, h, length-items pieces len chunked)

-- an item stands in its chunk
pub get_or-items : {T : Type 0} (pieces : List (List T)) (len i : ℕ) (d : List T) (e : T) →
    IsChunked pieces len → i < len →
    get_or (take len (joined_pieces pieces)) i e ≡ get_or (get_or pieces (i / CHUNK) d) (i % CHUNK) e
get_or-items pieces len i d e chunked h =
    let place : i ≡ length (joined_pieces (take (i / CHUNK) pieces)) + i % CHUNK = omega (arith, length-joined_pieces-before pieces len i chunked h) in
    get_or-take len (joined_pieces pieces) i e h
    ∙ ap (λ k. get_or (joined_pieces pieces) k e) place
    ∙ get_or-flat_map (λ p. p) pieces (i / CHUNK) (i % CHUNK) d e (chunk_there pieces len i chunked h) (item_there pieces len i d chunked h)

pub slice_get-items : {T : Type 0} (pieces : List (List T)) (len i : ℕ) (d : List T) (x : T) →
    IsChunked pieces len → i < len → x ≡ get_or (get_or pieces (i / CHUNK) d) (i % CHUNK) x →
    Some x ≡ slice_get (take len (joined_pieces pieces)) i
slice_get-items pieces len i d x chunked h e =
    ap Some (e ∙ sym (get_or-items pieces len i d x chunked h))
    ∙ sym (slice_get-get_or (take len (joined_pieces pieces)) i x (omega (arith, length-items pieces len chunked)))

-- one chunk is replaced, and the others have what is needed of them
pub IsChunked-set : {T : Type 0} (pieces : List (List T)) (len more k : ℕ) (p : List T) →
    IsChunked pieces len → len ≤ more → more ≤ CHUNK * length pieces →
    min CHUNK (more - CHUNK * k) ≤ length p → length p ≤ CHUNK → ((j : ℕ) → j < length pieces → j ≢ k → min CHUNK (more - CHUNK * j) ≤ min CHUNK (len - CHUNK * j)) →
    IsChunked (set pieces k p) more
IsChunked-set pieces len more k p chunked grows enough held at_most others =
    let same : length (set pieces k p) ≡ length pieces = length-set pieces k p in
    let there : (j : ℕ) → j < length (set pieces k p) → j < length pieces = λ j h. omega (arith, h, same) in
    record {
      enough = omega (arith, same, enough);
      needed = omega (arith, same, chunked.needed, grows);
      held = λ j d h.
          elim (cases_eq j k) [
            | inl is ↦ rw (is, get_or-set_same pieces k p d (omega (arith, is, there j h))) held
            | inr other ↦ rw (get_or-set_other pieces k j p d other) (omega (arith, others j (there j h) other, chunked.held j d (there j h)))
          ];
      at_most = λ j d h.
          elim (cases_eq j k) [
            | inl is ↦ rw (is, get_or-set_same pieces k p d (omega (arith, is, there j h))) at_most
            | inr other ↦ rw (get_or-set_other pieces k j p d other) (chunked.at_most j d (there j h))
          ];
    }

-- one chunk more, where all others are full
pub IsChunked-push : {T : Type 0} (pieces : List (List T)) (len : ℕ) (x : T) →
    IsChunked pieces len → len % CHUNK ≡ 0 → IsChunked (pieces ++ (x ∷ []) ∷ []) (len + 1)
IsChunked-push pieces len x chunked even =
    let one : length (pieces ++ (x ∷ []) ∷ []) ≡ length pieces + 1 = length_push pieces (x ∷ []) in
    let all : length pieces ≡ len / CHUNK = omega (arith, chunked.enough, chunked.needed, even) in
    record {
      enough = omega (arith, one, chunked.enough);
      needed = omega (arith, one, all, even);
      held = λ k d h.
          elim (cases_lt k (length pieces)) [
            | inl before ↦
                rw (get_or_append_left pieces ((x ∷ []) ∷ []) d k before)
                (omega (arith, before, all, even, chunked.held k d before))
            | inr last ↦
                let is : length pieces ≡ k = omega (arith, h, one, last) in
                rw (get_or_push pieces (x ∷ []) d k is) (omega (arith, is, all, even))
          ];
      at_most = λ k d h.
          elim (cases_lt k (length pieces)) [
            | inl before ↦ rw (get_or_append_left pieces ((x ∷ []) ∷ []) d k before) (chunked.at_most k d before)
            | inr last ↦
                let is : length pieces ≡ k = omega (arith, h, one, last) in
                rw (get_or_push pieces (x ∷ []) d k is) (omega arith)
          ];
    }

-- the first chunks, of which none is left over
pub IsChunked-take : {T : Type 0} (pieces : List (List T)) (len fewer n : ℕ) →
    IsChunked pieces len → fewer ≤ len → fewer ≤ CHUNK * n → CHUNK * n < fewer + CHUNK →
    IsChunked (take n pieces) fewer
IsChunked-take pieces len fewer n chunked h enough needed =
    let within : n ≤ length pieces = omega (arith, chunked.enough, h, needed) in
    let so_many : length (take n pieces) ≡ n = length-take-le n pieces within in
    record {
      enough = omega (arith, so_many, enough);
      needed = omega (arith, so_many, needed);
      held = λ k d l.
          let below : k < n = omega (arith, l, so_many) in
          rw (get_or-take n pieces k d below) (omega (arith, chunked.held k d (omega (arith, below, within)), h));
      at_most = λ k d l.
          let below : k < n = omega (arith, l, so_many) in
          rw (get_or-take n pieces k d below) (chunked.at_most k d (omega (arith, below, within)));
    }
