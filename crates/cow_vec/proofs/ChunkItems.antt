-- The items of each chunk, where the first stands by itself.
use Rattle.std.proofs.Common.{◌≡◌, ℕ, zero, suc, ◌+◌, ◌-◌, ◌<◌, Option, Some, None, List, [], ◌∷◌, ◌++◌, length, get_or, take, set, ap, sym, refl, ◌∙◌, arith, Vec}
use Rattle.std.proofs.lemmas.List.{length-map, map-append, map-set, take_more, get_or-map, set-get_or, take-map}
use Rattle.std.proofs.Math.Seq.{take-nil}
use Rattle.std.specs.declared.sync.Arc.{Arc}
use Rattle.std.specs.declared.alloc.Global.{Global}
use Rattle.std.specs.Arc.{arc_value}
use Rattle.cow_vec.specs.Chunks.{IsLed, first_piece, pieces_of}

pub length-pieces_of : {T : Type 0} (chunks : List (Arc (Vec T Global) Global)) →
    length (pieces_of chunks) ≡ length chunks
length-pieces_of {T} chunks = length-map chunks (λ (c : Arc (Vec T Global) Global). (arc_value c).items)

-- the items of a chunk that is read
piece_read : {T : Type 0} (chunks : List (Arc (Vec T Global) Global)) (k : ℕ) (c : Arc (Vec T Global) Global) →
    k < length chunks → c ≡ get_or chunks k c →
    get_or (pieces_of chunks) k [] ≡ (arc_value c).items
piece_read {T} chunks k c h read =
    get_or-map (λ (b : Arc (Vec T Global) Global). (arc_value b).items) chunks k c [] h
    ∙ ap (λ (b : Arc (Vec T Global) Global). (arc_value b).items) (sym read)

-- a chunk is put in place of another
pieces_of-set : {T : Type 0} (chunks : List (Arc (Vec T Global) Global)) (k : ℕ) (c : Arc (Vec T Global) Global) →
    pieces_of (set chunks k c) ≡ set (pieces_of chunks) k (arc_value c).items
pieces_of-set {T} chunks k c = map-set (λ (b : Arc (Vec T Global) Global). (arc_value b).items) chunks k c

-- a chunk is shared
pub pieces_of_more : {T : Type 0} (done all : List (Arc (Vec T Global) Global)) (i : ℕ) (c copy : Arc (Vec T Global) Global) →
    pieces_of done ≡ take i (pieces_of all) → i < length all → arc_value copy ≡ arc_value c →
    c ≡ get_or all i c →
    pieces_of (done ++ copy ∷ []) ≡ take (i + 1) (pieces_of all)
pieces_of_more {T} done all i c copy kept h same read =
    map-append (λ (b : Arc (Vec T Global) Global). (arc_value b).items) done (copy ∷ [])
    ∙ ap (λ (ps : List (List T)). ps ++ (arc_value copy).items ∷ []) kept
    ∙ ap (λ (p : List T). take i (pieces_of all) ++ p ∷ []) (ap (λ (v : Vec T Global). v.items) same ∙ sym (piece_read all i c h read))
    ∙ sym (take_more (pieces_of all) i [] (omega (arith, h, length-pieces_of all)))

-- a chunk behind the first is in the table of the others
pub rest_within : {T : Type 0} (first : Option (Arc (Vec T Global) Global)) (rest : List (Arc (Vec T Global) Global)) (k : ℕ) →
    IsLed first rest → 0 < k → k < length (first_piece first ++ pieces_of rest) → k - 1 < length rest
rest_within None rest k led behind there = absurd (omega (arith, rw led at there))
rest_within (Some f) rest k led behind there = omega (arith, there, length-pieces_of rest, behind)

-- its items
pub rest_read : {T : Type 0} (first : Option (Arc (Vec T Global) Global)) (rest : List (Arc (Vec T Global) Global)) (k : ℕ) (c : Arc (Vec T Global) Global) →
    IsLed first rest → 0 < k → k < length (first_piece first ++ pieces_of rest) → c ≡ get_or rest (k - 1) c →
    get_or (first_piece first ++ pieces_of rest) k [] ≡ (arc_value c).items
rest_read None rest k c led behind there read = absurd (omega (arith, rw led at there))
rest_read (Some f) rest zero c led behind there read = absurd (omega (arith, behind))
rest_read (Some f) rest (suc k) c led behind there read =
    let before : suc k - 1 ≡ k = omega arith in
    piece_read rest k c (omega (arith, there, length-pieces_of rest)) (rw before at read)

-- it is written
rest_set : {T : Type 0} (first : Option (Arc (Vec T Global) Global)) (rest : List (Arc (Vec T Global) Global)) (k : ℕ) (c : Arc (Vec T Global) Global) →
    IsLed first rest → 0 < k → k < length (first_piece first ++ pieces_of rest) →
    first_piece first ++ pieces_of (set rest (k - 1) c) ≡ set (first_piece first ++ pieces_of rest) k (arc_value c).items
rest_set None rest k c led behind there = absurd (omega (arith, rw led at there))
rest_set (Some f) rest zero c led behind there = absurd (omega (arith, behind))
rest_set {T} (Some f) rest (suc k) c led behind there =
    let before : suc k - 1 ≡ k = omega arith in
    rw before (ap (λ (ps : List (List T)). (arc_value f).items ∷ ps) (pieces_of-set rest k c))

pub rest_written : {T : Type 0} (first : Option (Arc (Vec T Global) Global)) (rest : List (Arc (Vec T Global) Global)) (k : ℕ) (c new : Arc (Vec T Global) Global) (f : List T → List T) →
    IsLed first rest → 0 < k → k < length (first_piece first ++ pieces_of rest) → c ≡ get_or rest (k - 1) c →
    (arc_value new).items ≡ f (arc_value c).items →
    first_piece first ++ pieces_of (set rest (k - 1) new) ≡ set (first_piece first ++ pieces_of rest) k (f (get_or (first_piece first ++ pieces_of rest) k []))
rest_written {T} first rest k c new f led behind there read is =
    rest_set first rest k new led behind there
    ∙ ap (λ (p : List T). set (first_piece first ++ pieces_of rest) k p) (is ∙ ap f (sym (rest_read first rest k c led behind there read)))

pub rest_kept : {T : Type 0} (first : Option (Arc (Vec T Global) Global)) (rest : List (Arc (Vec T Global) Global)) (k : ℕ) (c new : Arc (Vec T Global) Global) →
    IsLed first rest → 0 < k → k < length (first_piece first ++ pieces_of rest) → c ≡ get_or rest (k - 1) c →
    (arc_value new).items ≡ (arc_value c).items →
    first_piece first ++ pieces_of (set rest (k - 1) new) ≡ first_piece first ++ pieces_of rest
rest_kept first rest k c new led behind there read is =
    rest_written first rest k c new (λ p. p) led behind there read is
    ∙ set-get_or (first_piece first ++ pieces_of rest) k []

-- the first chunks
pub first_taken : {T : Type 0} (first : Option (Arc (Vec T Global) Global)) (rest : List (Arc (Vec T Global) Global)) (n : ℕ) →
    IsLed first rest → 0 < n →
    first_piece first ++ pieces_of (take (n - 1) rest) ≡ take n (first_piece first ++ pieces_of rest)
first_taken None rest n led some = rw (led, take-nil (n - 1), take-nil n) refl
first_taken (Some f) rest zero led some = absurd (omega (arith, some))
first_taken {T} (Some f) rest (suc n) led some =
    let before : suc n - 1 ≡ n = omega arith in
    rw before (ap (λ (ps : List (List T)). (arc_value f).items ∷ ps) (sym (take-map (λ (b : Arc (Vec T Global) Global). (arc_value b).items) n rest)))
