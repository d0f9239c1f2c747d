-- Lists end to end: one of them taken out, replaced or added.
use Rattle.std.proofs.Common.{◌≡◌, ℕ, suc, ◌+◌, ◌<◌, List, [], ◌∷◌, ◌++◌, get_or, length, take, drop, set, sym, ap, ◌∙◌, arith}
use Rattle.std.proofs.lemmas.List.{append-nil, drop_more, set_split, take-append-drop}
use Rattle.std.proofs.lemmas.List.Concat.{flat_map-append}
use Rattle.std.proofs.Math.Seq.{take-append-add}
use Rattle.cow_vec.specs.Chunks.{joined_pieces}

-- the pieces before one, that one, and those behind it
pub joined_pieces_split : {T : Type 0} (pieces : List (List T)) (k : ℕ) (d : List T) →
    k < length pieces →
    joined_pieces pieces ≡ joined_pieces (take k pieces) ++ (get_or pieces k d ++ joined_pieces (drop (k + 1) pieces))
joined_pieces_split pieces k d h =
    ap joined_pieces (sym (take-append-drop k pieces))
    ∙ flat_map-append (λ p. p) (take k pieces) (drop k pieces)
    ∙ ap (λ (rest : List (List _)). joined_pieces (take k pieces) ++ joined_pieces rest) (drop_more pieces k d h)

-- the same after one is replaced
pub joined_pieces-set : {T : Type 0} (pieces : List (List T)) (k : ℕ) (p : List T) →
    k < length pieces →
    joined_pieces (set pieces k p) ≡ joined_pieces (take k pieces) ++ (p ++ joined_pieces (drop (k + 1) pieces))
joined_pieces-set pieces k p h =
    let next : suc k ≡ k + 1 = omega arith in
    ap joined_pieces (set_split pieces k p h)
    ∙ flat_map-append (λ q. q) (take k pieces) (p ∷ drop (suc k) pieces)
    ∙ ap (λ n. joined_pieces (take k pieces) ++ (p ++ joined_pieces (drop n pieces))) next

-- one more piece
pub joined_pieces-push : {T : Type 0} (pieces : List (List T)) (p : List T) →
    joined_pieces (pieces ++ p ∷ []) ≡ joined_pieces pieces ++ p
joined_pieces-push pieces p =
    flat_map-append (λ q. q) pieces (p ∷ []) ∙ ap (λ (q : List _). joined_pieces pieces ++ q) (append-nil p)

-- what is taken of two lists ends in the second
pub take_into : {T : Type 0} (xs ys : List T) (n j : ℕ) → length xs + j ≡ n →
    take n (xs ++ ys) ≡ xs ++ take j ys
take_into xs ys n j e = ap (λ k. take k (xs ++ ys)) (sym e) ∙ take-append-add xs ys j
