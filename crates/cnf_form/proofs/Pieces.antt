-- What the pieces of a list are, and what one more does.
use Rattle.std.proofs.Common.{◌≡◌, ℕ, zero, suc, ◌+◌, ◌-◌, ◌<◌, ◌≤◌, Bool, true, ◌&&◌, ◌++◌, List, [], ◌∷◌, Some, length, get_or, take, drop, slice_get, slice_range, refl, ap, sym, ◌∙◌, subst, arith, length-append, add-one}
use Rattle.std.specs.List.{list_all}
use Rattle.std.proofs.lemmas.List.{take-append-le, take-append-drop, length-take-le, drop-append-le, drop_at, take_all, take_more, get_or_default}
use Rattle.std.proofs.lemmas.Option.{slice_get_within, get_or_from_slice_get}
use Rattle.std.proofs.lemmas.List.Folds.{list_all-append}
use Rattle.std.proofs.lemmas.Bool.{and_parts, and_from}
use Rattle.cnf_form.specs.Literals.{Literal}
use Rattle.cnf_form.specs.Clauses.{are_increasing}
use Rattle.cnf_form.specs.Pieces.{pieces, AreEnds, clauses_in, AreClauses}

pub piece_count : (start : ℕ) (ends : List ℕ) (ls : List Literal) → length (pieces start ends ls) ≡ length ends
unfolding pieces
piece_count start [] ls = refl
piece_count start (e ∷ es) ls = ap suc (piece_count e es ls)

pub ends_within : (start : ℕ) (ends : List ℕ) (n : ℕ) → AreEnds start ends n → start ≤ n
unfolding AreEnds
ends_within start [] n h = omega (arith, h)
ends_within start (e ∷ es) n h = omega (arith, h.0, ends_within e es n h.1)

-- the piece at a place
pub piece_at : (start : ℕ) (ends : List ℕ) (ls : List Literal) (k : ℕ) → k < length ends → slice_get (pieces start ends ls) k ≡ Some (slice_range ls (get_or (start ∷ ends) k 0) (get_or ends k 0))
unfolding pieces
piece_at start [] ls k within = absurd (omega (arith, within))
piece_at start (e ∷ es) ls zero within = refl
piece_at start (e ∷ es) ls (suc k) within = piece_at e es ls k (omega (arith, within))

pub piece_rises : (start : ℕ) (ends : List ℕ) (n k : ℕ) → AreEnds start ends n → k < length ends → get_or (start ∷ ends) k 0 ≤ get_or ends k 0
unfolding AreEnds
piece_rises start [] n k h within = absurd (omega (arith, within))
piece_rises start (e ∷ es) n zero h within = h.0
piece_rises start (e ∷ es) n (suc k) h within = piece_rises e es n k h.1 (omega (arith, within))

pub piece_ends : (start : ℕ) (ends : List ℕ) (n k : ℕ) → AreEnds start ends n → k < length ends → get_or ends k 0 ≤ n
unfolding AreEnds
piece_ends start [] n k h within = absurd (omega (arith, within))
piece_ends start (e ∷ es) n zero h within = ends_within e es n h.1
piece_ends start (e ∷ es) n (suc k) h within = piece_ends e es n k h.1 (omega (arith, within))

-- one more piece
ends_more : (start : ℕ) (ends : List ℕ) (n e : ℕ) → AreEnds start ends n → n ≤ e → AreEnds start (ends ++ e ∷ []) e
unfolding AreEnds
ends_more start [] n e h more = (omega (arith, h, more), refl)
ends_more start (d ∷ es) n e h more = (h.0, ends_more d es n e h.1 more)

range_kept : (ls c : List Literal) (a b : ℕ) → a ≤ b → b ≤ length ls → slice_range (ls ++ c) a b ≡ slice_range ls a b
range_kept ls c a b first last =
    ap (take (b - a)) (drop-append-le a ls c (omega (arith, first, last)))
    ∙ take-append-le (b - a) (drop a ls) c (omega (arith, first, last, length_drop a ls (omega (arith, first, last))))
  where
    length_drop : (k : ℕ) (xs : List Literal) → k ≤ length xs → length (drop k xs) + k ≡ length xs
    length_drop zero xs h = omega arith
    length_drop (suc k) [] h = absurd (omega (arith, h))
    length_drop (suc k) (x ∷ xs) h = omega (arith, length_drop k xs (omega (arith, h)))

range_new : (ls c : List Literal) (a e : ℕ) → a ≡ length ls → e ≡ length ls + length c → slice_range (ls ++ c) a e ≡ c
range_new ls c a e first last = ap (take (e - a)) (drop_at ls c a (sym first)) ∙ take_all (e - a) c (omega (arith, first, last))

pieces_more : (start : ℕ) (ends : List ℕ) (ls c : List Literal) (e : ℕ) → AreEnds start ends (length ls) → e ≡ length ls + length c → pieces start (ends ++ e ∷ []) (ls ++ c) ≡ pieces start ends ls ++ c ∷ []
unfolding pieces AreEnds
pieces_more start [] ls c e h size = ap (λ (d : List Literal). d ∷ []) (range_new ls c start e h size)
pieces_more start (d ∷ es) ls c e h size =
    ap (λ (p : List Literal). p ∷ pieces d (es ++ e ∷ []) (ls ++ c)) (range_kept ls c start d h.0 (ends_within d es (length ls) h.1))
    ∙ ap (λ (ps : List (List Literal)). slice_range ls start d ∷ ps) (pieces_more d es ls c e h.1 size)

pub one_more : (ls c : List Literal) (ends : List ℕ) (e : ℕ) → AreClauses ls ends → e ≡ length ls + length c → clauses_in (ls ++ c) (ends ++ e ∷ []) ≡ clauses_in ls ends ++ c ∷ []
one_more ls c ends e h size = pieces_more 0 ends ls c e h.rise size

pub are_more : (ls c : List Literal) (ends : List ℕ) (e : ℕ) → AreClauses ls ends → are_increasing c ≡ true → e ≡ length ls + length c → AreClauses (ls ++ c) (ends ++ e ∷ [])
are_more ls c ends e h order size = record {
  rise = subst (λ n. AreEnds 0 (ends ++ e ∷ []) n) (omega (arith, size, length-append ls c)) (ends_more 0 ends (length ls) e h.rise (omega (arith, size)));
  increasing =
      ap (list_all are_increasing) (one_more ls c ends e h size)
      ∙ list_all-append are_increasing (clauses_in ls ends) (c ∷ [])
      ∙ and_from _ _ h.increasing (and_from _ _ order refl);
}

-- the first ones
ends_first : (start : ℕ) (ends : List ℕ) (n k : ℕ) → AreEnds start ends n → k ≤ length ends → AreEnds start (take k ends) (get_or (start ∷ ends) k 0)
unfolding AreEnds
ends_first start ends n zero h within = refl
ends_first start [] n (suc k) h within = absurd (omega (arith, within))
ends_first start (e ∷ es) n (suc k) h within = (h.0, ends_first e es n k h.1 (omega (arith, within)))

begins_within : (start : ℕ) (ends : List ℕ) (n k : ℕ) → AreEnds start ends n → k ≤ length ends → (start ≤ get_or (start ∷ ends) k 0) × (get_or (start ∷ ends) k 0 ≤ n)
unfolding AreEnds
begins_within start ends n zero h within = (omega arith, ends_within start ends n h)
begins_within start [] n (suc k) h within = absurd (omega (arith, within))
begins_within start (e ∷ es) n (suc k) h within =
    let rest : (e ≤ get_or (e ∷ es) k 0) × (get_or (e ∷ es) k 0 ≤ n) = begins_within e es n k h.1 (omega (arith, within)) in
    (omega (arith, h.0, rest.0), rest.1)

range_first : (ls : List Literal) (a b m : ℕ) → a ≤ b → b ≤ m → m ≤ length ls → slice_range (take m ls) a b ≡ slice_range ls a b
range_first ls a b m rises first within =
    sym (ap (λ (x : List Literal). slice_range x a b) (sym (take-append-drop m ls))
    ∙ range_kept (take m ls) (drop m ls) a b rises (omega (arith, first, length-take-le m ls within)))

pieces_first : (start : ℕ) (ends : List ℕ) (ls : List Literal) (k : ℕ) → AreEnds start ends (length ls) → k ≤ length ends → pieces start (take k ends) (take (get_or (start ∷ ends) k 0) ls) ≡ take k (pieces start ends ls)
unfolding pieces AreEnds
pieces_first start ends ls zero h within = refl
pieces_first start [] ls (suc k) h within = absurd (omega (arith, within))
pieces_first start (e ∷ es) ls (suc k) h within =
    let rest : (e ≤ get_or (e ∷ es) k 0) × (get_or (e ∷ es) k 0 ≤ length ls) = begins_within e es (length ls) k h.1 (omega (arith, within)) in
    ap (λ (p : List Literal). p ∷ pieces e (take k es) (take (get_or (e ∷ es) k 0) ls)) (range_first ls start e (get_or (e ∷ es) k 0) h.0 rest.0 rest.1)
    ∙ ap (λ (ps : List (List Literal)). slice_range ls start e ∷ ps) (pieces_first e es ls k h.1 (omega (arith, within)))

all_first : (cs : List (List Literal)) (k : ℕ) → list_all are_increasing cs ≡ true → list_all are_increasing (take k cs) ≡ true
all_first cs zero h = refl
all_first [] (suc k) h = refl
all_first (c ∷ cs) (suc k) h =
    let parts : (are_increasing c ≡ true) × (list_all are_increasing cs ≡ true) = and_parts _ _ h in
    and_from _ _ parts.0 (all_first cs k parts.1)

pub first_clauses : (ls : List Literal) (ends : List ℕ) (k end : ℕ) → AreClauses ls ends → k ≤ length ends → end ≡ get_or (0 ∷ ends) k 0 → clauses_in (take end ls) (take k ends) ≡ take k (clauses_in ls ends)
first_clauses ls ends k end h within is = ap (λ e. clauses_in (take e ls) (take k ends)) is ∙ pieces_first 0 ends ls k h.rise within

pub are_first : (ls : List Literal) (ends : List ℕ) (k end : ℕ) → AreClauses ls ends → k ≤ length ends → end ≡ get_or (0 ∷ ends) k 0 → AreClauses (take end ls) (take k ends)
are_first ls ends k end h within is = record {
  rise =
      subst (λ n. AreEnds 0 (take k ends) n)
      (sym is ∙ sym (length-take-le end ls (omega (arith, is, (begins_within 0 ends (length ls) k h.rise within).1))))
      (ends_first 0 ends (length ls) k h.rise within);
  increasing = ap (list_all are_increasing) (first_clauses ls ends k end h within is) ∙ all_first (clauses_in ls ends) k h.increasing;
}

pub none_yet : AreClauses [] []
unfolding AreEnds pieces
none_yet = record { rise = refl; increasing = refl }

pub no_pieces : clauses_in [] [] ≡ []
unfolding pieces
no_pieces = refl

-- each piece is in order
all_at : (cs : List (List Literal)) (k : ℕ) (c : List Literal) → list_all are_increasing cs ≡ true → slice_get cs k ≡ Some c → are_increasing c ≡ true
all_at [] k c all at = cc
all_at (d ∷ ds) zero c all at =
    let same : d ≡ c = cc in
    ap are_increasing (sym same) ∙ (and_parts _ _ all).0
all_at (d ∷ ds) (suc k) c all at = all_at ds k c (and_parts _ _ all).1 at

pub in_order : (ls : List Literal) (ends : List ℕ) (k : ℕ) (c : List Literal) → AreClauses ls ends → slice_get (clauses_in ls ends) k ≡ Some c → are_increasing c ≡ true
in_order ls ends k c h at = all_at (clauses_in ls ends) k c h.increasing at

-- where a clause begins and ends, and that its literals lie between
pub clause_between : (ls : List Literal) (ends seen : List ℕ) (k start end : ℕ) → AreClauses ls ends → seen ≡ ends → k < length (clauses_in ls ends) → start ≡ get_or (0 ∷ seen) k 0 → end ≡ get_or ends k end → (start ≤ end) × (end ≤ length ls) × (slice_get (clauses_in ls ends) k ≡ Some (slice_range ls start end))
clause_between ls ends seen k start end h same within first last =
    let inside : k < length ends = omega (arith, within, piece_count 0 ends ls) in
    let begins : start ≡ get_or (0 ∷ ends) k 0 = first ∙ ap (λ (es : List ℕ). get_or (0 ∷ es) k 0) same in
    let stops : end ≡ get_or ends k 0 = last ∙ get_or_default ends k end 0 inside in (
      omega (arith, begins, stops, piece_rises 0 ends (length ls) k h.rise inside),
      omega (arith, stops, piece_ends 0 ends (length ls) k h.rise inside),
      piece_at 0 ends ls k inside ∙ ap (λ a. Some (slice_range ls a (get_or ends k 0))) (sym begins) ∙ ap (λ b. Some (slice_range ls start b)) (sym stops),
    )

pub count_is : (ls : List Literal) (ends : List ℕ) (clauses : List (List Literal)) → clauses_in ls ends ≡ clauses → length ends ≡ length clauses
count_is ls ends clauses is = sym (piece_count 0 ends ls) ∙ ap (λ (cs : List (List Literal)). length cs) is

-- one clause further
all_from : (p : List Literal → Bool) (cs : List (List Literal)) (k : ℕ) (c : List Literal) → slice_get cs k ≡ Some c → list_all p (drop k cs) ≡ (p c && list_all p (drop (suc k) cs))
all_from p [] k c at = cc
all_from p (d ∷ ds) zero c at =
    let same : d ≡ c = cc in
    ap (λ (e : List Literal). p e && list_all p ds) same
all_from p (d ∷ ds) (suc k) c at = all_from p ds k c at

pub all_further : (p : List Literal → Bool) (cs : List (List Literal)) (k : ℕ) (c : List Literal) → slice_get cs k ≡ Some c → list_all p (drop k cs) ≡ (p c && list_all p (drop (k + 1) cs))
all_further p cs k c at = rw (add-one k) (all_from p cs k c at)

pub take_next : {X : Type 0} (xs : List X) (k : ℕ) (x : X) → slice_get xs k ≡ Some x → take (k + 1) xs ≡ take k xs ++ x ∷ []
take_next xs k x at = take_more xs k x (slice_get_within xs k x at) ∙ ap (λ y. take k xs ++ y ∷ []) (get_or_from_slice_get xs k x x at)
