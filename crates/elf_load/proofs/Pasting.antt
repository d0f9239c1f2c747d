-- The bytes of a page after a part of it was written.
use Rattle.std.proofs.Common.{◌≡◌, ℕ, ◌+◌, ◌-◌, ◌<◌, ◌≤◌, min, max, true, cond, ltb, leb, ◌&&◌, List, length, get_or, take, drop, refl, sym, ap, ◌∙◌, ⊎_elim, arith, rules}
use borrow.Rule.Slice.PartMut.{put_mid}
use Rattle.std.proofs.lemmas.Bool.{and_from, and_left, and_right, le-leb, lt-leb, lt-ltb, le-ltb, cases_lt}
use Rattle.std.proofs.lemmas.List.{places, get_or-take, get_or-drop}

put_below : (a k : ℕ) (xs ys : List ℕ) (i : ℕ) → i < a → a ≤ length xs → get_or (put_mid a k xs ys) i 0 ≡ get_or xs i 0
put_below a k xs ys i l h = search (rules, places)

put_within : (a k : ℕ) (xs ys : List ℕ) (i : ℕ) → a ≤ i → i < a + k → a ≤ length xs → length ys ≡ k → get_or (put_mid a k xs ys) i 0 ≡ get_or ys (i - a) 0
put_within a k xs ys i l m h e = search (rules, places)

put_above : (a k : ℕ) (xs ys : List ℕ) (i : ℕ) → a + k ≤ i → a ≤ length xs → length ys ≡ k → get_or (put_mid a k xs ys) i 0 ≡ get_or xs i 0
put_above a k xs ys i l h e = search (rules, places)

pasted_part : (bytes : List ℕ) (source k j : ℕ) → j < k → source + k ≤ length bytes → get_or (take k (drop source bytes)) j 0 ≡ get_or bytes (source + j) 0
pasted_part bytes source k j l h = get_or-take k (drop source bytes) j 0 l ∙ get_or-drop source bytes j 0

pasted_length : (bytes : List ℕ) (source k : ℕ) → source + k ≤ length bytes → length (take k (drop source bytes)) ≡ k
pasted_length bytes source k h = search (rules, places)

-- a page that begins at `start`, after the file's bytes of an area were put onto it
pub pasted : (page bytes ys : List ℕ) (start address offset size from past i : ℕ) → from ≡ max start address → past ≡ min (start + 256) (address + size) → from < past → length page ≡ 256 → offset + size ≤ length bytes → i < 256
    → ys ≡ take (past - from) (drop (offset + (from - address)) bytes)
    → get_or (put_mid (from - start) (past - start - (from - start)) page ys) i 0 ≡ cond (leb address (start + i) && ltb (start + i) (address + size)) (get_or bytes (offset + (start + i - address)) 0) (get_or page i 0)
pasted page bytes ys start address offset size from past i f p l len fits inside is =
    let lower : from - start ≤ length page = omega arith in
    let source : (offset + (from - address)) + (past - from) ≤ length bytes = omega arith in
    let count : length ys ≡ past - start - (from - start) = ap length is ∙ pasted_length bytes (offset + (from - address)) (past - from) source ∙ omega arith in
    ⊎_elim
    (λ (b : i < from - start). put_below (from - start) (past - start - (from - start)) page ys i b lower
    ∙ sym (rw (and_left (leb address (start + i)) (ltb (start + i) (address + size)) (lt-leb address (start + i) (omega arith))) refl))
    (λ (a : from - start ≤ i). ⊎_elim
    (λ (b : i < past - start).
    let part : get_or (take (past - from) (drop (offset + (from - address)) bytes)) (i - (from - start)) 0 ≡ get_or bytes ((offset + (from - address)) + (i - (from - start))) 0 = pasted_part bytes (offset + (from - address)) (past - from) (i - (from - start)) (omega arith) source in
    let at : (offset + (from - address)) + (i - (from - start)) ≡ offset + (start + i - address) = omega arith in
    let both : (leb address (start + i) && ltb (start + i) (address + size)) ≡ true = and_from _ _ (le-leb address (start + i) (omega arith)) (lt-ltb (start + i) (address + size) (omega arith)) in
    put_within (from - start) (past - start - (from - start)) page ys i a (omega arith) lower count
    ∙ ap (λ l. get_or l (i - (from - start)) 0) is ∙ part ∙ ap (λ k. get_or bytes k 0) at
    ∙ sym (ap (λ t. cond t (get_or bytes (offset + (start + i - address)) 0) (get_or page i 0)) both))
    (λ (b : past - start ≤ i). put_above (from - start) (past - start - (from - start)) page ys i (omega arith) lower count
    ∙ sym (rw (and_right (leb address (start + i)) (ltb (start + i) (address + size)) (le-ltb (start + i) (address + size) (omega arith))) refl))
    (cases_lt i (past - start)))
    (cases_lt i (from - start))
