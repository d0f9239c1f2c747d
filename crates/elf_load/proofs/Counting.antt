-- How many numbers below a bound pass a test.
use Rattle.std.proofs.Common.{◌≡◌, ℕ, zero, suc, ◌+◌, ◌-◌, ◌/◌, ◌<◌, ◌≤◌, min, max, Bool, true, false, cond, ltb, leb, ◌&&◌, ◌||◌, List, [], ◌∷◌, length, drop, All, refl, sym, ap, ◌∙◌, arith}
use Rattle.std.proofs.lemmas.Bool.Decides.{nat_tests}
use Rattle.std.proofs.lemmas.Bool.{or_parts, and_right, le-leb}
use Rattle.std.specs.List.Sorted.{IsPermutation, IsNonDecreasingBy}
use Rattle.std.proofs.lemmas.List.Sorted.{list_any-IsPermutation, IsPermutation-sym}
use Rattle.std.proofs.lemmas.List.Elements.{All-head, All-tail}
use Rattle.elf_load.specs.declared.header.ProgramHeader.{ProgramHeader}
use Rattle.elf_load.specs.Areas.{any_pair, share_address, end_of, first_page, last_page, touches, is_touched, count_below, touched_pages}
use Rattle.elf_load.proofs.Sweep.{overlaps_from, pages_from, RisesFrom, rises, any_pair_from_sweep, touched_above}
use Rattle.std.proofs.lemmas.List.{drop_all}

pub count_same : (n : ℕ) (f g : ℕ → Bool) → ((p : ℕ) → f p ≡ g p) → count_below n f ≡ count_below n g
unfolding count_below
count_same zero f g h = refl
count_same (suc n) f g h = rw (h n, count_same n f g h) refl

count_none : (n : ℕ) (f : ℕ → Bool) → ((p : ℕ) → f p ≡ false) → count_below n f ≡ 0
unfolding count_below
count_none zero f h = refl
count_none (suc n) f h = rw (h n, count_none n f h) refl

count_split : (n : ℕ) (h f g : ℕ → Bool) → ((p : ℕ) → cond (h p) 1 0 ≡ cond (f p) 1 0 + cond (g p) 1 0) → count_below n h ≡ count_below n f + count_below n g
unfolding count_below
count_split zero h f g e = refl
count_split (suc n) h f g e = omega (arith, e n, count_split n h f g e)

count_interval : (n low high : ℕ) → count_below n (λ p. leb low p && leb p high) ≡ min n (high + 1) - low
unfolding count_below
count_interval zero low high = omega arith
count_interval (suc n) low high = let i : count_below n (λ p. leb low p && leb p high) ≡ min n (high + 1) - low = count_interval n low high in rw i (interval_more n low high)
  where
    interval_more : (n low high : ℕ) → cond (leb low n && leb n high) 1 0 + (min n (high + 1) - low) ≡ min (suc n) (high + 1) - low
    interval_more n low high = grind (arith, nat_tests)

-- what counts is either in the interval or past it
one_or_other : (t : Bool) (first last next p : ℕ) → first ≤ last → (t ≡ true → last ≤ p) → cond (leb next p && ((leb first p && leb p last) || t)) 1 0 ≡ cond (leb (max first next) p && leb p last) 1 0 + cond (leb (max (last + 1) next) p && t) 1 0
one_or_other true first last next p h l = let k : last ≤ p = l refl in grind (arith, nat_tests)
one_or_other false first last next p h l = grind (arith, nat_tests)

pub page_in_memory : (s : ProgramHeader) → end_of s ≤ 4294967296 → last_page s < 16777216
page_in_memory s h = omega arith

-- one area's pages from this one on
interval_pages : (s : ProgramHeader) (free : ℕ) → end_of s ≤ 4294967296 → count_below 16777216 (λ p. leb (max (first_page s) free) p && leb p (last_page s)) ≡ (last_page s + 1) - max (first_page s) free
interval_pages s free h = let l : last_page s < 16777216 = page_in_memory s h in count_interval 16777216 (max (first_page s) free) (last_page s) ∙ inside 16777216 (last_page s) (max (first_page s) free) l
  where
    inside : (n high low : ℕ) → high < n → min n (high + 1) - low ≡ (high + 1) - low
    inside n high low l = omega arith

-- areas in order and apart touch so many pages from this one on
pub pages_counted : (ss : List ProgramHeader) (low before free : ℕ) → RisesFrom low ss → All (λ s. end_of s ≤ 4294967296) ss → overlaps_from before ss ≡ false → count_below 16777216 (λ p. leb free p && is_touched ss p) ≡ pages_from free ss
pages_counted [] low before free r m o = count_none 16777216 (λ p. leb free p && false) (λ p. and_right (leb free p) false refl)
pages_counted (s ∷ ss) low before free r m o =
    let ends : end_of s ≤ 4294967296 = All-head (λ s. end_of s ≤ 4294967296) s ss m in
    let p : (ltb s.address before ≡ false) × (overlaps_from (end_of s) ss ≡ false) = or_parts _ _ o in
    let first : first_page s ≤ last_page s = omega arith in
    count_split 16777216 _ (λ p. leb (max (first_page s) free) p && leb p (last_page s)) (λ p. leb (max (last_page s + 1) free) p && is_touched ss p)
    (λ page. one_or_other (is_touched ss page) (first_page s) (last_page s) free page first (λ t. let q : end_of s / 256 ≤ page = touched_above ss (end_of s) page p.1 t in omega arith))
    ∙ rw (interval_pages s free ends, pages_counted ss s.address (end_of s) (max (last_page s + 1) free) r.2 (All-tail (λ s. end_of s ≤ 4294967296) s ss m) p.1) refl

pub touched_pages_counted : (ss : List ProgramHeader) → RisesFrom 0 ss → All (λ s. end_of s ≤ 4294967296) ss → overlaps_from 0 ss ≡ false → touched_pages ss ≡ pages_from 0 ss
unfolding touched_pages
touched_pages_counted ss r m o = count_same 16777216 (is_touched ss) (λ p. leb 0 p && is_touched ss p) (λ p. rw (le-leb 0 p (omega arith)) refl) ∙ pages_counted ss 0 0 0 r m o

-- a permutation touches as many
pub touched_pages-permutation : (xs ys : List ProgramHeader) → IsPermutation xs ys → touched_pages ys ≡ touched_pages xs
unfolding touched_pages
touched_pages-permutation xs ys h = count_same 16777216 (is_touched ys) (is_touched xs) (λ page. list_any-IsPermutation (λ s. touches s page) ys xs (IsPermutation-sym xs ys h))

-- at the end of a sweep all are counted
pub sweep_counted : (ss : List ProgramHeader) (i free count : ℕ) → any_pair share_address ss ≡ false → IsNonDecreasingBy (λ (s : ProgramHeader). s.address) ss → All (λ (s : ProgramHeader). 0 < s.memory_size) ss → All (λ s. end_of s ≤ 4294967296) ss → count + pages_from free (drop i ss) ≡ pages_from 0 ss → length ss ≤ i → count ≡ touched_pages ss
sweep_counted ss i free count apart up each m so l =
    let r : RisesFrom 0 ss = rises ss 0 (λ d l. omega arith) up each in
    let e : count + pages_from free [] ≡ pages_from 0 ss = ap (λ rest. count + pages_from free rest) (sym (drop_all i ss l)) ∙ so in
    let k : count ≡ pages_from 0 ss = omega (arith, e) in
    k ∙ sym (touched_pages_counted ss r m (sym (any_pair_from_sweep ss r) ∙ apart))
