-- Pages that are found in a list in the order of their numbers, and what a new page in the place of one changes.
use Rattle.std.proofs.Common.{◌≡◌, ℕ, zero, suc, ◌<◌, ◌≤◌, ◌≢◌, Bool, true, false, cond, ◌&&◌, T, List, [], ◌∷◌, length, get_or, set, Some, None, Ok, Err, refl, sym, ap, ◌∙◌, arith}
use Rattle.std.specs.Prelude.{◌==◌}
use Rattle.std.specs.FinMap.{find}
use Rattle.std.specs.FinMap.Entries.{below_all, is_sorted}
use Rattle.std.specs.List.Sorted.{IsBinarySearchResult, IsNonDecreasingBy}
use Rattle.std.specs.Ordering.{nat_cmp, ordering_index, is_lt}
use Rattle.std.specs.Cmp.{unsigned_tied}
use Rattle.std.specs.declared.cmp.Ordering.{Ordering}
use Rattle.std.specs.declared.cmp.Ordering.TheVariants.{Less, Equal, Greater}
use Rattle.std.proofs.lemmas.Cmp.{ranked}
use Rattle.std.proofs.lemmas.List.Sorted.{IsNonDecreasingBy-from_default}
use Rattle.std.proofs.lemmas.Bool.Decides.{nat_tests}
use Rattle.std.proofs.lemmas.Grind.{common_steps}
use Rattle.elf_load.specs.declared.page.Page.{Page}
use Rattle.rv_machine.specs.Pages.{AreByNumber, IsPlaceOf, page_number_at, past_the_end}

-- one step of a look-up
find-cons : (q : ℕ) (e : ℕ × Page) (l : List (ℕ × Page)) → find nat_cmp q (e ∷ l) ≡ cond (q == e.0) (Some e.1) (find nat_cmp q l)
find-cons q e l = ap (λ b. cond b (Some e.1) (find nat_cmp q l)) (unsigned_tied q e.0)

not_equal : (a b : ℕ) → a ≢ b → (a == b) ≡ false
not_equal a b differs = grind (arith, nat_tests)

equal_tests : (a b : ℕ) → a ≡ b → (a == b) ≡ true
equal_tests a b same = grind (arith, nat_tests)

find-other : (q : ℕ) (e : ℕ × Page) (l : List (ℕ × Page)) → q ≢ e.0 → find nat_cmp q (e ∷ l) ≡ find nat_cmp q l
find-other q e l differs = find-cons q e l ∙ ap (λ b. cond b (Some e.1) (find nat_cmp q l)) (not_equal q e.0 differs)

find-here : (q : ℕ) (e : ℕ × Page) (l : List (ℕ × Page)) → q ≡ e.0 → find nat_cmp q (e ∷ l) ≡ Some e.1
find-here q e l same = find-cons q e l ∙ ap (λ b. cond b (Some e.1) (find nat_cmp q l)) (equal_tests q e.0 same)

-- a number that no page has is not found
pub find_absent : (l : List (ℕ × Page)) (k : ℕ) → ((j : ℕ) → j < length l → page_number_at l j ≢ k) → find nat_cmp k l ≡ None
find_absent [] k none = refl
find_absent (e ∷ l) k none =
    find-other k e l (λ is. none 0 (omega arith) (sym is))
    ∙ find_absent l k (λ j small. none (suc j) (omega arith))

-- what is said of the list holds of its tail
order_of_tail : (e : ℕ × Page) (l : List (ℕ × Page)) → AreByNumber (e ∷ l) → AreByNumber l
order_of_tail e l order i j lt in_range = order (suc i) (suc j) (omega arith) (omega arith)

place_in_tail : (e : ℕ × Page) (l : List (ℕ × Page)) (k i : ℕ) → IsPlaceOf (e ∷ l) k (suc i) → IsPlaceOf l k i
place_in_tail e l k i at = record { in_range = omega (arith, at.in_range); has_number = at.has_number }

later_number : (e : ℕ × Page) (l : List (ℕ × Page)) (k i : ℕ) → AreByNumber (e ∷ l) → IsPlaceOf (e ∷ l) k (suc i) → k ≢ e.0
later_number e l k i order at same = omega (arith, order 0 (suc i) (omega arith) at.in_range, at.has_number)

-- the page at its place is found
pub find_present : (l : List (ℕ × Page)) (k i : ℕ) → AreByNumber l → IsPlaceOf l k i → find nat_cmp k l ≡ Some (get_or l i past_the_end).1
find_present [] k i order at = absurd (omega (arith, at.in_range))
find_present (e ∷ l) k zero order at = find-here k e l (sym at.has_number)
find_present (e ∷ l) k (suc i) order at =
    find-other k e l (later_number e l k i order at)
    ∙ find_present l k i (order_of_tail e l order) (place_in_tail e l k i at)

two_tests : (a b : Bool) (p q : Page) (rest : _) → (a ≡ true → b ≡ true → ⊥) → cond a (Some p) (cond b (Some q) rest) ≡ cond b (Some q) (cond a (Some p) rest)
two_tests true true p q rest apart = absurd (apart refl refl)
two_tests true false p q rest apart = refl
two_tests false b p q rest apart = refl

once : (a : Bool) (p q : Page) (rest : _) → cond a (Some p) rest ≡ cond a (Some p) (cond a (Some q) rest)
once true p q rest = refl
once false p q rest = refl

-- a new page in the place of one is found by the number, and all other numbers find what they found
pub find-set : (l : List (ℕ × Page)) (k i : ℕ) → AreByNumber l → IsPlaceOf l k i → (p : Page) (q : ℕ) → find nat_cmp q (set l i (k, p)) ≡ cond (q == k) (Some p) (find nat_cmp q l)
find-set [] k i order at p q = absurd (omega (arith, at.in_range))
find-set (e ∷ l) k zero order at p q =
    find-cons q (k, p) l ∙ once (q == k) p e.1 (find nat_cmp q l)
    ∙ ap (λ n. cond (q == k) (Some p) (cond (q == n) (Some e.1) (find nat_cmp q l))) (sym at.has_number)
    ∙ ap (cond (q == k) (Some p)) (sym (find-cons q e l))
find-set (e ∷ l) k (suc i) order at p q =
    find-cons q e (set l i (k, p))
    ∙ ap (cond (q == e.0) (Some e.1)) (find-set l k i (order_of_tail e l order) (place_in_tail e l k i at) p q)
    ∙ two_tests (q == e.0) (q == k) e.1 p (find nat_cmp q l) (λ one other. later_number e l k i order at (grind (arith, nat_tests, one, other)))
    ∙ ap (cond (q == k) (Some p)) (sym (find-cons q e l))

-- the numbers stay
pub order-set : (l : List (ℕ × Page)) (k i : ℕ) → AreByNumber l → IsPlaceOf l k i → (p : Page) → AreByNumber (set l i (k, p))
order-set l k i order at p m n lt in_range = grind (arith, common_steps, order m n, order m i, order i n, at.in_range, at.has_number)

-- What halving finds.
module _ (l : List (ℕ × Page)) (order : AreByNumber l) (k : ℕ) where
  comparisons_rise : IsNonDecreasingBy (λ e. ordering_index (nat_cmp e.0 k)) l
  comparisons_rise = IsNonDecreasingBy-from_default (λ e. ordering_index (nat_cmp e.0 k)) l past_the_end (λ i j le in_range.
      let rise : page_number_at l i ≤ page_number_at l j = grind (arith, order i j, λ (same : i ≡ j). ap (page_number_at l) same) in
      grind (arith, nat_tests))

  pub place_found : (at : ℕ) → at < length l → IsBinarySearchResult (λ e. nat_cmp e.0 k) l (Ok at) → IsPlaceOf l k at
  place_found at in_range equal = record { in_range = in_range; has_number = ranked _ k _ (sym (equal past_the_end)) }

  pub place_missing : (at : ℕ) → at ≤ length l → IsBinarySearchResult (λ e. nat_cmp e.0 k) l (Err at) → find nat_cmp k l ≡ None
  place_missing at in_range parted = find_absent l k (λ j small.
      let before : j < at → page_number_at l j < k = λ lt. ranked _ k _ (sym ((parted comparisons_rise).0 j past_the_end (omega arith) lt)) in
      let after : at ≤ j → k < page_number_at l j = λ le. ranked _ k _ (sym ((parted comparisons_rise).1 j past_the_end le small)) in
      λ same. grind (arith, before, after))

-- The entries of a finite map are in order.
is_less : (o : Ordering) → T (is_lt o) → o ≡ Less
is_less Less p = refl
is_less Equal p = absurd p
is_less Greater p = absurd p

first : (a b : Bool) → T (a && b) → T a
first true b p = tt
first false b p = p

second : (a b : Bool) → T (a && b) → T b
second true b p = p
second false b p = absurd p

below : (n : ℕ) (l : List (ℕ × Page)) (j : ℕ) → T (below_all nat_cmp n l) → j < length l → n < page_number_at l j
below n [] j all small = absurd (omega (arith, small))
below n (e ∷ l) zero all small = ranked n e.0 Less (sym (is_less _ (first _ _ all)))
below n (e ∷ l) (suc j) all small = below n l j (second _ _ all) (omega (arith, small))

pub in_order : (l : List (ℕ × Page)) → T (is_sorted nat_cmp l) → AreByNumber l
in_order [] sorted i j lt in_range = absurd (omega (arith, lt, in_range))
in_order (e ∷ l) sorted i zero lt in_range = absurd (omega (arith, lt))
in_order (e ∷ l) sorted zero (suc j) lt in_range = below e.0 l j (first _ _ sorted) (omega (arith, in_range))
in_order (e ∷ l) sorted (suc i) (suc j) lt in_range = in_order l (second _ _ sorted) i j (omega (arith, lt)) (omega (arith, in_range))
