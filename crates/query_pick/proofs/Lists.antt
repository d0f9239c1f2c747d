-- What lists of places hold.
use Rattle.std.proofs.Common.{◌≡◌, ℕ, zero, suc, ◌<◌, ◌≤◌, ◌⊎◌, List, [], ◌∷◌, length, map, get_or, refl, sym, ap, ◌∙◌, arith, inl, inr}
use Rattle.std.specs.Prelude.{All, Contains}
use Rattle.std.specs.List.Sorted.{IsStrictlyIncreasing}
use Rattle.std.specs.List.{slice_get}
use Rattle.std.specs.List.Sorted.{IsBinarySearchResult}
use Rattle.std.specs.Ordering.{nat_cmp}
use Rattle.std.specs.Prelude.{Ok, Err, Some}
use Rattle.std.proofs.lemmas.Bool.{cases_lt}
use Rattle.std.proofs.lemmas.List.{get_or_default}
use Rattle.std.proofs.lemmas.List.Sorted.{searched}
use Rattle.std.proofs.lemmas.Option.{slice_get-get_or}
use Rattle.std.proofs.lemmas.List.Elements.{Contains-get_or}
use Rattle.std.proofs.lemmas.Map.Keys.{sorted_from_strictly_increasing, below_from_sorted}

module _ {X : Type 0} where
  found_at : (x : X) (xs : List X) (a : X) (k : ℕ) → k < length (x ∷ xs) → get_or (x ∷ xs) k a ≡ a → (a ≡ x) ⊎ Contains xs a
  found_at x xs a zero l e = inl (sym e)
  found_at x xs a (suc k) l e = inr (k, omega (arith, l), e)

  -- an item of a longer list
  pub Contains-uncons : (x : X) (xs : List X) (a : X) → Contains (x ∷ xs) a → (a ≡ x) ⊎ Contains xs a
  Contains-uncons x xs a h = found_at x xs a h.0 h.1 h.2

  pub Contains-here : (x : X) (xs : List X) (a : X) → a ≡ x → Contains (x ∷ xs) a
  Contains-here x xs a e = (0, omega arith, sym e)

  pub Contains-later : (x : X) (xs : List X) (a : X) → Contains xs a → Contains (x ∷ xs) a
  Contains-later x xs a h = (suc h.0, omega (arith, h.1), h.2)

  pub Contains-none : (a : X) → Contains {X = X} [] a → (P : Type 0) → P
  Contains-none a h P = absurd (omega (arith, h.1))

  -- what holds of whatever a list contains holds of each of its items
  pub All-from_contains : (P : X → Type 0) (xs : List X) → ((x : X) → Contains xs x → P x) → All P xs
  All-from_contains P xs each k d l = each (get_or xs k d) (Contains-get_or xs k d l)

-- what a list contains is there once it is mapped, and nothing else is
pub Contains-from_map : {X Y : Type 0} (f : X → Y) (xs : List X) (y : Y) → Contains (map f xs) y → (x : X) × Contains xs x × (f x ≡ y)
Contains-from_map f [] y h = Contains-none y h _
Contains-from_map f (x ∷ xs) y h =
    elim (Contains-uncons (f x) (map f xs) y h) [
      | inl e ↦ (x, Contains-here x xs x refl, sym e)
      | inr rest ↦ let found = Contains-from_map f xs y rest in (found.0, Contains-later x xs found.0 found.1, found.2)
    ]

pub Contains-map : {X Y : Type 0} (f : X → Y) (xs : List X) (x : X) → Contains xs x → Contains (map f xs) (f x)
Contains-map f [] x h = Contains-none x h _
Contains-map f (z ∷ xs) x h =
    elim (Contains-uncons z xs x h) [
      | inl e ↦ Contains-here (f z) (map f xs) (f x) (ap f e)
      | inr rest ↦ Contains-later (f z) (map f xs) (f x) (Contains-map f xs x rest)
    ]

-- numbers that increase, by their places
pub below : (xs : List ℕ) (i j : ℕ) → IsStrictlyIncreasing xs → i < j → j < length xs → get_or xs i 0 < get_or xs j 0
below xs i j up before there = below_from_sorted xs i j 0 (sorted_from_strictly_increasing xs up) before there

pub no_more : (xs : List ℕ) → IsStrictlyIncreasing xs → (i j : ℕ) → i ≤ j → j < length xs → get_or xs i 0 ≤ get_or xs j 0
no_more xs up i j before there =
    elim (cases_lt i j) [ inl l ↦ omega (arith, below xs i j up l there) | inr l ↦ (let same : i ≡ j = omega arith in rw same (omega arith)) ]

-- the smaller stands before
pub earlier : (xs : List ℕ) (i j : ℕ) → IsStrictlyIncreasing xs → i < length xs → get_or xs i 0 < get_or xs j 0 → i < j
earlier xs i j up there less =
    elim (cases_lt i j) [ inl l ↦ l | inr l ↦ absurd (omega (arith, no_more xs up j i l there, less)) ]

-- what a binary search finds among numbers that increase, of which one is sought that is there
pub number_found : (xs : List ℕ) (x i : ℕ) → IsStrictlyIncreasing xs → IsBinarySearchResult (λ y. nat_cmp y x) xs (Ok i) → slice_get xs i ≡ Some x
number_found xs x i up search =
    let at_i = searched xs x (Ok i) search (no_more xs up) in slice_get-get_or xs i 0 at_i.0 ∙ ap Some at_i.1

pub number_missing : (xs : List ℕ) (x i : ℕ) → IsStrictlyIncreasing xs → Contains xs x → IsBinarySearchResult (λ y. nat_cmp y x) xs (Err i) → ⊥
number_missing xs x i up there search =
    let apart = searched xs x (Err i) search (no_more xs up) in
    let at_k : get_or xs there.0 0 ≡ x = get_or_default xs there.0 0 x there.1 ∙ there.2 in
    elim (cases_lt there.0 i) [
      | inl l ↦ omega (arith, apart.1 there.0 l, at_k)
      | inr l ↦ omega (arith, apart.2 there.0 l there.1, at_k)
    ]
