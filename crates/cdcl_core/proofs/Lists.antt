-- Elements of lists by their places.
use Rattle.std.proofs.Common.{◌≡◌, ℕ, zero, suc, ◌<◌, ◌≤◌, Bool, true, false, List, [], ◌∷◌, ◌++◌, length, take, Some, None, slice_get, refl, ap, arith}
use Rattle.std.specs.List.{list_any, list_all}
use Rattle.std.proofs.lemmas.Bool.{and_from, or_from}

pub got_more : {X : Type 0} (xs more : List X) (i : ℕ) (x : X) → slice_get xs i ≡ Some x → slice_get (xs ++ more) i ≡ Some x
got_more [] more i x h = cc
got_more (y ∷ ys) more zero x h = h
got_more (y ∷ ys) more (suc i) x h = got_more ys more i x h

pub got_last : {X : Type 0} (xs : List X) (x : X) → slice_get (xs ++ x ∷ []) (length xs) ≡ Some x
got_last [] x = refl
got_last (y ∷ ys) x = got_last ys x

-- an element of the first n
pub got_take : {X : Type 0} (xs : List X) (n i : ℕ) (x : X) → slice_get (take n xs) i ≡ Some x → (i < n) × (slice_get xs i ≡ Some x)
got_take [] zero i x h = let e : None ≡ Some x = h in cc
got_take [] (suc n) i x h = let e : None ≡ Some x = h in cc
got_take (y ∷ ys) zero i x h = let e : None ≡ Some x = h in cc
got_take (y ∷ ys) (suc n) zero x h = (omega arith, h)
got_take (y ∷ ys) (suc n) (suc i) x h = let k : (i < n) × (slice_get ys i ≡ Some x) = got_take ys n i x h in (omega (arith, k.0), k.1)

pub take_shorter : {X : Type 0} (xs : List X) (m n : ℕ) → m ≤ n → take m (take n xs) ≡ take m xs
take_shorter [] zero zero less = refl
take_shorter [] zero (suc n) less = refl
take_shorter [] (suc m) zero less = absurd (omega (arith, less))
take_shorter [] (suc m) (suc n) less = refl
take_shorter (x ∷ xs) zero zero less = refl
take_shorter (x ∷ xs) zero (suc n) less = refl
take_shorter (x ∷ xs) (suc m) zero less = absurd (omega (arith, less))
take_shorter (x ∷ xs) (suc m) (suc n) less = ap (λ ys. x ∷ ys) (take_shorter xs m n (omega (arith, less)))

-- a test of all elements, or of some, by their places
pub all_from : {X : Type 0} (q : X → Bool) (xs : List X) → ((k : ℕ) (x : X) → slice_get xs k ≡ Some x → q x ≡ true) → list_all q xs ≡ true
all_from q [] h = refl
all_from q (x ∷ xs) h = and_from _ _ (h 0 x refl) (all_from q xs (λ k. h (suc k)))

pub none_from : {X : Type 0} (q : X → Bool) (xs : List X) → ((k : ℕ) (x : X) → slice_get xs k ≡ Some x → q x ≡ false) → list_any q xs ≡ false
none_from q [] h = refl
none_from q (x ∷ xs) h = or_from _ _ (h 0 x refl) (none_from q xs (λ k. h (suc k)))
