-- A list whose items that fail a test are removed one by one.
use Rattle.std.proofs.Common.{◌≡◌, ℕ, zero, suc, ◌<◌, Bool, false, cond, List, [], ◌∷◌, ◌++◌, drop, get_or, length, take, sym, ap, arith}
use Rattle.std.specs.Prelude.{filter, remove}

pub removed : {A : Type 0} (p : A → Bool) (xs : List A) (at : ℕ) (d : A) → at < length xs → p (get_or xs at d) ≡ false
    → take at (remove xs at) ++ filter p (drop at (remove xs at)) ≡ take at xs ++ filter p (drop at xs)
removed p [] at d below fails = absurd (omega (arith, below))
removed p (x ∷ xs) zero d below fails = sym (ap (λ b. cond b (x ∷ filter p xs) (filter p xs)) fails)
removed p (x ∷ xs) (suc at) d below fails = ap (λ ys. x ∷ ys) (removed p xs at d (omega (arith, below)) fails)
