-- Lists of which one item is changed, and others come behind.
use Rattle.std.proofs.Common.{◌≡◌, ◌≢◌, ℕ, zero, suc, ◌+◌, ◌<◌, cond, List, [], ◌∷◌, ◌++◌, set, length, refl, sym, ap, subst, ◌∙◌, arith, eq-eqb, ne_eqb, Some}
use Rattle.std.specs.Prelude.{slice_get}
use Rattle.std.proofs.lemmas.List.{length-append, length-set}
use Rattle.tree_core.proofs.Places.{get_set, get_before, get_behind}

-- an item that is there
pub get_some : {X : Type 0} (xs : List X) (k : ℕ) → k < length xs → (x : X) × (slice_get xs k ≡ Some x)
get_some [] k lt = absurd (omega arith)
get_some (x ∷ xs) zero lt = (x, refl)
get_some (x ∷ xs) (suc k) lt = get_some xs k (omega arith)

abbrev pub changed : {X : Type 0} → List X → ℕ → X → List X → List X
changed xs n y more = set xs n y ++ more

module _ {X : Type 0} (xs : List X) (n : ℕ) (y : X) (more : List X) where
  pub length-changed : length (changed xs n y more) ≡ length xs + length more
  length-changed = length-append (set xs n y) more ∙ ap (λ l. l + length more) (length-set xs n y)

  pub get_other : (k : ℕ) → n < length xs → k < length xs → n ≢ k → slice_get (changed xs n y more) k ≡ slice_get xs k
  get_other k within lt other =
      get_before (set xs n y) more k (subst (λ l. k < l) (sym (length-set xs n y)) lt)
      ∙ get_set xs n k y within
      ∙ ap (λ b. cond b (Some y) (slice_get xs k)) (ne_eqb n k other)

  pub get_same : n < length xs → slice_get (changed xs n y more) n ≡ Some y
  get_same within =
      get_before (set xs n y) more n (subst (λ l. n < l) (sym (length-set xs n y)) within)
      ∙ get_set xs n n y within
      ∙ ap (λ b. cond b (Some y) (slice_get xs n)) (eq-eqb n n refl)

  pub get_new : (i : ℕ) → slice_get (changed xs n y more) (length xs + i) ≡ slice_get more i
  get_new i = ap (λ l. slice_get (changed xs n y more) (l + i)) (sym (length-set xs n y)) ∙ get_behind (set xs n y) more i
