-- Lists that grow, the events of one number, and lists read by `get_elem?`.
use Rattle.std.proofs.Common.{◌≡◌, ◌≢◌, ◌⊎◌, ℕ, zero, suc, ◌+◌, ◌<◌, ◌≤◌, eqb, Bool, true, false, cond, ltb, List, [], ◌∷◌, ◌++◌, length, drop, set, sym, refl, ap, ◌∙◌, inl, inr, ⊎_elim, arith, append_assoc, append-nil, length-append, eq-eqb, ne_eqb}
use mathlib.Core.Option.{some, some-injective, some-ne-none}
use lib.ListN.{get_elem?}
use Rattle.std.specs.List.{All}
use Rattle.std.proofs.lemmas.List.{drop-append-le}
use Rattle.std.proofs.lemmas.List.Elements.{All-head, All-tail, filter-append}
use Rattle.turn_lock.specs.Growth.{StartsWith, longer, by_number, GoesOnBy}

module _ {X : Type 0} where
  pub starts_refl : (xs : List X) → StartsWith xs xs
  starts_refl xs = ([], sym (append-nil xs))

  pub starts_trans : (xs ys zs : List X) → StartsWith ys xs → StartsWith zs ys → StartsWith zs xs
  starts_trans xs ys zs a b = (a.0 ++ b.0, b.1 ∙ (ap (λ l. l ++ b.0) a.1 ∙ append_assoc xs a.0 b.0))

  pub starts_length : (xs ys : List X) → StartsWith ys xs → length xs ≤ length ys
  starts_length xs ys a = let e : length ys ≡ length xs + length a.0 = ap length a.1
      ∙ length-append xs a.0 in omega arith

  pub longer_keeps : (P : List X → Type 0) (xs ys : List X) → P xs → P ys → P (longer xs ys)
  longer_keeps P xs ys p q = go (ltb (length xs) (length ys))
    where
      go : (b : Bool) → P (cond b ys xs)
      go true = q
      go false = p

  pub drop_whole : (xs : List X) → drop (length xs) xs ≡ []
  drop_whole [] = refl
  drop_whole (x ∷ xs) = drop_whole xs

  pub drop_seam : (xs ys : List X) → drop (length xs) (xs ++ ys) ≡ ys
  drop_seam [] ys = refl
  drop_seam (x ∷ xs) ys = drop_seam xs ys

  pub set_single : (xs : List X) (a : X) → length xs ≡ 1 → set xs 0 a ≡ a ∷ []
  set_single [] a e = absurd (omega arith)
  set_single (x ∷ []) a e = refl
  set_single (x ∷ y ∷ ys) a e = absurd (omega arith)

  pub at_below : (l : List X) (i : ℕ) (a : X) → get_elem? l i ≡ some a → i < length l
  at_below [] i a e = absurd (some-ne-none a (sym e))
  at_below (x ∷ xs) zero a e = omega arith
  at_below (x ∷ xs) (suc i) a e = let h = at_below xs i a e in omega arith

  -- what stands in a list with one more element
  pub at_more : (l : List X) (a b : X) (j : ℕ) → get_elem? (l ++ a ∷ []) j ≡ some b →
      (get_elem? l j ≡ some b) ⊎ ((j ≡ length l) × (a ≡ b))
  at_more [] a b zero e = inr (refl, some-injective a b e)
  at_more [] a b (suc j) e = absurd (some-ne-none b (sym e))
  at_more (x ∷ xs) a b zero e = inl e
  at_more (x ∷ xs) a b (suc j) e = ⊎_elim (λ t. inl t)
      (λ t. let k : j ≡ length xs = t.0 in inr (omega arith, t.1)) (at_more xs a b j e)

  pub at_alone : (a b : X) (j : ℕ) → get_elem? (a ∷ []) j ≡ some b → (j ≡ 0) × (a ≡ b)
  at_alone a b zero e = (refl, some-injective a b e)
  at_alone a b (suc j) e = absurd (some-ne-none b (sym e))

pub cond_same : {X : Type 0} (b : Bool) (x y : X) → y ≡ x → cond b x y ≡ x
cond_same true x y e = refl
cond_same false x y e = e

module _ {E : Type 0} (worker : E → ℕ) where
  pub by_other : (j k : ℕ) → j ≢ k → (es : List E) → All (λ e. worker e ≡ k) es →
      by_number worker j es ≡ []
  by_other j k n [] all = refl
  by_other j k n (e ∷ es) all = let h : worker e ≡ k = All-head (λ e. worker e ≡ k) e es all in
      ap (λ b. cond b (e ∷ by_number worker j es) (by_number worker j es))
      (ne_eqb (worker e) j (λ p. n (sym p ∙ h)))
      ∙ by_other j k n es (All-tail (λ e. worker e ≡ k) e es all)

  pub by_same : (k : ℕ) (es : List E) → All (λ e. worker e ≡ k) es → by_number worker k es ≡ es
  by_same k [] all = refl
  by_same k (e ∷ es) all = let h : worker e ≡ k = All-head (λ e. worker e ≡ k) e es all in
      ap (λ b. cond b (e ∷ by_number worker k es) (by_number worker k es)) (eq-eqb (worker e) k h)
      ∙ ap (λ l. e ∷ l) (by_same k es (All-tail (λ e. worker e ≡ k) e es all))

  module _ (opened : ℕ) (seen es : List E) (k : ℕ) (low : opened ≤ length seen)
      (on : GoesOnBy worker k seen es) where
    pub past_grows : (j : ℕ) → by_number worker j (drop opened es) ≡ by_number worker j
        (drop opened seen) ++ by_number worker j on.0
    past_grows j = ap (λ l. by_number worker j (drop opened l)) on.1
        ∙ (ap (by_number worker j) (drop-append-le opened seen on.0 low)
        ∙ filter-append (λ e. eqb (worker e) j) (drop opened seen) on.0)

    pub past_same : (j : ℕ) → j ≢ k → by_number worker j (drop opened es) ≡ by_number worker j
        (drop opened seen)
    past_same j n = past_grows j ∙
        (ap (λ l. by_number worker j (drop opened seen) ++ l) (by_other j k n on.0 on.2)
        ∙ append-nil (by_number worker j (drop opened seen)))

    pub past_own : by_number worker k (drop opened es) ≡ by_number worker k
        (drop opened seen) ++ drop (length seen) es
    past_own = past_grows k ∙ ap (λ l. by_number worker k (drop opened seen) ++ l)
        (by_same k on.0 on.2 ∙ sym (ap (drop (length seen)) on.1 ∙ drop_seam seen on.0))
