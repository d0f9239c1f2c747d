-- The greatest variable of clauses: each is below the next one, and in a clause it is the last.
use Rattle.std.proofs.Common.{◌≡◌, ℕ, zero, suc, ◌-◌, ◌<◌, max, nat_lt, true, List, [], ◌∷◌, ◌++◌, length, Some, None, refl, ap, subst, arith}
use Rattle.std.specs.List.{list_all, slice_get}
use Rattle.std.proofs.lemmas.Bool.{and_parts, and_from, ltb-true, lt-ltb}
use Rattle.cnf_form.specs.Literals.{Literal}
use Rattle.cnf_form.specs.Clauses.{are_increasing}
use Rattle.cnf_form.specs.Variables.{greatest_in, greatest_variable, is_below}

pub no_literal : greatest_in [] ≡ 0
unfolding greatest_in
no_literal = refl

pub no_variable : greatest_variable [] ≡ 0
unfolding greatest_variable
no_variable = refl

-- with one clause more
pub one_more : (cs : List (List Literal)) (c : List Literal) → greatest_variable (cs ++ c ∷ []) ≡ max (greatest_variable cs) (greatest_in c)
unfolding greatest_variable
one_more [] c = omega arith
one_more (d ∷ ds) c = omega (arith, one_more ds c)

-- the last literal of a clause has its greatest variable
above_each : (v : ℕ) (ls : List Literal) (i : ℕ) (k : Literal) → list_all (λ m. nat_lt v m.variable) ls ≡ true → slice_get ls i ≡ Some k → v < k.variable
above_each v [] i k above at = cc
above_each v (m ∷ ms) zero k above at =
    let same : m ≡ k = cc in
    let here : v < m.variable = ltb-true _ _ (and_parts _ _ above).0 in
    omega (arith, here, ap (λ (x : Literal). x.variable) same)
above_each v (m ∷ ms) (suc i) k above at = above_each v ms i k (and_parts _ _ above).1 at

greatest_at_end : (c : List Literal) (i : ℕ) (k : Literal) → are_increasing c ≡ true → length c ≡ suc i → slice_get c i ≡ Some k → k.variable ≡ greatest_in c
unfolding greatest_in are_increasing
greatest_at_end [] i k order long at = cc
greatest_at_end (l ∷ []) zero k order long at =
    let same : l ≡ k = cc in
    omega (arith, ap (λ (x : Literal). x.variable) same)
greatest_at_end (l ∷ []) (suc i) k order long at = cc
greatest_at_end (l ∷ m ∷ ms) zero k order long at = absurd (omega (arith, long))
greatest_at_end (l ∷ m ∷ ms) (suc i) k order long at =
    let parts : (list_all (λ x. nat_lt l.variable x.variable) (m ∷ ms) ≡ true) × (are_increasing (m ∷ ms) ≡ true) = and_parts _ _ order in
    let last : k.variable ≡ greatest_in (m ∷ ms) = greatest_at_end (m ∷ ms) i k parts.1 (omega (arith, long)) at in
    let more : l.variable < k.variable = above_each l.variable (m ∷ ms) i k parts.0 at in
    omega (arith, last, more)

pub greatest_is_last : (c : List Literal) (k : Literal) → are_increasing c ≡ true → slice_get c (length c - 1) ≡ Some k → k.variable ≡ greatest_in c
greatest_is_last [] k order at = cc
greatest_is_last (l ∷ ls) k order at =
    let last : suc (length ls) - 1 ≡ length ls = omega arith in
    greatest_at_end (l ∷ ls) (length ls) k order refl (subst (λ i. slice_get (l ∷ ls) i ≡ Some k) last at)

pub none_is_last : (c : List Literal) → slice_get c (length c - 1) ≡ None → greatest_in c ≡ 0
none_is_last [] none = no_literal
none_is_last (l ∷ ls) none = absurd (some_at (l ∷ ls) (length (l ∷ ls) - 1) (omega arith) none)
  where
    some_at : (c : List Literal) (i : ℕ) → i < length c → slice_get c i ≡ None → ⊥
    some_at [] i within none = omega (arith, within)
    some_at (m ∷ ms) zero within none = cc
    some_at (m ∷ ms) (suc i) within none = some_at ms i (omega (arith, within)) none

-- each variable is below what is greater than the greatest
below_greatest : (n : ℕ) (c : List Literal) → greatest_in c < n → is_below n c ≡ true
unfolding greatest_in is_below
below_greatest n [] less = refl
below_greatest n (l ∷ ls) less = and_from _ _ (lt-ltb _ _ (omega (arith, less))) (below_greatest n ls (omega (arith, less)))

pub all_below : (n : ℕ) (cs : List (List Literal)) → greatest_variable cs < n → list_all (is_below n) cs ≡ true
unfolding greatest_variable
all_below n [] less = refl
all_below n (c ∷ cs) less = and_from _ _ (below_greatest n c (omega (arith, less))) (all_below n cs (omega (arith, less)))
