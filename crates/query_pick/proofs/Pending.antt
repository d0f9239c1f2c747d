-- Places to be looked at, in order and once each, and the places found from the greatest down.
use Rattle.std.proofs.Common.{◌≡◌, ℕ, zero, suc, ◌+◌, ◌-◌, ◌<◌, ◌≤◌, ◌⊎◌, ◌↔◌, List, [], ◌∷◌, ◌++◌, length, get_or, reverse, insert, refl, sym, ap, ◌∙◌, arith, inl, inr, Some}
use native.Mathlib.Numerals.{unary_clauses}
use Rattle.std.specs.Prelude.{All, Contains, Err, IsSome, IsTrue, None, Option, nat_lt, slice_get}
use Rattle.std.specs.List.Sorted.{IsBinarySearchResult, IsStrictlyIncreasing}
use Rattle.std.specs.Ordering.{nat_cmp}
use Rattle.std.proofs.lemmas.Bool.{cases_lt}
use Rattle.std.proofs.lemmas.Bool.Decides.{nat_tests}
use Rattle.std.proofs.lemmas.Option.{get_or_from_slice_get}
use Rattle.std.proofs.lemmas.List.{get_or_append_left, get_or_default, get_or_push, length-append, reverse-append}
use Rattle.std.proofs.lemmas.List.Edits.{get_or-insert_above, get_or-insert_at, get_or-insert_below, length-insert}
use Rattle.std.proofs.lemmas.List.Elements.{Contains-append_cases, Contains-append_left, Contains-append_right, Contains-push_cases}
use Rattle.std.proofs.lemmas.List.Sorted.{Contains-permutation, IsPermutation-insert, IsPermutation-sym, searched}
use Rattle.query_pick.specs.Operands.{Adds}
use Rattle.query_pick.proofs.Lists.{Contains-here, Contains-later, Contains-none, Contains-uncons, below, no_more}

-- more are added, one after the other
pub added_in_turn : (before between after xs ys : List ℕ) → Adds before between xs → Adds between after ys → Adds before after (xs ++ ys)
added_in_turn before between after xs ys first second k = (
  λ h. elim ((second k).0 h) [
    | inl y ↦ inl (Contains-append_right xs ys k y)
    | inr b ↦ elim ((first k).0 b) [ inl x ↦ inl (Contains-append_left xs ys k x) | inr o ↦ inr o ]
  ],
  λ either. elim either [
    | inl more ↦ elim (Contains-append_cases xs ys k more) [
      | inl x ↦ (second k).1 (inr ((first k).1 (inl x)))
      | inr y ↦ (second k).1 (inl y)
    ]
    | inr o ↦ (second k).1 (inr ((first k).1 (inr o)))
  ],
)

-- one between them
pub added_between : (places : List ℕ) (i id : ℕ) → Adds places (insert places i id) (id ∷ [])
added_between places i id k = (
  λ h. elim (Contains-uncons id places k (Contains-permutation (insert places i id) (id ∷ places) k (IsPermutation-sym (id ∷ places) (insert places i id) (IsPermutation-insert places i id)) h)) [
    | inl e ↦ inl (Contains-here id [] k e)
    | inr p ↦ inr p
  ],
  λ either. Contains-permutation (id ∷ places) (insert places i id) k (IsPermutation-insert places i id)
      (elim either [
        | inl one ↦ elim (Contains-uncons id [] k one) [ inl e ↦ Contains-here id places k e | inr none ↦ Contains-none k none _ ]
        | inr p ↦ Contains-later id places k p
      ]),
)

-- all are below what the last is below
pub all_below : (places : List ℕ) (last id : ℕ) → IsStrictlyIncreasing places → Some last ≡ slice_get places (length places - 1) → IsTrue (nat_lt last id) → All (λ k. k < id) places
all_below places last id up is less k d within =
    let at_end : get_or places (length places - 1) 0 ≡ last = get_or_from_slice_get places (length places - 1) last 0 (sym is) in
    let before : last < id = grind (arith, nat_tests, less) in
    omega (arith, no_more places up k (length places - 1) (omega (arith, within)) (omega (arith, within)), at_end, before, get_or_default places k d 0 within)

-- from its place on, one that stands before those above it increases with them
not_before : (places : List ℕ) (i id : ℕ) → IsStrictlyIncreasing places → i ≤ length places → ((k : ℕ) → i ≤ k → k < length places → id < get_or places k 0) → (k : ℕ) → i ≤ k → k < length places
    → get_or (insert places i id) k 0 < get_or (insert places i id) (k + 1) 0
not_before places i id up there higher k from within =
    let next = get_or-insert_above places i id 0 k from there in
    elim (cases_lt i k) [
      | inl past ↦
          let before : (k - 1) + 1 ≡ k = omega (arith, past) in
          let at_k : get_or (insert places i id) k 0 ≡ get_or places (k - 1) 0 = ap (λ (j : ℕ). get_or (insert places i id) j 0) (sym before) ∙ get_or-insert_above places i id 0 (k - 1) (omega (arith, past)) there in
          omega (arith, up (k - 1) (omega (arith, past, within)), ap (λ (j : ℕ). get_or places j 0) before, at_k, next)
      | inr at ↦
          let same : i ≡ k = omega (arith, at, from) in
          let at_k : get_or (insert places i id) k 0 ≡ id = ap (λ (j : ℕ). get_or (insert places i id) j 0) (sym same) ∙ get_or-insert_at places i id 0 there in
          omega (arith, higher k from within, at_k, next)
    ]

-- one between those that are below it and those above it
pub increasing_between : (places : List ℕ) (i id : ℕ) → IsStrictlyIncreasing places → IsBinarySearchResult (λ y. nat_cmp y id) places (Err i) → IsStrictlyIncreasing (insert places i id)
increasing_between places i id up search k within =
    let apart = searched places id (Err i) search (no_more places up) in
    let long = length-insert places i id apart.0 in
    elim (cases_lt (k + 1) i) [
      | inl before ↦
          omega (arith, up k (omega (arith, before, apart.0)), get_or-insert_below places i id 0 k (omega (arith, before)) apart.0, get_or-insert_below places i id 0 (k + 1) before apart.0)
      | inr from ↦
          elim (cases_lt k i) [
            | inl under ↦
                let next : k + 1 ≡ i = omega (arith, from, under) in
                let at_next : get_or (insert places i id) (k + 1) 0 ≡ id = ap (λ j. get_or (insert places i id) j 0) next ∙ get_or-insert_at places i id 0 apart.0 in
                omega (arith, apart.1 k under, get_or-insert_below places i id 0 k under apart.0, at_next)
            | inr past ↦ not_before places i id up apart.0 apart.2 k (omega (arith, past)) (omega (arith, within, long))
          ]
    ]

-- of places that increase the last is taken
module _ (popped : List ℕ) (id : ℕ) where
  pub Contains-taken : (k : ℕ) → Contains (popped ++ id ∷ []) k ↔ ((k ≡ id) ⊎ Contains popped k)
  Contains-taken k = (
    λ h. elim (Contains-push_cases popped id k h) [ inl p ↦ inr p | inr e ↦ inl (sym e) ],
    λ either. elim either [
      | inl e ↦ Contains-append_right popped (id ∷ []) k (Contains-here id [] k e)
      | inr p ↦ Contains-append_left popped (id ∷ []) k p
    ],
  )

  pub others_below : IsStrictlyIncreasing (popped ++ id ∷ []) → (k : ℕ) → Contains popped k → k < id
  others_below up k h =
      let long = length-append popped (id ∷ []) in
      omega (
        arith,
        below (popped ++ id ∷ []) h.0 (length popped) up h.1 (omega (arith, long)),
        get_or_append_left popped (id ∷ []) 0 h.0 h.1,
        get_or_default popped h.0 0 k h.1,
        h.2,
        get_or_push popped id 0 (length popped) refl,
      )

-- where none can be taken, none is there
pub none_left : (old : List ℕ) (len : ℕ) (r : Option ℕ) → len ≡ length old → ((id : ℕ) → r ≡ Some id → ⊥) → (IsSome r ↔ (0 < len)) → old ≡ []
none_left [] len r as_many none some = refl
none_left (id ∷ ids) len None as_many none some = let there : IsSome {T = ℕ} None = some.1 (omega (arith, as_many)) in cc
none_left (id ∷ ids) len (Some last) as_many none some = absurd (none last refl)

-- one more is found
pub reverse-push : (found more : List ℕ) (id : ℕ) → more ≡ found ++ id ∷ [] → reverse more ≡ id ∷ reverse found
reverse-push found more id is = ap reverse is ∙ reverse-append found (id ∷ [])

first_of : (places : List ℕ) (n : ℕ) → 0 < length places → get_or places 0 n ≡ get_or places 0 0
first_of [] n some = absurd (omega (arith, some))
first_of (x ∷ xs) n some = refl

-- places that increase, with a lesser one before them
pub increasing_more : (places : List ℕ) (id n : ℕ) → IsStrictlyIncreasing places → id < get_or places 0 n → IsStrictlyIncreasing (id ∷ places)
increasing_more places id n up less zero within = rw (sym (first_of places n (omega (arith, within)))) less
increasing_more places id n up less (suc k) within = let rest = up k (omega (arith, within)) in simp unary_clauses (simp unary_clauses at rest)
