-- The values of one byte that were tried, in one list of bytes.
use Rattle.std.proofs.Common.{◌≡◌, ℕ, ◌+◌, ◌<◌, ◌%◌, true, false, inl, inr, List, sym, ap, subst, ◌∙◌, arith, slice_set}
use Rattle.std.proofs.lemmas.Bool.{cases_Bool, cases_lt}
use Rattle.std.proofs.lemmas.List.{set-set}
use Rattle.bv_dag.specs.Queries.{Condition, holds}

-- where the last term fails, all do
pub fails_with_last : (q last : Condition) (input : List ℕ) → ((i : List ℕ) → holds q i ≡ true → holds last i ≡ true) → holds last input ≡ false → holds q input ≡ false
fails_with_last q last input fewer fails =
    elim (cases_Bool (holds q input)) [
      | inl meets ↦ (let both : true ≡ false = sym (fewer input meets) ∙ fails in cc)
      | inr no_more ↦ no_more
    ]

module _ (q : Condition) (zeros old given : List ℕ) (place first steps : ℕ) (is : given ≡ slice_set old place ((first + steps) % 256))
    (alike : (b : ℕ) → slice_set old place b ≡ slice_set zeros place b) where
  pub still_alike : (b : ℕ) → slice_set given place b ≡ slice_set zeros place b
  still_alike b = ap (λ (i : List ℕ). slice_set i place b) is ∙ set-set old place ((first + steps) % 256) b ∙ alike b

  pub one_more_fails : holds q given ≡ false → ((k : ℕ) → k < steps → holds q (slice_set zeros place ((first + k) % 256)) ≡ false) → (k : ℕ) → k < steps + 1
      → holds q (slice_set zeros place ((first + k) % 256)) ≡ false
  one_more_fails fails before k within =
      elim (cases_lt k steps) [
        | inl earlier ↦ before k earlier
        | inr now ↦
            let same : steps ≡ k = omega (arith, now, within) in
            subst (λ (j : ℕ). holds q (slice_set zeros place ((first + j) % 256)) ≡ false) same
            (subst (λ (i : List ℕ). holds q i ≡ false) (is ∙ alike ((first + steps) % 256)) fails)
      ]
