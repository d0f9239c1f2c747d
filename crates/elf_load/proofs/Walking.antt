-- The steps of a walk over the addresses of a region.
use Rattle.std.proofs.Common.{◌≡◌, ℕ, suc, ◌+◌, ◌-◌, ◌<◌, Bool, false, ◌||◌, sym, ap, ◌∙◌, arith}
use Rattle.std.specs.List.{list_any, range_with_len}

-- the numbers from `start` on, from the i-th
range_more : (test : ℕ → Bool) (start count i : ℕ) → i < count → list_any test (range_with_len (start + i) (count - i)) ≡ (test (start + i) || list_any test (range_with_len (start + (i + 1)) (count - (i + 1))))
range_more test start count i l =
    ap (λ n. list_any test (range_with_len (start + i) n)) (left l) ∙ ap (λ a. test (start + i) || list_any test (range_with_len a (count - (i + 1)))) (omega arith)
  where
    left : i < count → count - i ≡ suc (count - (i + 1))
    left l = omega arith

pub later_pass : (test : ℕ → Bool) (start count i : ℕ) → list_any test (range_with_len (start + i) (count - i)) ≡ list_any test (range_with_len start count) → i < count → test (start + i) ≡ false → list_any test (range_with_len (start + (i + 1)) (count - (i + 1))) ≡ list_any test (range_with_len start count)
later_pass test start count i so l h = sym (range_more test start count i l ∙ ap (λ b. b || list_any test (range_with_len (start + (i + 1)) (count - (i + 1)))) h) ∙ so
