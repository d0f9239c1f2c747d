-- How many low bits tell a term is true of its value.
use Rattle.std.proofs.Common.{◌≡◌, ◌∙◌, ℕ, ◌+◌, ◌-◌, ◌*◌, ◌^◌, ◌<◌, ◌≤◌, true, false, cond, List, ap, arith, inl, inr, subst, sym}
use Rattle.std.specs.Int.{leading_zeros, w64}
use Rattle.std.specs.List.{All}
use Rattle.std.proofs.Math.Nat.{le-max_left, le-max_right, le-min, max-eq_left, min-eq_left, min-eq_right}
use Rattle.std.proofs.lemmas.Nat.{leading_length, pow-add}
use Rattle.bv_dag.specs.BitVectors.{BitVector, IsBitVector, bvnot, is_negative}
use Rattle.bv_dag.proofs.Numbers.{wider}
use Rattle.term_trees.specs.Trees.{Tree, Constant, Widened, tree_width, tree_value, IsTerm}
use Rattle.term_trees.proofs.Ranges.{in_range}
use Rattle.term_simplify.specs.Ends.{ends_of}
use Rattle.term_simplify.specs.Narrowing.{length_of, number_reach, reach_of, reach_up_to}
use Rattle.term_simplify.specs.declared.narrowing.Reach.{Reach}
use Rattle.term_simplify.proofs.EndsRules.{lies_of}
use Rattle.term_simplify.proofs.Multiples.{has_bits}
use Rattle.term_simplify.proofs.Words.{le_tells}
use Rattle.term_simplify.proofs.SignedRange.{IsWithin, within_all, within_large, within_sign_extend, within_small}

-- so many low bits tell a bit-vector of w bits
pub record IsReach (w : ℕ) (r : Reach) (x : BitVector) : Type 0 where
  pub some : 0 < r.unsigned
  pub few : x.number < 2 ^ r.unsigned
  pub some_signed : 0 < r.signed
  pub within : r.signed ≤ w → IsWithin w r.signed x

-- ---- a number has as many bits as write it
pub length_some : (n : ℕ) → 0 < length_of n
unfolding length_of
length_some n = omega (arith, le-max_right (64 - leading_zeros w64 n) 1)

pub length_holds : (n : ℕ) → n < 2 ^ 64 → n < 2 ^ length_of n
unfolding length_of
length_holds n h =
    let parts = leading_length 64 n h in
    omega (arith, parts.2, wider parts.0 (length_of n) (omega (arith, parts.1, le-max_left (64 - leading_zeros w64 n) 1)))

pub length_above : (n : ℕ) → 0 < n → n < 2 ^ 64 → 2 ^ (length_of n - 1) ≤ n
unfolding length_of
length_above n some h =
    let parts = leading_length 64 n h in
    let m = parts.0 in
    let all : 64 - leading_zeros w64 n ≡ m = omega (arith, parts.1) in
    let one : 0 < m = has_bits m n some parts.2 in
    let e : m ≡ (m - 1) + 1 = omega (arith, one) in
    let double : 2 ^ m ≡ 2 ^ (m - 1) * 2 = ap (λ k. 2 ^ k) e ∙ pow-add 2 (m - 1) 1 in
    rw (all, max-eq_left one) (omega (arith, double, parts.3))

pub length_more : (n : ℕ) → 1 < n → n < 2 ^ 64 → 1 < length_of n
length_more n more h =
    let enough = length_holds n h in
    elim (le_tells (length_of n) 1) [
      | inl few ↦ absurd (omega (arith, more, enough, wider (length_of n) 1 few.1))
      | inr many ↦ many.1
    ]

pub length_within : (w n : ℕ) → 0 < n → n < 2 ^ 64 → n < 2 ^ w → length_of n ≤ w
length_within w n some h small =
    elim (le_tells (length_of n) w) [
      | inl few ↦ few.1
      | inr many ↦ absurd (omega (arith, small, length_above n some h, wider w (length_of n - 1) (omega (arith, many.1))))
    ]

number_told : (w v : ℕ) → IsBitVector w v → IsReach w (number_reach (record { width = w; number = v })) (record { width = w; number = v })
unfolding bvnot
number_told w v is =
    let below : v < 2 ^ 64 = omega (arith, is.in_range, wider w 64 is.at_most_64) in
    record {
      some = length_some v;
      few = length_holds v below;
      some_signed = omega arith;
      within = elim (is_negative (record { width = w; number = v })) as
          (λ b. length_of (cond b (2 ^ w - 1 - v) v) + 1 ≤ w → IsWithin w (length_of (cond b (2 ^ w - 1 - v) v) + 1) (record { width = w; number = v })) [
            | true ↦ within_large w (length_of (2 ^ w - 1 - v)) (record { width = w; number = v }) is.in_range (length_holds (2 ^ w - 1 - v) (omega (arith, is.in_range, wider w 64 is.at_most_64)))
            | false ↦ within_small w (length_of v) (record { width = w; number = v }) (length_holds v below)
          ];
    }

-- ---- any term
up_to_told : (w bits m : ℕ) (x : BitVector) → x.number ≤ m → m < 2 ^ 64 → 0 < bits → IsWithin w bits x → IsReach w (reach_up_to m bits) x
up_to_told w bits m x most below some within =
    let few : x.number < 2 ^ length_of m = omega (arith, most, length_holds m below) in
    record {
      some = length_some m;
      few = few;
      some_signed = le-min (omega arith) some;
      within = elim (le_tells (length_of m + 1) bits) [
        | inl p ↦ subst (λ k. k ≤ w → IsWithin w k x) (sym (min-eq_left p.1)) (within_small w (length_of m) x few)
        | inr p ↦ subst (λ k. k ≤ w → IsWithin w k x) (sym (min-eq_right (omega (arith, p.1)))) (λ _. within)
      ];
    }

pub told : (inputs : ℕ) (input : List ℕ) → All (λ b. b < 256) input → (t : Tree) → IsTerm inputs t →
    IsReach (tree_width t) (reach_of t) (tree_value input t)
told inputs input bytes (Constant w v) term = number_told w v term
told inputs input bytes (Widened by true t) term =
    let p = in_range inputs input bytes t term.0 in
    let q = in_range inputs input bytes (Widened by true t) term in
    let lies = lies_of inputs input bytes (Widened by true t) term in
    up_to_told (tree_width t + by) (tree_width t) (ends_of (Widened by true t)).greatest.number (tree_value input (Widened by true t)) lies.greatest
    (omega (arith, lies.few, wider (tree_width t + by) 64 q.at_most_64)) p.not_empty (within_sign_extend (tree_width t) by _ p)
told inputs input bytes t term =
    let p = in_range inputs input bytes t term in
    let lies = lies_of inputs input bytes t term in
    up_to_told (tree_width t) (tree_width t) (ends_of t).greatest.number (tree_value input t) lies.greatest
    (omega (arith, lies.few, wider (tree_width t) 64 p.at_most_64)) p.not_empty (within_all (tree_width t) _ p)
