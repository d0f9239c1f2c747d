-- A sum is below a number exactly where its term is in an interval.
use Rattle.std.proofs.Common.{◌≡◌, ◌==◌, ◌∙◌, ◌⊎◌, ℕ, ◌+◌, ◌-◌, ◌%◌, ◌^◌, ◌<◌, ◌≤◌, Bool, true, false, cond, not, ap, sym, refl, arith, inl, inr}
use Rattle.std.specs.Prelude.{◌&&◌, ◌||◌, nat_lt}
use Rattle.std.proofs.lemmas.Bool.Decides.{eqb_tells}
use Rattle.bv_dag.specs.BitVectors.{BitVector, bit, bvadd, bvand, bvneg, bvor, bvsub, bvult, sign_extend, zero_extend}
use Rattle.bv_dag.specs.Nodes.{extend}
use Rattle.term_trees.specs.Trees.{IsOfWidth}
use Rattle.term_simplify.specs.Intervals.{interval_word}
use Rattle.term_simplify.proofs.EqualityNumbers.{mod_once}
use Rattle.term_simplify.proofs.OperationNumbers.{not_number}
use Rattle.term_simplify.proofs.Words.{by_parts, le_tells, lt_tells, tests_below, tests_not_below}

-- ---- three tests in place of one
from_low : (m y x low : ℕ) → (m < y → low ≤ x) → (low ≤ x → m < y) → not (nat_lt x low) ≡ nat_lt m y
from_low m y x low f g =
    elim (lt_tells m y) [
      | inl a ↦ rw (a.0, tests_not_below x low (f a.1)) refl
      | inr a ↦ elim (lt_tells x low) [
        | inl b ↦ rw (a.0, b.0) refl
        | inr b ↦ absurd (omega (arith, g b.1, a.1))
      ]
    ]

both_ends : (m y x low high : ℕ) → (m < y → low ≤ x) → (m < y → x < high) → (low ≤ x → x < high → m < y) →
    (not (nat_lt x low) && nat_lt x high) ≡ nat_lt m y
both_ends m y x low high f g h =
    elim (lt_tells m y) [
      | inl a ↦ rw (a.0, tests_not_below x low (f a.1), tests_below x high (g a.1)) refl
      | inr a ↦ elim (lt_tells x low) [
        | inl b ↦ rw (a.0, b.0) refl
        | inr b ↦ elim (lt_tells x high) [
          | inl d ↦ absurd (omega (arith, h b.1 d.1, a.1))
          | inr d ↦ rw (a.0, b.0, d.0) refl
        ]
      ]
    ]

either_end : (m y x low high : ℕ) → (m < y → high ≤ x → low ≤ x) → (low ≤ x → m < y) → (x < high → m < y) →
    (not (nat_lt x low) || nat_lt x high) ≡ nat_lt m y
either_end m y x low high f g h =
    elim (lt_tells x low) [
      | inl a ↦ elim (lt_tells x high) [
        | inl b ↦ rw (a.0, b.0, tests_below m y (h b.1)) refl
        | inr b ↦ elim (lt_tells m y) [
          | inl d ↦ absurd (omega (arith, f d.1 b.1, a.1))
          | inr d ↦ rw (a.0, b.0, d.0) refl
        ]
      ]
      | inr a ↦ rw (a.0, tests_below m y (g a.1)) refl
    ]

-- ---- the sum of x and n, below y
module _ (b x n y : ℕ) (p : x < b) (q : n < b) (r : y < b) (some : 0 < y) where
  -- the sum, the least value and the number after the last one are cut at most once
  record Cut (m low high : ℕ) : Type 0 where
    sum : ((x + n < b) × (m ≡ x + n)) ⊎ ((b ≤ x + n) × (m + b ≡ x + n))
    least : ((b - n < b) × (low ≡ b - n)) ⊎ ((b ≤ b - n) × (low + b ≡ b - n))
    after : ((y + (b - n) < b) × (high ≡ y + (b - n))) ⊎ ((b ≤ y + (b - n)) × (high + b ≡ y + (b - n)))

  is_cut : Cut ((x + n) % b) ((b - n) % b) ((y + (b - n)) % b)
  is_cut = record {
    sum = mod_once (x + n) b (omega (arith, p, q));
    least = mod_once (b - n) b (omega (arith, p));
    after = mod_once (y + (b - n)) b (omega (arith, r));
  }

  module _ (m low high : ℕ) (cut : Cut m low high) where
    to_zero : high ≡ 0 → not (nat_lt x low) ≡ nat_lt m y
    to_zero z =
        elim cut.sum [
          | inl s ↦ elim cut.least [
            | inl t ↦ elim cut.after [
              | inl u ↦ from_low m y x low (λ a. omega (arith, a, z, s, t, u, p, q, r, some)) (λ a. omega (arith, a, z, s, t, u, p, q, r, some))
              | inr u ↦ from_low m y x low (λ a. omega (arith, a, z, s, t, u, p, q, r, some)) (λ a. omega (arith, a, z, s, t, u, p, q, r, some))
            ]
            | inr t ↦ elim cut.after [
              | inl u ↦ from_low m y x low (λ a. omega (arith, a, z, s, t, u, p, q, r, some)) (λ a. omega (arith, a, z, s, t, u, p, q, r, some))
              | inr u ↦ from_low m y x low (λ a. omega (arith, a, z, s, t, u, p, q, r, some)) (λ a. omega (arith, a, z, s, t, u, p, q, r, some))
            ]
          ]
          | inr s ↦ elim cut.least [
            | inl t ↦ elim cut.after [
              | inl u ↦ from_low m y x low (λ a. omega (arith, a, z, s, t, u, p, q, r, some)) (λ a. omega (arith, a, z, s, t, u, p, q, r, some))
              | inr u ↦ from_low m y x low (λ a. omega (arith, a, z, s, t, u, p, q, r, some)) (λ a. omega (arith, a, z, s, t, u, p, q, r, some))
            ]
            | inr t ↦ elim cut.after [
              | inl u ↦ from_low m y x low (λ a. omega (arith, a, z, s, t, u, p, q, r, some)) (λ a. omega (arith, a, z, s, t, u, p, q, r, some))
              | inr u ↦ from_low m y x low (λ a. omega (arith, a, z, s, t, u, p, q, r, some)) (λ a. omega (arith, a, z, s, t, u, p, q, r, some))
            ]
          ]
        ]

    in_turn : low < high → (not (nat_lt x low) && nat_lt x high) ≡ nat_lt m y
    in_turn z =
        elim cut.sum [
          | inl s ↦ elim cut.least [
            | inl t ↦ elim cut.after [
              | inl u ↦ both_ends m y x low high (λ a. omega (arith, a, z, s, t, u, p, q, r, some)) (λ a. omega (arith, a, z, s, t, u, p, q, r, some)) (λ a d. omega (arith, a, d, z, s, t, u, p, q, r, some))
              | inr u ↦ both_ends m y x low high (λ a. omega (arith, a, z, s, t, u, p, q, r, some)) (λ a. omega (arith, a, z, s, t, u, p, q, r, some)) (λ a d. omega (arith, a, d, z, s, t, u, p, q, r, some))
            ]
            | inr t ↦ elim cut.after [
              | inl u ↦ both_ends m y x low high (λ a. omega (arith, a, z, s, t, u, p, q, r, some)) (λ a. omega (arith, a, z, s, t, u, p, q, r, some)) (λ a d. omega (arith, a, d, z, s, t, u, p, q, r, some))
              | inr u ↦ both_ends m y x low high (λ a. omega (arith, a, z, s, t, u, p, q, r, some)) (λ a. omega (arith, a, z, s, t, u, p, q, r, some)) (λ a d. omega (arith, a, d, z, s, t, u, p, q, r, some))
            ]
          ]
          | inr s ↦ elim cut.least [
            | inl t ↦ elim cut.after [
              | inl u ↦ both_ends m y x low high (λ a. omega (arith, a, z, s, t, u, p, q, r, some)) (λ a. omega (arith, a, z, s, t, u, p, q, r, some)) (λ a d. omega (arith, a, d, z, s, t, u, p, q, r, some))
              | inr u ↦ both_ends m y x low high (λ a. omega (arith, a, z, s, t, u, p, q, r, some)) (λ a. omega (arith, a, z, s, t, u, p, q, r, some)) (λ a d. omega (arith, a, d, z, s, t, u, p, q, r, some))
            ]
            | inr t ↦ elim cut.after [
              | inl u ↦ both_ends m y x low high (λ a. omega (arith, a, z, s, t, u, p, q, r, some)) (λ a. omega (arith, a, z, s, t, u, p, q, r, some)) (λ a d. omega (arith, a, d, z, s, t, u, p, q, r, some))
              | inr u ↦ both_ends m y x low high (λ a. omega (arith, a, z, s, t, u, p, q, r, some)) (λ a. omega (arith, a, z, s, t, u, p, q, r, some)) (λ a d. omega (arith, a, d, z, s, t, u, p, q, r, some))
            ]
          ]
        ]

    around : high ≤ low → (high ≡ 0 → ⊥) → (not (nat_lt x low) || nat_lt x high) ≡ nat_lt m y
    around z k =
        elim cut.sum [
          | inl s ↦ elim cut.least [
            | inl t ↦ elim cut.after [
              | inl u ↦ either_end m y x low high (λ a d. omega (arith, a, d, z, s, t, u, p, q, r, some)) (λ a. omega (arith, a, z, s, t, u, p, q, r, some)) (λ a. omega (arith, a, z, s, t, u, p, q, r, some))
              | inr u ↦ either_end m y x low high (λ a d. omega (arith, a, d, z, s, t, u, p, q, r, some)) (λ a. omega (arith, a, z, s, t, u, p, q, r, some)) (λ a. omega (arith, a, z, s, t, u, p, q, r, some))
            ]
            | inr t ↦ elim cut.after [
              | inl u ↦ either_end m y x low high (λ a d. omega (arith, a, d, z, s, t, u, p, q, r, some)) (λ a. omega (arith, a, z, s, t, u, p, q, r, some)) (λ a. omega (arith, a, z, s, t, u, p, q, r, some))
              | inr u ↦ either_end m y x low high (λ a d. omega (arith, a, d, z, s, t, u, p, q, r, some)) (λ a. omega (arith, a, z, s, t, u, p, q, r, some)) (λ a. omega (arith, a, z, s, t, u, p, q, r, some))
            ]
          ]
          | inr s ↦ elim cut.least [
            | inl t ↦ elim cut.after [
              | inl u ↦ either_end m y x low high (λ a d. omega (arith, a, d, z, s, t, u, p, q, r, some)) (λ a. omega (arith, a, z, s, t, u, p, q, r, some)) (λ a. omega (arith, a, z, s, t, u, p, q, r, some))
              | inr u ↦ either_end m y x low high (λ a d. omega (arith, a, d, z, s, t, u, p, q, r, some)) (λ a. omega (arith, a, z, s, t, u, p, q, r, some)) (λ a. omega (arith, a, z, s, t, u, p, q, r, some))
            ]
            | inr t ↦ elim cut.after [
              | inl u ↦ either_end m y x low high (λ a d. omega (arith, a, d, z, s, t, u, p, q, r, some)) (λ a. omega (arith, a, z, s, t, u, p, q, r, some)) (λ a. omega (arith, a, z, s, t, u, p, q, r, some))
              | inr u ↦ either_end m y x low high (λ a d. omega (arith, a, d, z, s, t, u, p, q, r, some)) (λ a. omega (arith, a, z, s, t, u, p, q, r, some)) (λ a. omega (arith, a, z, s, t, u, p, q, r, some))
            ]
          ]
        ]

-- ---- bits
and_bits : (a b : Bool) → bvand (bit a) (bit b) ≡ bit (a && b)
unfolding bvand
and_bits true true = refl
and_bits true false = refl
and_bits false true = refl
and_bits false false = refl

or_bits : (a b : Bool) → bvor (bit a) (bit b) ≡ bit (a || b)
unfolding bvor
or_bits true true = refl
or_bits true false = refl
or_bits false true = refl
or_bits false false = refl

-- whether x is in an interval, as one bit
pub interval_bit : (x low high : BitVector) → interval_word x low high ≡
    bit (cond (high.number == 0) (not (nat_lt x.number low.number)) (cond (nat_lt low.number high.number)
    (not (nat_lt x.number low.number) && nat_lt x.number high.number) (not (nat_lt x.number low.number) || nat_lt x.number high.number)))
unfolding bvult
interval_bit x low high =
    elim (eqb_tells high.number 0) [
      | inl z ↦ rw z.0 (not_number (nat_lt x.number low.number))
      | inr z ↦ rw (z.0, not_number (nat_lt x.number low.number)) (elim (lt_tells low.number high.number) [
        | inl k ↦ rw k.0 (and_bits (not (nat_lt x.number low.number)) (nat_lt x.number high.number))
        | inr k ↦ rw k.0 (or_bits (not (nat_lt x.number low.number)) (nat_lt x.number high.number))
      ])
    ]

pub sum_below : (w : ℕ) (x n y : BitVector) → IsOfWidth w x → IsOfWidth w n → IsOfWidth w y → (y.number ≡ 0 → ⊥) →
    interval_word x (bvneg n) (bvsub y n) ≡ bvult (bvadd x n) y
unfolding bvneg bvsub bvadd bvult
sum_below w x n y p q r other =
    let some : 0 < y.number = elim (lt_tells 0 y.number) [ inl k ↦ k.1 | inr k ↦ absurd (other (omega (arith, k.1))) ] in
    let cut = is_cut (2 ^ w) x.number n.number y.number p.in_range q.in_range r.in_range some in
    interval_bit x (bvneg n) (bvsub y n) ∙ rw (p.width, q.width, r.width) (
    elim (eqb_tells ((y.number + (2 ^ w - n.number)) % 2 ^ w) 0) [
      | inl z ↦ rw z.0 (ap bit (to_zero (2 ^ w) x.number n.number y.number p.in_range q.in_range r.in_range some _ _ _ cut z.1))
      | inr z ↦ rw z.0 (elim (lt_tells ((2 ^ w - n.number) % 2 ^ w) ((y.number + (2 ^ w - n.number)) % 2 ^ w)) [
        | inl k ↦ rw k.0 (ap bit (in_turn (2 ^ w) x.number n.number y.number p.in_range q.in_range r.in_range some _ _ _ cut k.1))
        | inr k ↦ rw k.0 (ap bit (around (2 ^ w) x.number n.number y.number p.in_range q.in_range r.in_range some _ _ _ cut k.1 z.1))
      ])
    ])

-- ---- two widened numbers, one below the other
pub same_below : (a b c d : ℕ) → (a < b → c < d) → (c < d → a < b) → nat_lt a b ≡ nat_lt c d
same_below a b c d f g =
    elim (lt_tells a b) [
      | inl e ↦ e.0 ∙ sym (tests_below c d (f e.1))
      | inr e ↦ elim (lt_tells c d) [
        | inl h ↦ absurd (omega (arith, g h.1, e.1))
        | inr h ↦ e.0 ∙ sym h.0
      ]
    ]

module _ (w by a b : ℕ) (p : a < 2 ^ w) (q : b < 2 ^ w) where
  pub widened_below : (signed : Bool) → nat_lt a b ≡
      nat_lt (extend signed by (record { width = w; number = a })).number (extend signed by (record { width = w; number = b })).number
  unfolding sign_extend zero_extend
  widened_below false = refl
  widened_below true =
      elim (le_tells (2 ^ (w - 1)) a) [
        | inl s ↦ elim (le_tells (2 ^ (w - 1)) b) [
          | inl t ↦ rw (s.0, t.0) (same_below _ _ _ _ (λ e. omega (arith, e)) (λ e. omega (arith, e)))
          | inr t ↦ rw (s.0, t.0) (same_below _ _ _ _ (λ e. omega (arith, e, s.1, t.1)) (λ e. omega (arith, e, s.1, t.1)))
        ]
        | inr s ↦ elim (le_tells (2 ^ (w - 1)) b) [
          | inl t ↦ rw (s.0, t.0) (same_below _ _ _ _ (λ e. omega (arith, e, s.1, t.1)) (λ e. omega (arith, e, s.1, t.1)))
          | inr t ↦ rw (s.0, t.0) (same_below _ _ _ _ (λ e. omega (arith, e)) (λ e. omega (arith, e)))
        ]
      ]

pub below_widened : (w by : ℕ) (signed : Bool) (x m n : BitVector) → IsOfWidth w x → IsOfWidth w m → (extend signed by m).number ≡ n.number →
    bvult x m ≡ bvult (extend signed by x) n
unfolding bvult
below_widened w by signed x m n p q e =
    let own : x ≡ record { width = w; number = x.number } = by_parts w x.number x p.width refl in
    let other : m ≡ record { width = w; number = m.number } = by_parts w m.number m q.width refl in
    ap bit (widened_below w by x.number m.number p.in_range q.in_range signed
    ∙ ap (λ (v : BitVector). nat_lt (extend signed by v).number (extend signed by (record { width = w; number = m.number })).number) (sym own)
    ∙ ap (λ (v : BitVector). nat_lt (extend signed by x).number (extend signed by v).number) (sym other)
    ∙ ap (nat_lt (extend signed by x).number) e)
