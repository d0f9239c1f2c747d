-- What sums and differences of three numbers come to, modulo a power of two.
use Rattle.std.proofs.Common.{◌≡◌, ◌∙◌, ℕ, ◌+◌, ◌-◌, ◌%◌, ◌^◌, ◌<◌, Bool, true, false, ap, sym, arith, inl, inr}
use Rattle.std.proofs.Math.Nat.{add-mod_right, add-mod-mod, mod-add-mod, mod-eq_of_lt}
use Rattle.bv_dag.specs.BitVectors.{BitVector, bvadd, bvneg, bvnot, bvsub}
use Rattle.term_trees.specs.Trees.{IsOfWidth}
use Rattle.term_simplify.specs.Offsets.{offset_word}
use Rattle.term_simplify.proofs.EqualityNumbers.{mod_once}

first_two : (a b c : ℕ) → a + b + c ≡ a + (b + c)
first_two a b c = omega arith

outer_two : (a b c : ℕ) → a + b + c ≡ a + c + b
outer_two a b c = omega arith

plus_once : (b x c y : ℕ) → ((x + c) % b + y) % b ≡ (x + (c + y) % b) % b
plus_once b x c y = mod-add-mod (x + c) b y ∙ ap (λ k. k % b) (first_two x c y) ∙ sym (add-mod-mod x (c + y) b)

taken_once : (b x c y : ℕ) → ((c + x) % b + y) % b ≡ ((c + y) % b + x) % b
taken_once b x c y = mod-add-mod (c + x) b y ∙ ap (λ k. k % b) (outer_two c x y) ∙ sym (mod-add-mod (c + y) b x)

-- what is one whole more is the same
one_more : (b m n : ℕ) → n ≡ m + b → m % b ≡ n % b
one_more b m n e = sym (ap (λ k. k % b) e ∙ add-mod_right m b)

from_sum : (b x t c : ℕ) → t < b → c < b → (x + (b - (t + c) % b)) % b ≡ ((x + (b - c)) % b + (b - t)) % b
from_sum b x t c p q =
    elim (mod_once (t + c) b (omega (arith, p, q))) [
      | inl s ↦ ap (λ k. (x + (b - k)) % b) s.1
          ∙ one_more b (x + (b - (t + c))) (x + (b - c) + (b - t)) (omega (arith, p, q, s.0)) ∙ sym (mod-add-mod (x + (b - c)) b (b - t))
      | inr s ↦ ap (λ k. k % b) (omega (arith, p, q, s.0, s.1)) ∙ sym (mod-add-mod (x + (b - c)) b (b - t))
    ]

from_difference : (b x t c : ℕ) → t < b → c < b → (x + (b - (c + (b - t)) % b)) % b ≡ (t + (x + (b - c)) % b) % b
from_difference b x t c p q =
    elim (mod_once (c + (b - t)) b (omega (arith, p, q))) [
      | inl s ↦ ap (λ k. (x + (b - k)) % b) s.1
          ∙ one_more b (x + (b - (c + (b - t)))) (t + (x + (b - c))) (omega (arith, p, q, s.0)) ∙ sym (add-mod-mod t (x + (b - c)) b)
      | inr s ↦ ap (λ k. k % b) (omega (arith, p, q, s.0, s.1)) ∙ sym (add-mod-mod t (x + (b - c)) b)
    ]

-- the complement is -1 less the number
ones_less : (b x : ℕ) → x < b → b - 1 - x ≡ (b - 1 + (b - x)) % b
ones_less b x p = sym (mod-eq_of_lt (omega (arith, p))) ∙ one_more b (b - 1 - x) (b - 1 + (b - x)) (omega (arith, p))

-- to take a negative off is to add
less_negative : (b x y : ℕ) → y < b → (x + y) % b ≡ (x + (b - (b - y) % b)) % b
less_negative b x y q =
    elim (mod_once (b - y) b (omega (arith, q))) [
      | inl s ↦ ap (λ k. k % b) (omega (arith, q, s.0, s.1))
      | inr s ↦ one_more b (x + y) (x + (b - (b - y) % b)) (omega (arith, q, s.0, s.1))
    ]

-- ---- bit-vectors of one width
module _ (w : ℕ) (x y c : BitVector) (p : IsOfWidth w x) (q : IsOfWidth w y) (r : IsOfWidth w c) where
  pub plus_word : (taken : Bool) → bvadd (offset_word taken x c) y ≡ offset_word taken x (bvadd c y)
  unfolding bvadd bvsub
  plus_word false = rw (p.width, r.width) (ap (λ k. record { width = w; number = k }) (plus_once (2 ^ w) x.number c.number y.number))
  plus_word true = rw (p.width, r.width) (ap (λ k. record { width = w; number = k }) (taken_once (2 ^ w) (2 ^ w - x.number) c.number y.number))

  pub less_word : (taken : Bool) → bvsub (offset_word taken x c) y ≡ offset_word taken x (bvsub c y)
  unfolding bvadd bvsub
  less_word false = rw (p.width, q.width, r.width) (ap (λ k. record { width = w; number = k }) (plus_once (2 ^ w) x.number c.number (2 ^ w - y.number)))
  less_word true = rw (p.width, q.width, r.width) (ap (λ k. record { width = w; number = k }) (taken_once (2 ^ w) (2 ^ w - x.number) c.number (2 ^ w - y.number)))

  -- y less what x and c come to
  pub from_added : bvsub y (bvadd x c) ≡ offset_word true x (bvsub y c)
  unfolding bvadd bvsub
  from_added = rw (p.width, q.width, r.width) (ap (λ k. record { width = w; number = k }) (from_sum (2 ^ w) y.number x.number c.number p.in_range r.in_range))

  pub from_taken : bvsub y (bvsub c x) ≡ offset_word false x (bvsub y c)
  unfolding bvadd bvsub
  from_taken = rw (p.width, q.width, r.width) (ap (λ k. record { width = w; number = k }) (from_difference (2 ^ w) y.number x.number c.number p.in_range r.in_range))

module _ (w : ℕ) (x y : BitVector) (p : IsOfWidth w x) (q : IsOfWidth w y) where
  pub complement_word : y.number ≡ 2 ^ w - 1 → bvnot x ≡ bvsub y x
  unfolding bvnot bvsub
  complement_word e = rw (p.width, q.width, e) (ap (λ k. record { width = w; number = k }) (ones_less (2 ^ w) x.number p.in_range))

  pub add_negative : bvsub x y ≡ bvadd x (bvneg y)
  unfolding bvadd bvneg bvsub
  add_negative = rw (p.width, q.width) (ap (λ k. record { width = w; number = k }) (sym (add-mod-mod x.number (2 ^ w - y.number) (2 ^ w))))

  pub sub_negative : bvadd x y ≡ bvsub x (bvneg y)
  unfolding bvadd bvneg bvsub
  sub_negative = rw (p.width, q.width) (ap (λ k. record { width = w; number = k }) (less_negative (2 ^ w) x.number y.number q.in_range))

  pub add_comm : bvadd x y ≡ bvadd y x
  unfolding bvadd
  add_comm = rw (p.width, q.width) (ap (λ k. record { width = w; number = k % 2 ^ w }) (both_ways x.number y.number))
    where
      both_ways : (a b : ℕ) → a + b ≡ b + a
      both_ways a b = omega arith
