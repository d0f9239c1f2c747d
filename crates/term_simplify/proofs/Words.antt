-- Bit-vectors by their parts, and what a tree is worth that is a number or is by a test.
use Rattle.std.proofs.Common.{◌≡◌, ◌==◌, ◌⊎◌, ℕ, ◌%◌, ◌^◌, ◌<◌, ◌≤◌, Bool, true, false, cond, List, Some, refl, ap, sym, ◌∙◌, arith, inl, inr}
use Rattle.std.specs.Prelude.{nat_le, nat_lt}
use Rattle.std.proofs.Math.Nat.{mod-eq_of_lt}
use Rattle.std.proofs.lemmas.Bool.Decides.{eqb_tells}
use Rattle.std.proofs.lemmas.Grind.{common_steps}
use Rattle.bv_dag.specs.BitVectors.{BitVector}
use Rattle.bv_dag.proofs.Numbers.{wider}
use Rattle.term_trees.specs.Trees.{Tree, Constant, tree_width, tree_value, IsOfWidth}
use Rattle.term_simplify.specs.Plain.{tree_number}

-- a bit-vector by its two parts
pub by_parts : (w n : ℕ) (x : BitVector) → x.width ≡ w → x.number ≡ n →
    x ≡ record { width = w; number = n }
by_parts w n x e f = ap {B = BitVector} (λ k. record { width = k; number = x.number }) e ∙ ap
    {B = BitVector} (λ k. record { width = w; number = k }) f

-- a number's own width and another number
pub by_number : (x : BitVector) (n : ℕ) → x.number ≡ n → x ≡ record { width = x.width; number = n }
by_number x n e = by_parts x.width n x refl e

-- a number that is a remainder
pub by_cut : (w : ℕ) (x : BitVector) (n : ℕ) → IsOfWidth w x → n ≡ x.number →
    x ≡ record { width = w; number = n % 2 ^ w }
by_cut w x n p e = by_parts w (n % 2 ^ w) x p.width (sym (ap (λ k. k % 2 ^ w) e ∙ mod-eq_of_lt p.in_range))

-- the same at the bit-vector's own width
pub own_cut : (w : ℕ) (x : BitVector) (n : ℕ) → IsOfWidth w x → n ≡ x.number →
    x ≡ record { width = x.width; number = n % 2 ^ x.width }
own_cut w x n p e = by_number x (n % 2 ^ x.width) (sym (ap (λ k. k % 2 ^ x.width) e ∙ mod-eq_of_lt (rw p.width p.in_range)))

-- the value of a tree that is a number
pub number_value : (input : List ℕ) (t : Tree) (x : BitVector) → tree_number t ≡ Some x →
    tree_value input t ≡ x
number_value input (Constant w v) x e = cc
number_value input t x e = cc

-- a number is as wide as its tree
pub number_width : (t : Tree) (x : BitVector) → tree_number t ≡ Some x → x.width ≡ tree_width t
number_width (Constant w v) x e = let same : record { width = w; number = v } ≡ x = cc in ap (λ (y : BitVector). y.width) (sym same)
number_width t x e = cc

-- what a tree is worth that is one of two by a test
pub value_by_test : (input : List ℕ) (b : Bool) (s t : Tree) (v : BitVector) →
    (b ≡ true → tree_value input s ≡ v) → (b ≡ false → tree_value input t ≡ v) →
    tree_value input (cond b s t) ≡ v
value_by_test input true s t v f g = f refl
value_by_test input false s t v f g = g refl

pub is_number : (a b : ℕ) → (a == b) ≡ true → a ≡ b
is_number a b h = elim (eqb_tells a b) [ inl e ↦ e.1 | inr e ↦ let both : true ≡ false = sym h ∙ e.0 in cc ]

pub is_apart : (a b : ℕ) → (a == b) ≡ false → a ≡ b → ⊥
is_apart a b h = elim (eqb_tells a b) as (λ _. a ≡ b → ⊥) [ inl e ↦ let both : false ≡ true = sym h ∙ e.0 in cc | inr e ↦ e.1 ]

pub tests_unequal : (a b : ℕ) → (a ≡ b → ⊥) → (a == b) ≡ false
tests_unequal a b apart = elim (eqb_tells a b) [ inl e ↦ absurd (apart e.1) | inr e ↦ e.0 ]

pub tests_equal : (a b : ℕ) → a ≡ b → (a == b) ≡ true
tests_equal a b e = elim (eqb_tells a b) [ inl h ↦ h.0 | inr h ↦ absurd (h.1 e) ]

pub lt_tells : (a b : ℕ) → ((nat_lt a b ≡ true) × (a < b)) ⊎ ((nat_lt a b ≡ false) × (b ≤ a))
lt_tells a b = grind (arith, common_steps)

pub le_tells : (a b : ℕ) → ((nat_le a b ≡ true) × (a ≤ b)) ⊎ ((nat_le a b ≡ false) × (b < a))
le_tells a b = grind (arith, common_steps)

pub tests_below : (a b : ℕ) → a < b → nat_lt a b ≡ true
tests_below a b h = elim (lt_tells a b) [ inl p ↦ p.0 | inr p ↦ absurd (omega (arith, h, p.1)) ]

pub tests_not_below : (a b : ℕ) → b ≤ a → nat_lt a b ≡ false
tests_not_below a b h = elim (lt_tells a b) [ inl p ↦ absurd (omega (arith, h, p.1)) | inr p ↦ p.0 ]

pub is_at_most : (a b : ℕ) → nat_le a b ≡ true → a ≤ b
is_at_most a b h = elim (le_tells a b) [ inl p ↦ p.1 | inr p ↦ let both : true ≡ false = sym h ∙ p.0 in cc ]

pub not_at_most : (a b : ℕ) → nat_le a b ≡ false → b < a
not_at_most a b h = elim (le_tells a b) [ inl p ↦ let both : false ≡ true = sym h ∙ p.0 in cc | inr p ↦ p.1 ]

pub most_true : (a b : ℕ) → a ≤ b → nat_le a b ≡ true
most_true a b h = elim (le_tells a b) [ inl p ↦ p.0 | inr p ↦ absurd (omega (arith, h, p.1)) ]

pub most_false : (a b : ℕ) → b < a → nat_le a b ≡ false
most_false a b h = elim (le_tells a b) [ inl p ↦ absurd (omega (arith, h, p.1)) | inr p ↦ p.0 ]

-- a bit has two values
pub two_values : (w : ℕ) → 0 < w → 1 < 2 ^ w
two_values w h = omega (arith, wider 1 w h)
