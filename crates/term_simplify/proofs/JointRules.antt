-- Two terms without a bit in common, the one above the other, are worth their sum, and so are they joined by or or xor.
use Rattle.std.proofs.Common.{◌≡◌, ◌∙◌, ℕ, ◌+◌, ◌-◌, ◌*◌, ◌%◌, ◌^◌, ◌<◌, ◌≤◌, true, false, List, refl, ap, sym, arith, bit_and}
use Rattle.std.specs.Prelude.{nat_le, ◌&&◌}
use Rattle.std.specs.Int.Bits.{and_shifted, xor_disjoint}
use Rattle.std.specs.List.{All}
use Rattle.std.proofs.Math.Nat.{mod-eq_of_lt}
use Rattle.std.proofs.lemmas.Bool.{and_parts}
use Rattle.std.proofs.lemmas.Nat.{and_comm, or_disjoint}
use Rattle.bv_dag.specs.BitVectors.{BitVector, bvadd, bvor, bvxor, concat, zero_extend}
use Rattle.bv_dag.specs.Nodes.{binary}
use Rattle.bv_dag.specs.declared.nodes.BinaryOp.{BinaryOp}
use Rattle.bv_dag.specs.declared.nodes.BinaryOp.TheVariants.{Add, Sub, Mul, Udiv, Urem, And, Or, Xor, Shl, Lshr, Ashr}
use Rattle.bv_dag.proofs.Numbers.{wider}
use Rattle.term_trees.specs.Trees.{Tree, Constant, Joined, Two, Widened, tree_width, tree_value, IsTerm, IsOfWidth}
use Rattle.term_trees.proofs.Ranges.{in_range}
use Rattle.term_simplify.specs.Joints.{joint_by, joint_of, joins}
use Rattle.term_simplify.specs.Narrowing.{is_zero}
use Rattle.term_simplify.specs.Plain.{further, joined_of, tree_number}
use Rattle.term_simplify.proofs.ExtensionRules.{value-further, value-joined_of}
use Rattle.term_simplify.proofs.PartTerms.{term-further, width-further}
use Rattle.term_simplify.proofs.Words.{by_parts, is_at_most, is_number, value_by_test}

-- no bit is in both, and the sum has no carry
record AreApart (w : ℕ) (x y : BitVector) : Type 0 where
  apart : bit_and x.number y.number ≡ 0
  below : x.number + y.number < 2 ^ w

other_way : (w : ℕ) (x y : BitVector) → AreApart w x y → AreApart w y x
other_way w x y p = record { apart = and_comm y.number x.number ∙ p.apart; below = omega (arith, p.below) }

-- what they are worth together
together : (op : BinaryOp) (w : ℕ) (x y : BitVector) → joins op ≡ true → x.width ≡ w → AreApart w x y →
    binary op x y ≡ record { width = w; number = x.number + y.number }
unfolding bvadd bvor bvxor
together Add w x y h e p = by_parts w _ _ e (ap (λ k. (x.number + y.number) % 2 ^ k) e ∙ mod-eq_of_lt p.below)
together Or w x y h e p = by_parts w _ _ e (or_disjoint x.number y.number p.apart)
together Xor w x y h e p = by_parts w _ _ e (xor_disjoint x.number y.number p.apart)
together Sub w x y h e p = cc
together Mul w x y h e p = cc
together Udiv w x y h e p = cc
together Urem w x y h e p = cc
together And w x y h e p = cc
together Shl w x y h e p = cc
together Lshr w x y h e p = cc
together Ashr w x y h e p = cc

-- ---- a bit-vector above zeros, and one of no more bits than these
module _ (u z v : BitVector) (none : z.number ≡ 0) (few : v.width ≤ z.width) (small : v.number < 2 ^ v.width) where
  number_above : u.number * 2 ^ z.width + z.number ≡ u.number * 2 ^ z.width
  number_above = omega (arith, none)

  within : v.number < 2 ^ z.width
  within = omega (arith, small, wider v.width z.width few)

  no_common : bit_and (u.number * 2 ^ z.width + z.number) v.number ≡ 0
  no_common = ap (λ n. bit_and n v.number) number_above ∙ and_shifted u.number z.width v.number within

  stacked : concat u (zero_extend (z.width - v.width) v) ≡ record { width = u.width + z.width; number = u.number * 2 ^ z.width + z.number + v.number }
  unfolding concat zero_extend
  stacked =
      let wide : v.width + (z.width - v.width) ≡ z.width = omega (arith, few) in
      by_parts _ _ _ (ap (λ k. u.width + k) wide)
      (ap (λ k. u.number * 2 ^ k + v.number) wide ∙ ap (λ n. n + v.number) (sym number_above))

-- a number that is 0
pub is_0 : (input : List ℕ) (z : Tree) → is_zero (tree_number z) ≡ true → (tree_value input z).number ≡ 0
is_0 input (Constant w n) h = is_number n 0 h
is_0 input z h = cc

-- ---- trees
module _ (inputs : ℕ) (input : List ℕ) (bytes : All (λ b. b < 256) input) where
  module _ (u z v : Tree) (by : ℕ) (upper : IsTerm inputs (Joined u z)) (wide : IsTerm inputs (Widened by false v))
      (zeros : is_zero (tree_number z) ≡ true) (few : tree_width v ≤ tree_width z) where
    above : IsOfWidth (tree_width u) (tree_value input u)
    above = in_range inputs input bytes u upper.0

    below : IsOfWidth (tree_width z) (tree_value input z)
    below = in_range inputs input bytes z upper.1

    low : IsOfWidth (tree_width v) (tree_value input v)
    low = in_range inputs input bytes v wide.0

    abbrev pub filled : Tree
    filled = further (tree_width z - tree_width v) false v

    as_wide : tree_width filled ≡ tree_width z
    as_wide = width-further (tree_width z - tree_width v) false v ∙ omega (arith, few)

    stacked_term : IsTerm inputs (Joined u filled)
    stacked_term = (
      upper.0,
      term-further inputs (tree_width z - tree_width v) false v wide.0 (omega (arith, few, upper.2)),
      omega (arith, as_wide, upper.2),
    )

    narrower : (tree_value input v).width ≤ (tree_value input z).width
    narrower = omega (arith, few, below.width, low.width)

    small : (tree_value input v).number < 2 ^ (tree_value input v).width
    small = rw low.width low.in_range

    sum_of_both : tree_value input (Joined u filled)
        ≡ record { width = tree_width u + tree_width z; number = (tree_value input (Joined u z)).number + (tree_value input (Widened by false v)).number }
    unfolding concat zero_extend
    sum_of_both =
        let widths : tree_width z - tree_width v ≡ (tree_value input z).width - (tree_value input v).width = omega (arith, below.width, low.width) in
        ap (concat (tree_value input u)) (value-further inputs input (tree_width z - tree_width v) false v bytes wide.0 (omega (arith, few, upper.2))
        ∙ ap (λ k. zero_extend k (tree_value input v)) widths)
        ∙ stacked (tree_value input u) (tree_value input z) (tree_value input v) (is_0 input z zeros) narrower small
        ∙ by_parts _ _ _ (omega (arith, above.width, below.width)) refl

    are_apart : AreApart (tree_width u + tree_width z) (tree_value input (Joined u z)) (tree_value input (Widened by false v))
    unfolding concat zero_extend
    are_apart = record {
      apart = no_common (tree_value input u) (tree_value input z) (tree_value input v) (is_0 input z zeros) narrower small;
      below = omega (
        arith,
        (in_range inputs input bytes (Joined u filled) stacked_term).in_range,
        ap (λ (x : BitVector). x.number) sum_of_both,
        ap (λ k. 2 ^ (tree_width u + k)) as_wide,
      );
    }

  -- what is worth the sum of two terms that have no bit in common, is worth their joint
  value-joint_by : (s t otherwise : Tree) (word : BitVector) → IsTerm inputs s → IsTerm inputs t → tree_value input otherwise ≡ word →
      (AreApart (tree_width s) (tree_value input s) (tree_value input t) →
      record { width = tree_width s; number = (tree_value input s).number + (tree_value input t).number } ≡ word) →
      tree_value input (joint_by s t otherwise) ≡ word
  value-joint_by (Joined u z) (Widened by false v) otherwise word upper wide plain sum =
      value_by_test input (is_zero (tree_number z) && nat_le (tree_width v) (tree_width z))
      (joined_of u (further (tree_width z - tree_width v) false v)) otherwise word
      (λ h.
      let (zeros, few) = and_parts (is_zero (tree_number z)) (nat_le (tree_width v) (tree_width z)) h in
      let fits : tree_width v ≤ tree_width z = is_at_most _ _ few in
      value-joined_of inputs input u (further (tree_width z - tree_width v) false v) bytes (stacked_term u z v by upper wide zeros fits)
      ∙ sum_of_both u z v by upper wide zeros fits ∙ sum (are_apart u z v by upper wide zeros fits))
      (λ _. plain)
  value-joint_by s t otherwise word upper wide plain sum = plain

  pub value-joint_of : (op : BinaryOp) (s t : Tree) → IsTerm inputs (Two op s t) → tree_value input (joint_of op s t (Two op s t)) ≡ tree_value input (Two op s t)
  unfolding joint_of
  value-joint_of op s t term =
      let first = in_range inputs input bytes s term.0 in
      let x = tree_value input s in
      let y = tree_value input t in
      value_by_test input (joins op) (joint_by s t (joint_by t s (Two op s t))) (Two op s t) (tree_value input (Two op s t))
      (λ h. value-joint_by s t (joint_by t s (Two op s t)) (tree_value input (Two op s t)) term.0 term.1
      (value-joint_by t s (Two op s t) (tree_value input (Two op s t)) term.1 term.0 refl
      (λ p. by_parts (tree_width t) (x.number + y.number) (record { width = tree_width t; number = y.number + x.number }) refl (omega arith)
      ∙ sym (together op (tree_width t) x y h (first.width ∙ term.2) (other_way (tree_width t) y x p))))
      (λ p. sym (together op (tree_width s) x y h first.width p)))
      (λ _. refl)
