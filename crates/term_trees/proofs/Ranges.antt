-- The value of a term is a bit-vector of its width.
use Rattle.std.proofs.Common.{◌≡◌, ℕ, ◌+◌, ◌-◌, ◌/◌, ◌%◌, ◌^◌, ◌<◌, ◌≤◌, Bool, true, false, cond, List, get_or, length, nat_lt, ◌==◌, inl, inr, refl, ap, arith}
use Rattle.std.proofs.lemmas.Grind.{common_steps}
use Rattle.std.proofs.lemmas.Bool.{cases_lt}
use Rattle.std.proofs.lemmas.Bool.Decides.{eqb_tells}
use Rattle.std.proofs.lemmas.List.{get_or_past}
use Rattle.std.specs.Int.Bits.{and_lt}
use Rattle.std.proofs.Math.Nat.{div-le_self}
use Rattle.std.proofs.lemmas.Nat.{pow-add, pow_pos, or_lt, xor_lt, mul-add-lt}
use Rattle.std.specs.List.{All}
use Rattle.bv_dag.specs.BitVectors.{BitVector, bvnot, bvneg, bvadd, bvsub, bvmul, bvudiv, bvurem, bvand, bvor, bvxor, bvshl, bvlshr, bvashr, bvult, bvslt, equal, ite, extract, zero_extend, sign_extend, concat, is_negative, bit}
use Rattle.bv_dag.specs.Nodes.{binary, compare, extend}
use Rattle.bv_dag.specs.declared.nodes.BinaryOp.{BinaryOp}
use Rattle.bv_dag.specs.declared.nodes.BinaryOp.TheVariants.{Add, Sub, Mul, Udiv, Urem, And, Or, Xor, Shl, Lshr, Ashr}
use Rattle.bv_dag.specs.declared.nodes.Comparison.{Comparison}
use Rattle.bv_dag.specs.declared.nodes.Comparison.TheVariants.{Ult, Slt, Eq}
use Rattle.bv_dag.proofs.Numbers.{wider}
use Rattle.term_trees.specs.Trees.{Tree, Constant, Byte, Complement, Negated, Two, Test, Choice, Part, Widened, Joined, tree_width, tree_value, IsTerm, IsOfWidth}

number_below : (w : ℕ) (s v : BitVector) → IsOfWidth w s → v.width ≡ w → v.number < 2 ^ w → IsOfWidth w v
number_below w s v p e h = record { width = e; not_empty = p.not_empty; at_most_64 = p.at_most_64; in_range = h }

below_mod : (n w : ℕ) → n % 2 ^ w < 2 ^ w
below_mod n w = omega (arith, pow_pos w)

cut : (w m : ℕ) (n : ℕ) → m ≡ w → n % 2 ^ m < 2 ^ w
cut w m n e = rw e (below_mod n w)

quotient_below : (n d b : ℕ) → n < b → 0 < d → n / d < b
quotient_below n d b h pos = grind (arith, common_steps, div-le_self)

shifted : (n k b : ℕ) → n < b → n / 2 ^ k < b
shifted n k b h = quotient_below n (2 ^ k) b h (pow_pos k)

ones_below : (w : ℕ) → 2 ^ w - 1 < 2 ^ w
ones_below w = omega (arith, pow_pos w)

of_udiv : (w : ℕ) (s t : BitVector) → IsOfWidth w s → IsOfWidth w (bvudiv s t)
unfolding bvudiv
of_udiv w s t p =
    number_below w s _ p p.width
    (elim (eqb_tells t.number 0) [
      | inl e ↦ rw (e.0, p.width) (ones_below w)
      | inr e ↦ rw e.0 (quotient_below s.number t.number (2 ^ w) p.in_range (omega (arith, e.1)))
    ])

of_urem : (w : ℕ) (s t : BitVector) → IsOfWidth w s → IsOfWidth w t → IsOfWidth w (bvurem s t)
unfolding bvurem
of_urem w s t p q =
    number_below w s _ p p.width
    (elim (eqb_tells t.number 0) [
      | inl e ↦ rw e.0 p.in_range
      | inr e ↦
          let some : 0 < t.number = omega (arith, e.1) in
          rw e.0 (omega (arith, q.in_range, some))
    ])

of_not : (w : ℕ) (s : BitVector) → IsOfWidth w s → IsOfWidth w (bvnot s)
unfolding bvnot
of_not w s p = number_below w s _ p p.width (rw p.width (omega (arith, pow_pos w)))

of_lshr : (w : ℕ) (s t : BitVector) → IsOfWidth w s → IsOfWidth w (bvlshr s t)
unfolding bvlshr
of_lshr w s t p =
    number_below w s _ p p.width
    (elim (nat_lt t.number s.width) as (λ b. cond b (s.number / 2 ^ t.number) 0 < 2 ^ w) [ true ↦ shifted s.number t.number (2 ^ w) p.in_range | false ↦ pow_pos w ])

of_ashr : (w : ℕ) (s t : BitVector) → IsOfWidth w s → IsOfWidth w (bvashr s t)
unfolding bvashr
of_ashr w s t p =
    elim (is_negative s) as (λ b. IsOfWidth w (cond b (bvnot (bvlshr (bvnot s) t)) (bvlshr s t))) [
      | true ↦ of_not w _ (of_lshr w (bvnot s) t (of_not w s p))
      | false ↦ of_lshr w s t p
    ]

of_binary : (op : BinaryOp) (w : ℕ) (s t : BitVector) → IsOfWidth w s → IsOfWidth w t → IsOfWidth w (binary op s t)
unfolding bvadd bvsub bvmul bvand bvor bvxor bvshl
of_binary Add w s t p q = number_below w s _ p p.width (cut w s.width _ p.width)
of_binary Sub w s t p q = number_below w s _ p p.width (cut w s.width _ p.width)
of_binary Mul w s t p q = number_below w s _ p p.width (cut w s.width _ p.width)
of_binary Udiv w s t p q = of_udiv w s t p
of_binary Urem w s t p q = of_urem w s t p q
of_binary And w s t p q = number_below w s _ p p.width (and_lt w s.number t.number p.in_range q.in_range)
of_binary Or w s t p q = number_below w s _ p p.width (or_lt w s.number t.number p.in_range q.in_range)
of_binary Xor w s t p q = number_below w s _ p p.width (xor_lt w s.number t.number p.in_range q.in_range)
of_binary Shl w s t p q = number_below w s _ p p.width (cut w s.width _ p.width)
of_binary Lshr w s t p q = of_lshr w s t p
of_binary Ashr w s t p q = of_ashr w s t p

of_bit : (b : Bool) → IsOfWidth 1 (bit b)
of_bit true = record { width = refl; not_empty = omega arith; at_most_64 = omega arith; in_range = omega arith }
of_bit false = record { width = refl; not_empty = omega arith; at_most_64 = omega arith; in_range = omega arith }

of_compare : (op : Comparison) (s t : BitVector) → IsOfWidth 1 (compare op s t)
unfolding bvult bvslt equal
of_compare Ult s t = of_bit _
of_compare Slt s t = of_bit _
of_compare Eq s t = of_bit _

of_ite : (w : ℕ) (c s t : BitVector) → IsOfWidth w s → IsOfWidth w t → IsOfWidth w (ite c s t)
unfolding ite
of_ite w c s t p q =
    number_below w s _ p p.width (elim (c.number == 1) as (λ b. cond b s.number t.number < 2 ^ w) [ true ↦ p.in_range | false ↦ q.in_range ])

of_extend : (signed : Bool) (by w : ℕ) (s : BitVector) → IsOfWidth w s → w + by ≤ 64 → IsOfWidth (w + by) (extend signed by s)
unfolding zero_extend sign_extend
of_extend true by w s p h = record {
  width = ap (λ k. k + by) p.width;
  not_empty = omega (arith, p.not_empty);
  at_most_64 = h;
  in_range =
      elim (is_negative s) as (λ b. cond b (s.number + (2 ^ (s.width + by) - 2 ^ s.width)) s.number < 2 ^ (w + by)) [
        | true ↦ rw p.width (omega (arith, p.in_range, wider w (w + by) (omega arith)))
        | false ↦ omega (arith, p.in_range, wider w (w + by) (omega arith))
      ];
}
of_extend false by w s p h = record { width = ap (λ k. k + by) p.width; not_empty = omega (arith, p.not_empty); at_most_64 = h; in_range = omega (arith, p.in_range, wider w (w + by) (omega arith)) }

of_concat : (v w : ℕ) (s t : BitVector) → IsOfWidth v s → IsOfWidth w t → v + w ≤ 64 → IsOfWidth (v + w) (concat s t)
unfolding concat
of_concat v w s t p q h = record {
  width = cc (p.width, q.width);
  not_empty = omega (arith, p.not_empty);
  at_most_64 = h;
  in_range =
      rw q.width (omega (arith, mul-add-lt s.number (2 ^ w) t.number (2 ^ v) p.in_range q.in_range, pow-add 2 v w));
}

byte_below : (input : List ℕ) (i : ℕ) → All (λ b. b < 256) input → get_or input i 0 < 2 ^ 8
byte_below input i bytes =
    elim (cases_lt i (length input)) [
      | inl there ↦ bytes i 0 there
      | inr past ↦ omega (arith, get_or_past input i 0 past)
    ]

-- a term is worth a bit-vector of its width
pub in_range : (inputs : ℕ) (input : List ℕ) → All (λ b. b < 256) input → (t : Tree) → IsTerm inputs t → IsOfWidth (tree_width t) (tree_value input t)
unfolding bvneg extract
in_range inputs input bytes (Constant w v) term = record { width = refl; not_empty = term.not_empty; at_most_64 = term.at_most_64; in_range = term.in_range }
in_range inputs input bytes (Byte i) term = record { width = refl; not_empty = omega arith; at_most_64 = omega arith; in_range = byte_below input i bytes }
in_range inputs input bytes (Complement t) term = of_not _ _ (in_range inputs input bytes t term)
in_range inputs input bytes (Negated t) term =
    let p = in_range inputs input bytes t term in number_below (tree_width t) (tree_value input t) (bvneg (tree_value input t)) p p.width (cut _ _ _ p.width)
in_range inputs input bytes (Two op s t) term = of_binary op (tree_width s) _ _ (in_range inputs input bytes s term.0) (rw term.2 (in_range inputs input bytes t term.1))
in_range inputs input bytes (Test op s t) term = of_compare op _ _
in_range inputs input bytes (Choice c s t) term = of_ite (tree_width s) _ _ _ (in_range inputs input bytes s term.1) (rw term.4 (in_range inputs input bytes t term.2))
in_range inputs input bytes (Part high low t) term =
    let p = in_range inputs input bytes t term.0 in
    record { width = refl; not_empty = omega arith; at_most_64 = omega (arith, p.at_most_64, term.1, term.2); in_range = below_mod _ (high - low + 1) }
in_range inputs input bytes (Widened by signed t) term = of_extend signed by (tree_width t) _ (in_range inputs input bytes t term.0) term.2
in_range inputs input bytes (Joined s t) term = of_concat (tree_width s) (tree_width t) _ _ (in_range inputs input bytes s term.0) (in_range inputs input bytes t term.1) term.2
