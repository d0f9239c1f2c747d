-- What the terms of an instruction are worth, as numbers.
use Rattle.std.proofs.Common.{◌≡◌, ℕ, ◌+◌, ◌-◌, ◌*◌, ◌/◌, ◌%◌, ◌^◌, ◌<◌, ◌≤◌, Bool, true, false, refl, ap, sym, ◌∙◌, arith, inl, inr}
use Rattle.std.specs.Prelude.{not, ◌&&◌, ◌||◌, nat_le, nat_lt, if◌then◌else◌}
use Rattle.std.proofs.lemmas.Nat.{and_mask}
use Rattle.bv_dag.specs.BitVectors.{BitVector, bit, bvnot, bvadd, bvsub, bvmul, bvudiv, bvurem, bvand, bvor, bvxor, bvshl, bvlshr, bvashr, bvult, bvslt, equal, extract, concat, zero_extend, sign_extend}
use Rattle.bv_dag.specs.Nodes.{compare, extend}
use Rattle.bv_dag.specs.declared.nodes.BinaryOp.TheVariants.{Shl, Lshr, Ashr}
use Rattle.bv_dag.specs.declared.nodes.Comparison.{Comparison}
use Rattle.bv_dag.specs.declared.nodes.Comparison.TheVariants.{Ult, Slt, Eq}
use Rattle.rv_decode.specs.Fields.{sign_extended}
use Rattle.rv_decode.specs.declared.ops.RegisterOp.TheVariants.{Add, Sub, Sll, Xor, Srl, Sra, Or, And, Mul, Divu, Remu}
use Rattle.rv_spec.specs.Arithmetic.{combined, one_where, difference32, is_negative_word, is_less_signed, shifted_left, shifted_right, shifted_right_signed, quotient, remainder}
use Rattle.rv_spec.specs.Machine.{even}
use Rattle.term_trees.specs.Trees.{IsOfWidth}
use Rattle.term_simplify.specs.Operations.{widened}
use Rattle.term_simplify.specs.Steps.{compares, shift_word}
use Rattle.term_simplify.proofs.MachineNumbers.{word32}
use Rattle.term_simplify.proofs.Words.{by_parts, lt_tells, le_tells, tests_below, tests_not_below}

-- ---- ADD, SUB, XOR, OR, AND, MUL, DIVU, REMU
pub add_number : (x y : BitVector) → x.width ≡ 32 → y.width ≡ 32 →
    bvadd x y ≡ record { width = 32; number = combined Add x.number y.number }
unfolding bvadd
add_number x y e f = rw e refl

pub sub_number : (x y : BitVector) → x.width ≡ 32 → y.width ≡ 32 →
    bvsub x y ≡ record { width = 32; number = combined Sub x.number y.number }
unfolding bvsub difference32
sub_number x y e f = rw (e, f) refl

pub xor_number : (x y : BitVector) → x.width ≡ 32 → y.width ≡ 32 →
    bvxor x y ≡ record { width = 32; number = combined Xor x.number y.number }
unfolding bvxor
xor_number x y e f = rw e refl

pub or_number : (x y : BitVector) → x.width ≡ 32 → y.width ≡ 32 →
    bvor x y ≡ record { width = 32; number = combined Or x.number y.number }
unfolding bvor
or_number x y e f = rw e refl

pub and_number : (x y : BitVector) → x.width ≡ 32 → y.width ≡ 32 →
    bvand x y ≡ record { width = 32; number = combined And x.number y.number }
unfolding bvand
and_number x y e f = rw e refl

pub mul_number : (x y : BitVector) → x.width ≡ 32 → y.width ≡ 32 →
    bvmul x y ≡ record { width = 32; number = combined Mul x.number y.number }
unfolding bvmul
mul_number x y e f = rw e refl

pub divu_number : (x y : BitVector) → x.width ≡ 32 → y.width ≡ 32 →
    bvudiv x y ≡ record { width = 32; number = combined Divu x.number y.number }
unfolding bvudiv quotient
divu_number x y e f = rw e refl

pub remu_number : (x y : BitVector) → x.width ≡ 32 → y.width ≡ 32 →
    bvurem x y ≡ record { width = 32; number = combined Remu x.number y.number }
unfolding bvurem remainder
remu_number x y e f = rw e refl

-- ---- SLL, SRL, SRA
-- the low five bits
five_bits : (y : BitVector) →
    bvand y (word32 31) ≡ record { width = y.width; number = y.number % 32 }
unfolding bvand
five_bits y = ap {B = BitVector} (λ n. record { width = y.width; number = n }) (and_mask y.number 5)

within : (n : ℕ) → nat_lt (n % 32) 32 ≡ true
within n = tests_below (n % 32) 32 (omega arith)

pub left_number : (x y : BitVector) → x.width ≡ 32 → y.width ≡ 32 →
    shift_word Shl x y ≡ record { width = 32; number = combined Sll x.number y.number }
unfolding bvshl shifted_left
left_number x y e f = rw (five_bits y, e, within y.number) refl

pub right_number : (x y : BitVector) → x.width ≡ 32 → y.width ≡ 32 →
    shift_word Lshr x y ≡ record { width = 32; number = combined Srl x.number y.number }
unfolding bvlshr shifted_right
right_number x y e f = rw (five_bits y, e, within y.number) refl

pub right_signed_number : (x y : BitVector) → x.width ≡ 32 → y.width ≡ 32 →
    shift_word Ashr x y ≡ record { width = 32; number = combined Sra x.number y.number }
unfolding bvashr bvlshr bvnot shifted_right_signed is_negative_word
right_signed_number x y e f =
    elim (le_tells (2 ^ 31) x.number) [
      | inl p ↦ rw (five_bits y, e, p.0, within y.number) refl
      | inr p ↦ rw (five_bits y, e, p.0, within y.number) refl
    ]

-- ---- comparisons
same_order : (a b c d : ℕ) → (a < b → c < d) → (b ≤ a → d ≤ c) → nat_lt a b ≡ nat_lt c d
same_order a b c d below not_below =
    elim (lt_tells a b) [
      | inl p ↦ p.0 ∙ sym (tests_below c d (below p.1))
      | inr p ↦ p.0 ∙ sym (tests_not_below c d (not_below p.1))
    ]

-- the sign turned over
turned : ℕ → ℕ
turned n = (n + 2 ^ 31) % 2 ^ 32

turned_negative : (n : ℕ) → n < 2 ^ 32 → 2 ^ 31 ≤ n → turned n ≡ n - 2 ^ 31
unfolding turned
turned_negative n h above = omega (arith, h, above)

turned_other : (n : ℕ) → n < 2 ^ 31 → turned n ≡ n + 2 ^ 31
unfolding turned
turned_other n below = omega (arith, below)

-- the signed order is that of the numbers with their signs turned over
signed_order : (a b : ℕ) → a < 2 ^ 32 → b < 2 ^ 32 →
    (if nat_le (2 ^ 31) a then not (nat_le (2 ^ 31) b) || nat_lt a b
    else not (nat_le (2 ^ 31) b) && nat_lt a b) ≡ nat_lt (turned a) (turned b)
signed_order a b p q =
    elim (le_tells (2 ^ 31) a) [
      | inl s ↦
          let first = turned_negative a p s.1 in
          elim (le_tells (2 ^ 31) b) [
            | inl t ↦
                let second = turned_negative b q t.1 in
                rw (s.0, t.0) (same_order a b (turned a) (turned b)
                (λ h. omega (arith, h, first, second, s.1, t.1))
                (λ h. omega (arith, h, first, second, s.1, t.1)))
            | inr t ↦
                let second = turned_other b t.1 in
                rw (s.0, t.0)
                (sym (tests_below (turned a) (turned b) (omega (arith, p, first, second))))
          ]
      | inr s ↦
          let first = turned_other a s.1 in
          elim (le_tells (2 ^ 31) b) [
            | inl t ↦
                let second = turned_negative b q t.1 in
                rw (s.0, t.0)
                (sym (tests_not_below (turned a) (turned b) (omega (arith, q, first, second))))
            | inr t ↦
                let second = turned_other b t.1 in
                rw (s.0, t.0) (same_order a b (turned a) (turned b)
                (λ h. omega (arith, h, first, second)) (λ h. omega (arith, h, first, second)))
          ]
    ]

slt_number : (x y : BitVector) → IsOfWidth 32 x → IsOfWidth 32 y →
    bvslt x y ≡ bit (is_less_signed x.number y.number)
unfolding bvslt is_less_signed turned
slt_number x y p q =
    rw (p.width, q.width) (ap bit (signed_order x.number y.number p.in_range q.in_range))

pub compare_number : (op : Comparison) (x y : BitVector) → IsOfWidth 32 x → IsOfWidth 32 y →
    compare op x y ≡ bit (compares op x.number y.number)
unfolding bvult equal
compare_number Ult x y p q = refl
compare_number Slt x y p q = slt_number x y p q
compare_number Eq x y p q = refl

pub not_number : (b : Bool) → bvnot (bit b) ≡ bit (not b)
unfolding bvnot
not_number true = refl
not_number false = refl

pub set_number : (b : Bool) →
    extend false 31 (bit b) ≡ record { width = 32; number = one_where b }
unfolding zero_extend
set_number b = refl

-- ---- bytes and half words
all_bits : (bits : ℕ) → bits < 32 → bits + (32 - bits) ≡ 32
all_bits bits h = omega (arith, h)

pub widened_number : (bits : ℕ) (signed : Bool) (x : BitVector) → bits < 32 → x.width ≡ bits →
    extend signed (32 - bits) x ≡ record { width = 32; number = widened signed bits x.number }
unfolding zero_extend sign_extend sign_extended
widened_number bits false x h e = rw (e, all_bits bits h) refl
widened_number bits true x h e =
    elim (le_tells (2 ^ (bits - 1)) x.number) [
      | inl p ↦ rw (e, all_bits bits h, p.0, tests_not_below x.number (2 ^ (bits - 1)) p.1) refl
      | inr p ↦ rw (e, all_bits bits h, p.0, tests_below x.number (2 ^ (bits - 1)) p.1) refl
    ]

pub half_width : {m n : ℕ} → m ≡ 8 → n ≡ 8 → m + n ≡ 16
half_width e f = omega (arith, e, f)

pub half_number : (low high : BitVector) → low.width ≡ 8 → high.width ≡ 8 →
    concat high low ≡ record { width = 16; number = low.number + 2 ^ 8 * high.number }
unfolding concat
half_number low high e f = by_parts _ _ _ (half_width f e) (rw e (omega arith))

joined_halves : (low high : ℕ) →
    concat (record { width = 16; number = high }) (record { width = 16; number = low }) ≡ record
    { width = 32; number = low + 2 ^ 16 * high }
unfolding concat
joined_halves low high = ap word32 (omega arith)

pub word_number : (b0 b1 b2 b3 : BitVector) → b0.width ≡ 8 → b1.width ≡ 8 → b2.width ≡ 8 →
    b3.width ≡ 8 →
    concat (concat b3 b2) (concat b1 b0) ≡ record
    { width = 32; number = b0.number + 2 ^ 8 * b1.number + 2 ^ 16 * b2.number + 2 ^ 24 * b3.number }
word_number b0 b1 b2 b3 e0 e1 e2 e3 =
    rw (half_number b0 b1 e0 e1, half_number b2 b3 e2 e3)
    (joined_halves (b0.number + 2 ^ 8 * b1.number) (b2.number + 2 ^ 8 * b3.number)
    ∙ ap word32 (omega arith))

pub byte_width : (low : ℕ) → low + 7 - low + 1 ≡ 8
byte_width low = omega arith

pub byte_number : (at : ℕ) (x : BitVector) →
    extract (8 * at + 7) (8 * at) x ≡ record { width = 8; number = x.number / 2 ^ (8 * at) % 2 ^ 8 }
unfolding extract
byte_number at x = rw (byte_width (8 * at)) refl

pub even_number : (x : BitVector) → IsOfWidth 32 x →
    concat (extract 31 1 x) (record { width = 1; number = 0 }) ≡ record
    { width = 32; number = even x.number }
unfolding concat extract
even_number x p = ap word32 (omega (arith, p.in_range))
