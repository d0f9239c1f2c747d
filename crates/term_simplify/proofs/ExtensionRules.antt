-- An extension is worth what it was before it was simplified, and so are two terms that are joined.
use Rattle.std.proofs.Common.{◌≡◌, ◌==◌, ℕ, ◌+◌, ◌-◌, ◌*◌, ◌^◌, ◌<◌, ◌≤◌, Bool, true, false, cond, List, Some, None, refl, ap, sym, ◌∙◌, arith, inl, inr}
use Rattle.std.specs.Prelude.{Option, nat_le}
use Rattle.std.proofs.lemmas.Bool.Decides.{eqb_tells}
use Rattle.std.specs.List.{All}
use Rattle.std.proofs.lemmas.Nat.{div-mul-add, pow-add}
use Rattle.bv_dag.specs.BitVectors.{BitVector, zero_extend, sign_extend, concat, is_negative}
use Rattle.bv_dag.specs.Nodes.{extend}
use Rattle.bv_dag.proofs.Numbers.{wider}
use Rattle.term_trees.specs.Trees.{Tree, Constant, Widened, Joined, tree_width, tree_value, IsTerm, IsOfWidth}
use Rattle.term_trees.proofs.Ranges.{in_range}
use Rattle.term_simplify.specs.Plain.{tree_number, extension_by, further, join_of, joined_by, joined_of}
use Rattle.term_simplify.proofs.JoinTerms.{term-join_of, width-join_of}
use Rattle.term_simplify.proofs.Words.{by_parts, value_by_test, number_value, number_width, is_number, is_at_most, le_tells, not_at_most}
use Rattle.term_simplify.proofs.TestRules.{not_negative}
use Rattle.term_simplify.proofs.Uppers.{ones_over, sign_up}

-- the top bit is 1 from the half on
negative : (v : BitVector) (n : ℕ) → n ≡ v.width → 2 ^ (n - 1) ≤ v.number → is_negative v ≡ true
negative v n e h =
    elim (is_negative v) as (λ b. (is_negative v ≡ b → b ≡ true)) [
      | true ↦ λ f. refl
      | false ↦ λ f. let half : 2 ^ (n - 1) ≡ 2 ^ (v.width - 1) = ap (λ k. 2 ^ (k - 1)) e in absurd
          (omega (arith, not_at_most _ _ f, half, h))
    ] refl

sum_further : (w i b : ℕ) → w + (i + b) ≡ w + i + b
sum_further w i b = omega arith

-- ---- by zeros, and then either way
pub zeros_again : (w i b : ℕ) (v : BitVector) →
    record { width = v.width + (i + b); number = v.number } ≡ zero_extend b (zero_extend i v)
unfolding zero_extend
zeros_again w i b v = by_parts (v.width + i + b) v.number _ (sum_further v.width i b) refl

pub zeros_signed : (w i b : ℕ) (v : BitVector) → IsOfWidth w v → 1 ≤ i →
    record { width = v.width + (i + b); number = v.number } ≡ sign_extend b (zero_extend i v)
unfolding zero_extend sign_extend
zeros_signed w i b v p some =
    let small : v.number < 2 ^ (w + i - 1) = omega (arith, p.in_range, wider w (w + i - 1) (omega (arith, some))) in
    let plain : is_negative (record { width = v.width + i; number = v.number }) ≡ false = not_negative (w + i) (record { width = v.width + i; number = v.number }) (ap (λ k. k + i) p.width) small in
    rw plain (by_parts (v.width + i + b) v.number _ (sum_further v.width i b) refl)

-- ---- by the sign, and again
filled_half : (w i n : ℕ) → 0 < w → 2 ^ (w - 1) ≤ n → 2 ^ (w + i - 1) ≤ n + (2 ^ (w + i) - 2 ^ w)
filled_half w i n some h =
    let a : 2 ^ w ≡ 2 * 2 ^ (w - 1) = ap (λ k. 2 ^ k) (omega arith) ∙ pow-add 2 1 (w - 1) in
    let b : 2 ^ (w + i) ≡ 2 * 2 ^ (w + i - 1) = ap (λ k. 2 ^ k) (omega arith) ∙ pow-add 2 1 (w + i - 1) in
    let c : 2 ^ (w - 1) ≤ 2 ^ (w + i - 1) = wider (w - 1) (w + i - 1) (omega arith) in
    omega (arith, a, b, c, h)

filled_twice : (w i b n : ℕ) →
    n + (2 ^ (w + (i + b)) - 2 ^ w) ≡ n + (2 ^ (w + i) - 2 ^ w) + (2 ^ (w + i + b) - 2 ^ (w + i))
filled_twice w i b n =
    let e : 2 ^ (w + (i + b)) ≡ 2 ^ (w + i + b) = ap (λ k. 2 ^ k) (sum_further w i b) in
    omega (arith, e, wider w (w + i) (omega arith), wider (w + i) (w + i + b) (omega arith))

pub signs_again : (w i b : ℕ) (v : BitVector) → IsOfWidth w v →
    sign_extend (i + b) v ≡ sign_extend b (sign_extend i v)
unfolding sign_extend
signs_again w i b v p =
    elim (is_negative v) as (λ k. (is_negative v ≡ k →
    record {
      width = v.width + (i + b);
      number = cond k
          (v.number + (2 ^ (v.width + (i + b)) - 2 ^ v.width)) v.number;
    } ≡ sign_extend b
    (record {
      width = v.width + i;
      number = cond k (v.number +
          (2 ^ (v.width + i) - 2 ^ v.width)) v.number;
    }))) [
      | true ↦ λ e.
          let half : 2 ^ (v.width - 1) ≤ v.number = is_at_most _ _ e in
          rw (negative (record {
            width = v.width + i;
            number = v.number +
                (2 ^ (v.width + i) - 2 ^ v.width);
          }) (v.width + i) refl
          (filled_half v.width i v.number (omega (arith, p.width, p.not_empty)) half))
          (by_parts (v.width + i + b) _ _ (sum_further v.width i b) (filled_twice v.width i b v.number))
      | false ↦ λ e.
          let small : v.number < 2 ^ (v.width + i - 1) = omega (arith, not_at_most _ _ e, wider (v.width - 1) (v.width + i - 1) (omega arith)) in
          rw (not_negative (v.width + i) (record { width = v.width + i; number = v.number }) refl
          small) (by_parts (v.width + i + b) v.number _ (sum_further v.width i b) refl)
    ] refl

pub value-extension_by : (inputs : ℕ) (input : List ℕ) (by : ℕ) (signed : Bool) (t : Tree) →
    All (λ b. b < 256) input → IsTerm inputs (Widened by signed t) →
    tree_value input (extension_by by signed t) ≡ tree_value input (Widened by signed t)
unfolding extension_by zero_extend
value-extension_by inputs input by signed (Constant w v) bytes term = refl
value-extension_by inputs input by false (Widened inner false t) bytes term = zeros_again
    (tree_width t) inner by (tree_value input t)
value-extension_by inputs input by true (Widened inner false t) bytes term = zeros_signed
    (tree_width t) inner by (tree_value input t) (in_range inputs input bytes t term.0.0) term.0.1
value-extension_by inputs input by true (Widened inner true t) bytes term = signs_again
    (tree_width t) inner by (tree_value input t) (in_range inputs input bytes t term.0.0)
value-extension_by inputs input by false (Widened inner true t) bytes term = refl
value-extension_by inputs input by signed t bytes term = refl

-- ---- by any number of bits
pub extend_again : (signed : Bool) (w i b : ℕ) (v : BitVector) → IsOfWidth w v →
    extend signed (i + b) v ≡ extend signed b (extend signed i v)
unfolding zero_extend
extend_again true w i b v p = signs_again w i b v p
extend_again false w i b v p = zeros_again w i b v

extend_none : (signed : Bool) (v : BitVector) → v ≡ extend signed 0 v
unfolding zero_extend sign_extend
extend_none false v = by_parts (v.width + 0) v.number v (omega arith) refl
extend_none true v =
    let e : 2 ^ (v.width + 0) ≡ 2 ^ v.width = ap (λ k. 2 ^ k) (omega arith) in
    elim (is_negative v) as (λ b. v ≡ record { width = v.width + 0; number = cond b (v.number + (2 ^ (v.width + 0) - 2 ^ v.width)) v.number }) [
      | true ↦ by_parts (v.width + 0) (v.number + (2 ^ (v.width + 0) - 2 ^ v.width)) v (omega arith) (omega (arith, e))
      | false ↦ by_parts (v.width + 0) v.number v (omega arith) refl
    ]

pub value-further : (inputs : ℕ) (input : List ℕ) (by : ℕ) (signed : Bool) (t : Tree) →
    All (λ b. b < 256) input → IsTerm inputs t → tree_width t + by ≤ 64 →
    tree_value input (further by signed t) ≡ extend signed by (tree_value input t)
value-further inputs input by signed t bytes term fits =
    elim (eqb_tells by 0) [
      | inl e ↦ rw e.0 (extend_none signed (tree_value input t) ∙ ap (λ k. extend signed k (tree_value input t)) (sym e.1))
      | inr e ↦
          let some : 1 ≤ by = elim (le_tells 1 by) [ inl p ↦ p.1 | inr p ↦ absurd (e.1 (omega (arith, p.1))) ] in
          rw e.0 (value-extension_by inputs input by signed t bytes (term, some, fits))
    ]

-- ---- a number above a term
nothing_above : (k m : ℕ) → 0 * k + m ≡ m
nothing_above k m = omega arith

zero_joined : (x y : BitVector) → x.number ≡ 0 →
    record { width = y.width + x.width; number = y.number } ≡ concat x y
unfolding concat
zero_joined x y e = by_parts (x.width + y.width) _ _ (omega arith)
    (sym (ap (λ k. k * 2 ^ y.width + y.number) e ∙ nothing_above (2 ^ y.width) y.number))

value-joined_by : (inputs : ℕ) (input : List ℕ) (x y : Option BitVector) (s t : Tree) →
    All (λ b. b < 256) input → IsTerm inputs (Joined s t) → tree_number s ≡ x →
    tree_number t ≡ y → tree_value input (joined_by x y s t) ≡ tree_value input (Joined s t)
unfolding zero_extend
value-joined_by inputs input (Some x) (Some y) s t bytes term e f = sym (cc (number_value input s x e, number_value input t y f))
value-joined_by inputs input (Some x) None s t bytes term e f =
    let wide : x.width ≡ tree_width s = number_width s x e in
    let some : 0 < tree_width s = (in_range inputs input bytes s term.0).not_empty in
    value_by_test input (x.number == 0) (extension_by x.width false t) (Joined s t) _
    (λ h. value-extension_by inputs input x.width false t bytes (term.1, omega (arith, wide, some), omega (arith, wide, term.2))
    ∙ zero_joined x (tree_value input t) (is_number _ _ h) ∙ ap
    (λ (v : BitVector). concat v (tree_value input t)) (sym (number_value input s x e)))
    (λ _. refl)
value-joined_by inputs input None y s t bytes term e f = refl

value-join_of : (inputs : ℕ) (input : List ℕ) (s t : Tree) → All (λ b. b < 256) input →
    IsTerm inputs (Joined s t) → tree_value input (join_of s t) ≡ tree_value input (Joined s t)
value-join_of inputs input s t bytes term = value-joined_by inputs input _ _ s t bytes term refl refl

-- zeros above both are zeros above the first
zeros_first : (by : ℕ) (x y : BitVector) → zero_extend by (concat x y) ≡ concat (zero_extend by x) y
unfolding zero_extend concat
zeros_first by x y = by_parts (x.width + by + y.width) (x.number * 2 ^ y.width + y.number) _ (omega arith) refl

-- copies of the sign of both are copies of that of the first, which has the top bit
ones_first : (n m k a b : ℕ) → n * b + m + k * (a * b) ≡ (n + k * a) * b + m
ones_first n m k a b = omega arith

signs_filled : (by w v n m : ℕ) →
    n * 2 ^ v + m + (2 ^ (w + v + by) - 2 ^ (w + v)) ≡ (n + (2 ^ (w + by) - 2 ^ w)) * 2 ^ v + m
signs_filled by w v n m =
    ap (λ k. n * 2 ^ v + m + k) (ones_over (w + v) by ∙ ap (λ k. (2 ^ by - 1) * k) (pow-add 2 w v))
    ∙ ones_first n m (2 ^ by - 1) (2 ^ w) (2 ^ v) ∙ ap (λ k. (n + k) * 2 ^ v + m) (sym (ones_over w by))

sign_joined : (w v : ℕ) (x y : BitVector) → IsOfWidth w x → IsOfWidth v y → is_negative (concat x y) ≡ is_negative x
unfolding concat
sign_joined w v x y p q =
    let small : y.number < 2 ^ y.width = rw q.width q.in_range in
    let top : x.width + y.width - 1 ≡ x.width - 1 + y.width = omega (arith, p.width, p.not_empty) in
    ap (λ k. nat_le (2 ^ k) (x.number * 2 ^ y.width + y.number)) top
    ∙ sym (sign_up (x.width - 1) y.width (x.number * 2 ^ y.width + y.number))
    ∙ ap (nat_le (2 ^ (x.width - 1))) (div-mul-add x.number (2 ^ y.width) y.number small)

signs_first : (by w v : ℕ) (x y : BitVector) → IsOfWidth w x → IsOfWidth v y →
    sign_extend by (concat x y) ≡ concat (sign_extend by x) y
unfolding sign_extend concat
signs_first by w v x y p q =
    let wide : x.width + y.width + by ≡ x.width + by + y.width = omega arith in
    rw (sign_joined w v x y p q)
    (elim (is_negative x) as (λ b. record {
      width = x.width + y.width + by;
      number = cond b (x.number * 2 ^ y.width + y.number + (2 ^ (x.width + y.width + by) - 2 ^ (x.width + y.width))) (x.number * 2 ^ y.width + y.number);
    } ≡ concat (record { width = x.width + by; number = cond b (x.number + (2 ^ (x.width + by) - 2 ^ x.width)) x.number }) y) [
      | true ↦ by_parts _ _ _ wide (signs_filled by x.width y.width x.number y.number)
      | false ↦ by_parts _ _ _ wide refl
    ])

bits_first : (by w v : ℕ) (signed : Bool) (x y : BitVector) → IsOfWidth w x → IsOfWidth v y →
    extend signed by (concat x y) ≡ concat (extend signed by x) y
bits_first by w v true x y p q = signs_first by w v x y p q
bits_first by w v false x y p q = zeros_first by x y

pub value-joined_of : (inputs : ℕ) (input : List ℕ) (s t : Tree) → All (λ b. b < 256) input →
    IsTerm inputs (Joined s t) → tree_value input (joined_of s t) ≡ tree_value input (Joined s t)
unfolding joined_of
value-joined_of inputs input (Widened by signed s) t bytes term =
    let join : IsTerm inputs (Joined s t) = (term.0.0, term.1, omega (arith, term.2)) in
    value-extension_by inputs input by signed (join_of s t) bytes
    (term-join_of inputs s t join, term.0.1, omega (arith, width-join_of s t, term.2))
    ∙ ap (extend signed by) (value-join_of inputs input s t bytes join)
    ∙ bits_first by (tree_width s) (tree_width t) signed (tree_value input s) (tree_value input t)
    (in_range inputs input bytes s term.0.0) (in_range inputs input bytes t term.1)
value-joined_of inputs input s t bytes term = value-join_of inputs input s t bytes term
