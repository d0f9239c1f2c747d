-- Bits of a term are worth those bits of its value.
use Rattle.std.proofs.Common.{◌≡◌, ◌==◌, ◌&&◌, ℕ, ◌+◌, ◌-◌, ◌*◌, ◌/◌, ◌%◌, ◌^◌, ◌<◌, ◌≤◌, Bool, true, false, cond, List, Some, None, refl, ap, sym, ◌∙◌, arith, inl, inr}
use Rattle.std.specs.Prelude.{Option}
use Rattle.std.specs.List.{All}
use Rattle.std.proofs.lemmas.Bool.{true≢false}
use Rattle.std.proofs.Math.Bool.{and-false}
use Rattle.std.proofs.lemmas.Bool.Decides.{eqb_tells}
use Rattle.std.proofs.lemmas.Nat.{field_of, shr-shr, shr_high, pow-add}
use Rattle.std.proofs.Math.Nat.{mod-eq_of_lt, add-mul-mod_self_right, mul_assoc, div-one, div-eq_of_lt, zero-mod}
use Rattle.std.proofs.Math.Pow.{mod-mod-pow}
use Rattle.bv_dag.specs.BitVectors.{BitVector, extract, zero_extend, sign_extend, concat, is_negative}
use Rattle.bv_dag.specs.Nodes.{extend}
use Rattle.bv_dag.proofs.Numbers.{wider}
use Rattle.term_trees.specs.Trees.{Tree, Constant, Part, Widened, Joined, tree_width, tree_value, IsTerm, IsOfWidth}
use Rattle.term_trees.proofs.Ranges.{in_range}
use Rattle.term_simplify.specs.Plain.{tree_number, further, span_by, inner_part}
use Rattle.term_simplify.proofs.ExtensionRules.{extend_again, value-extension_by, value-further}
use Rattle.term_simplify.proofs.PartTerms.{some_bits, term-inner_part, width-inner_part}
use Rattle.term_simplify.proofs.Uppers.{above_signs, ones_over, upper_signs, upper_zeros}
use Rattle.term_simplify.proofs.Words.{by_parts, value_by_test, number_value, lt_tells, le_tells}

-- bits up to a place rest on the number cut behind that place
field_same : (high low n m : ℕ) → low ≤ high → n % 2 ^ (high + 1) ≡ m % 2 ^ (high + 1) →
    n / 2 ^ low % 2 ^ (high - low + 1) ≡ m / 2 ^ low % 2 ^ (high - low + 1)
field_same high low n m h e =
    let k : high + 1 ≡ (high - low + 1) + low = omega arith in
    let f : n % 2 ^ ((high - low + 1) + low) ≡ m % 2 ^ ((high - low + 1) + low) = ap (λ j. n % 2 ^ j) (sym k) ∙ e ∙ ap (λ j. m % 2 ^ j) k in
    sym (field_of n (high - low + 1) low) ∙ ap (λ j. j / 2 ^ low) f ∙ field_of m (high - low + 1) low

-- what stands above a place changes no bits below it
above_it : (high w n k : ℕ) → high < w → (n + k * 2 ^ w) % 2 ^ (high + 1) ≡ n % 2 ^ (high + 1)
above_it high w n k h =
    let e : w ≡ (w - (high + 1)) + (high + 1) = omega arith in
    ap (λ j. (n + k * j) % 2 ^ (high + 1)) (ap (λ j. 2 ^ j) e ∙ pow-add 2 (w - (high + 1)) (high + 1))
    ∙ ap (λ j. (n + j) % 2 ^ (high + 1)) (sym (mul_assoc k (2 ^ (w - (high + 1))) (2 ^ (high + 1))))
    ∙ add-mul-mod_self_right n (k * 2 ^ (w - (high + 1))) (2 ^ (high + 1))

whole_number : (high low w n : ℕ) → low ≡ 0 → high + 1 ≡ w → n < 2 ^ w →
    n / 2 ^ low % 2 ^ (high - low + 1) ≡ n
whole_number high low w n z e h =
    let k : high - low + 1 ≡ w = omega arith in
    rw (k, z, div-one n) (mod-eq_of_lt h)

all_bits : (high low w : ℕ) (v : BitVector) → (low == 0 && high + 1 == w) ≡ true → IsOfWidth w v →
    v ≡ extract high low v
unfolding extract
all_bits high low w v whole p =
    elim (eqb_tells low 0) [
      | inl z ↦
          elim (eqb_tells (high + 1) w) [
            | inl e ↦ by_parts (high - low + 1) _ v (omega (arith, p.width, z.1, e.1))
                (sym (whole_number high low w v.number z.1 e.1 p.in_range))
            | inr e ↦ absurd (true≢false (sym whole ∙ ap (λ b. low == 0 && b) e.0 ∙ and-false (low == 0)))
          ]
      | inr z ↦ absurd (true≢false (sym whole ∙ ap (λ b. b && high + 1 == w) z.0))
    ]

span_value : (input : List ℕ) (x : Option BitVector) (high low : ℕ) (t : Tree) →
    tree_number t ≡ x → low ≤ high → high < tree_width t →
    IsOfWidth (tree_width t) (tree_value input t) →
    tree_value input (span_by x high low t) ≡ extract high low (tree_value input t)
unfolding extract
span_value input (Some x) high low t e order within p = sym (ap (extract high low) (number_value input t x e))
span_value input None high low t e order within p =
    elim (low == 0 && high + 1 == tree_width t) as (λ b.
    ((low == 0 && high + 1 == tree_width t) ≡ b → tree_value input (cond b t (Part high low t))
    ≡ extract high low (tree_value input t))) [
      | true ↦ λ whole. all_bits high low (tree_width t) (tree_value input t) whole p
      | false ↦ λ whole. refl
    ] refl

sum_turned : (a b : ℕ) → a + b ≡ b + a
sum_turned a b = omega arith

-- the bits above a lower number
field_above : (w low m n : ℕ) → n < 2 ^ w → w ≤ low → m / 2 ^ (low - w) ≡ (m * 2 ^ w + n) / 2 ^ low
field_above w low m n h l =
    let e : low ≡ w + (low - w) = omega arith in
    sym (ap (λ k. (m * 2 ^ w + n) / 2 ^ k) e ∙ sym (shr-shr (m * 2 ^ w + n) w (low - w)) ∙ ap
    (λ k. k / 2 ^ (low - w)) (shr_high m w n h))

-- where bits of one value are bits of another
same_bits : (high low : ℕ) (v w : BitVector) → low ≤ high →
    v.number % 2 ^ (high + 1) ≡ w.number % 2 ^ (high + 1) →
    extract high low v ≡ extract high low w
unfolding extract
same_bits high low v w order e = by_parts (high - low + 1) _ (extract high low v) refl
    (field_same high low v.number w.number order e)

of_widened : (signed : Bool) (by w high low : ℕ) (v : BitVector) → IsOfWidth w v → low ≤ high →
    high < w → extract high low v ≡ extract high low (extend signed by v)
unfolding zero_extend sign_extend
of_widened false by w high low v p order h = same_bits high low v _ order refl
of_widened true by w high low v p order h =
    elim (is_negative v) as (λ b. extract high low v ≡ extract high low
    (record {
      width = v.width + by;
      number = cond b
          (v.number + (2 ^ (v.width + by) - 2 ^ v.width)) v.number;
    })) [
      | true ↦ same_bits high low v _ order (sym (ap (λ k. (v.number + k) % 2 ^ (high + 1))
          (ones_over v.width by) ∙ above_it high v.width v.number (2 ^ by - 1)
          (omega (arith, p.width))))
      | false ↦ same_bits high low v _ order refl
    ]

of_low : (v w : ℕ) (high low : ℕ) (s t : BitVector) → IsOfWidth w t → low ≤ high → high < w →
    extract high low t ≡ extract high low (concat s t)
unfolding concat
of_low v w high low s t q order h =
    same_bits high low t _ order (sym (ap (λ k. k % 2 ^ (high + 1))
    (sum_turned (s.number * 2 ^ t.width) t.number) ∙ above_it high t.width t.number s.number
    (omega (arith, q.width))))

of_high : (w : ℕ) (high low : ℕ) (s t : BitVector) → IsOfWidth w t → low ≤ high → w ≤ low →
    extract (high - w) (low - w) s ≡ extract high low (concat s t)
unfolding extract concat
of_high w high low s t q order h =
    let k : (high - w) - (low - w) ≡ high - low = omega arith in
    rw (q.width, k) (ap {B = BitVector} (λ n. record {
      width = high - low + 1;
      number = n % 2 ^
          (high - low + 1);
    }) (field_above w low s.number t.number q.in_range h))

of_part : (h l high low : ℕ) (v : BitVector) → low ≤ high → high < h - l + 1 →
    extract (high + l) (low + l) v ≡ extract high low (extract h l v)
unfolding extract
of_part h l high low v order within =
    let k : (high + l) - (low + l) ≡ high - low = omega arith in
    let e : h - l + 1 ≡ ((h - l + 1) - (high + 1)) + (high + 1) = omega arith in
    rw k (ap {B = BitVector} (λ n. record { width = high - low + 1; number = n }) (
    ap (λ n. n % 2 ^ (high - low + 1)) (ap (λ j. v.number / 2 ^ j) (omega arith) ∙ sym (shr-shr v.number l low))
    ∙ field_same high low (v.number / 2 ^ l) (v.number / 2 ^ l % 2 ^ (h - l + 1)) order
    (sym (ap (λ j. v.number / 2 ^ l % 2 ^ j % 2 ^ (high + 1)) e ∙ mod-mod-pow (v.number / 2 ^ l)
    ((h - l + 1) - (high + 1)) (high + 1)))
    ))

no_bits : (w high low n : ℕ) → n < 2 ^ w → w ≤ low → 0 ≡ n / 2 ^ low % 2 ^ (high - low + 1)
no_bits w high low n h l =
    let small : n < 2 ^ low = omega (arith, h, wider w low l) in
    sym (ap (λ k. k % 2 ^ (high - low + 1)) (div-eq_of_lt small) ∙ zero-mod (2 ^ (high - low + 1)))

module _ (inputs : ℕ) (input : List ℕ) (bytes : All (λ b. b < 256) input) (by : ℕ) (t : Tree) (high low : ℕ) where
  -- bits above a term that is widened
  over_widened : (signed : Bool) (top : Tree) → IsTerm inputs (Widened by signed t) → low ≤ high → tree_width t ≤ low →
      high < tree_width t + by → IsTerm inputs top → tree_width top ≡ 1 →
      tree_value input top ≡ extract (tree_width t - 1) (tree_width t - 1) (tree_value input t) →
      tree_value input (cond signed (further (high - low) true top) (Constant (high - low + 1) 0)) ≡
      extract high low (extend signed by (tree_value input t))
  unfolding extract zero_extend
  over_widened true top term order over within is one e =
      value-further inputs input (high - low) true top bytes is (omega (arith, one, order, within, term.2))
      ∙ ap (sign_extend (high - low)) e
      ∙ above_signs (tree_width t) by high low (tree_value input t) (in_range inputs input bytes t term.0) order over within
  over_widened false top term order over within is one e =
      ap {B = BitVector} (λ n. record { width = high - low + 1; number = n })
      (no_bits (tree_width t) high low (tree_value input t).number (in_range inputs input bytes t term.0).in_range over)

  upper_widened : (signed : Bool) (k : ℕ) → IsTerm inputs t → low < tree_width t →
      extend signed k (extract (tree_width t - 1) low (tree_value input t)) ≡ extract (tree_width t + k - 1) low (extend signed k (tree_value input t))
  upper_widened true k term across = upper_signs (tree_width t) low (tree_value input t) (in_range inputs input bytes t term) across k
  upper_widened false k term across = upper_zeros (tree_width t) low (tree_value input t) (in_range inputs input bytes t term) across k

  -- those that begin in the narrower one
  across_widened : (signed : Bool) → IsTerm inputs (Widened by signed t) → low < tree_width t → tree_width t ≤ high →
      high < tree_width t + by →
      extend signed (high + 1 - tree_width t) (extract (tree_width t - 1) low (tree_value input t)) ≡
      extract high low (extend signed by (tree_value input t))
  across_widened signed term across above within =
      let v = tree_value input t in
      let k = high + 1 - tree_width t in
      let more = by - k in
      let top : tree_width t + k - 1 ≡ high = omega (arith, above) in
      let wide : IsTerm inputs (Widened k signed t) = (term.0, omega (arith, above), omega (arith, above, within, term.2)) in
      upper_widened signed k term.0 across
      ∙ ap (λ j. extract j low (extend signed k v)) top
      ∙ of_widened signed more (tree_width t + k) high low (extend signed k v) (in_range inputs input bytes (Widened k signed t) wide)
      (omega (arith, across, above)) (omega (arith, above))
      ∙ ap (extract high low) (sym (extend_again signed (tree_width t) k more v (in_range inputs input bytes t term.0)))
      ∙ ap (λ j. extract high low (extend signed j v)) (omega (arith, above, within))

-- bits of a term are worth those bits of its value
pub value-inner_part : (inputs : ℕ) (input : List ℕ) → All (λ b. b < 256) input →
    (t : Tree) (high low : ℕ) → IsTerm inputs t → low ≤ high → high < tree_width t →
    tree_value input (inner_part high low t) ≡ extract high low (tree_value input t)
unfolding inner_part
value-inner_part inputs input bytes (Part h l t) high low term order within =
    value_by_test input (low == 0 && high + 1 == tree_width (Part h l t)) (Part h l t) (inner_part (high + l) (low + l) t) _
    (λ all. all_bits high low _ (tree_value input (Part h l t)) all (in_range inputs input bytes (Part h l t) term))
    (λ _. value-inner_part inputs input bytes t (high + l) (low + l) term.0 (omega (arith, order)) (omega (arith, term.1, term.2, within))
    ∙ of_part h l high low (tree_value input t) order within)
value-inner_part inputs input bytes (Widened by signed t) high low term order within =
    let some = some_bits inputs t term.0 in
    value_by_test input (low == 0 && high + 1 == tree_width (Widened by signed t)) (Widened by signed t) _ _
    (λ h. all_bits high low _ (tree_value input (Widened by signed t)) h (in_range inputs input bytes (Widened by signed t) term))
    (λ _. elim (lt_tells high (tree_width t)) [
      | inl below ↦
          rw below.0 (value-inner_part inputs input bytes t high low term.0 order below.1
          ∙ of_widened signed by (tree_width t) high low (tree_value input t) (in_range inputs input bytes t term.0) order below.1)
      | inr above ↦
          let under_it : tree_width t - 1 < tree_width t = omega (arith, some) in
          rw above.0 (elim (lt_tells low (tree_width t)) [
            | inl across ↦
                let top : low ≤ tree_width t - 1 = omega (arith, across.1) in
                rw across.0 (value-extension_by inputs input (high + 1 - tree_width t) signed (inner_part (tree_width t - 1) low t) bytes (
                  term-inner_part inputs t (tree_width t - 1) low term.0 top under_it,
                  omega (arith, above.1),
                  omega (arith, width-inner_part inputs t (tree_width t - 1) low term.0 top under_it, above.1, across.1, within, term.2),
                )
                ∙ ap (extend signed (high + 1 - tree_width t)) (value-inner_part inputs input bytes t (tree_width t - 1) low term.0 top under_it)
                ∙ across_widened inputs input bytes by t high low signed term across.1 above.1 within)
            | inr over ↦
                rw over.0 (over_widened inputs input bytes by t high low signed (inner_part (tree_width t - 1) (tree_width t - 1) t) term order over.1 within
                (term-inner_part inputs t (tree_width t - 1) (tree_width t - 1) term.0 (omega arith) under_it)
                (width-inner_part inputs t (tree_width t - 1) (tree_width t - 1) term.0 (omega arith) under_it ∙ omega arith)
                (value-inner_part inputs input bytes t (tree_width t - 1) (tree_width t - 1) term.0 (omega arith) under_it))
          ])
    ])
value-inner_part inputs input bytes (Joined s t) high low term order within =
    value_by_test input (low == 0 && high + 1 == tree_width (Joined s t)) (Joined s t) _ _
    (λ h. all_bits high low _ (tree_value input (Joined s t)) h (in_range inputs input bytes (Joined s t) term))
    (λ _. elim (lt_tells high (tree_width t)) [
      | inl below ↦
          rw below.0 (value-inner_part inputs input bytes t high low term.1 order below.1
          ∙ of_low (tree_width s) (tree_width t) high low (tree_value input s) (tree_value input t)
          (in_range inputs input bytes t term.1) order below.1)
      | inr above ↦
          rw above.0 (elim (le_tells (tree_width t) low) [
            | inl over ↦
                rw over.0 (value-inner_part inputs input bytes s (high - tree_width t)
                (low - tree_width t) term.0 (omega (arith, order))
                (omega (arith, within, above.1, over.1))
                ∙ of_high (tree_width t) high low (tree_value input s) (tree_value input t)
                (in_range inputs input bytes t term.1) order over.1)
            | inr across ↦ rw across.0 refl
          ])
    ])
value-inner_part inputs input bytes t high low term order within = span_value input _ high low t refl
    order within (in_range inputs input bytes t term)
