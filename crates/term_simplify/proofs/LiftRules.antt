-- Bits taken through complements and choices are worth those bits of the term's value.
use Rattle.std.proofs.Common.{◌≡◌, ◌∙◌, ℕ, suc, ◌+◌, ◌-◌, ◌/◌, ◌%◌, ◌^◌, ◌<◌, ◌≤◌, Bool, true, false, cond, bit_and, bit_xor, List, [], Some, None, refl, ap, sym, subst, arith}
use Rattle.std.specs.Prelude.{Option, ◌||◌, ◌&&◌, ◌==◌, is_some}
use Rattle.std.specs.List.{All}
use Rattle.std.specs.Int.Bits.{xor_add_and}
use Rattle.std.proofs.Math.Nat.{add-mul-mod_self_right, mod-eq_of_lt}
use Rattle.std.proofs.lemmas.List.Elements.{All-nil}
use Rattle.std.proofs.lemmas.Nat.{and_mask, mod_below, pow_pos, xor_mod, xor_shr}
use Rattle.std.proofs.lemmas.Nat.Bits.{ones_shr}
use Rattle.bv_dag.specs.BitVectors.{BitVector, bvnot, extract, ite}
use Rattle.term_trees.specs.Trees.{Tree, Constant, Complement, Choice, Part, tree_value, tree_width, IsTerm, IsOfWidth}
use Rattle.term_trees.proofs.Ranges.{in_range}
use Rattle.term_simplify.specs.Plain.{choice_between, choice_on, complement_of, inner_part, lifted, number_or, number_tree, part_of, plain_choice, tree_number}
use Rattle.term_simplify.specs.Ends.{ends_of, part_told}
use Rattle.term_simplify.specs.declared.lifting.TheConstants.{LEVELS}
use Rattle.term_simplify.proofs.ChoiceRules.{value-plain_choice}
use Rattle.term_simplify.proofs.EndsRules.{lies_of, part_tells}
use Rattle.term_simplify.proofs.PartRules.{value-inner_part}
use Rattle.term_simplify.proofs.PartTerms.{as_number, chosen, term-inner_part, width-inner_part}
use Rattle.term_simplify.proofs.TestRules.{value-complement_of}
use Rattle.term_simplify.proofs.Uppers.{ones_split}
use Rattle.term_simplify.proofs.Words.{by_parts}

no_bytes : All (λ b. b < 256) []
no_bytes = All-nil (λ b. b < 256)

-- ---- bits of a complement
with_ones : (w n : ℕ) → n < 2 ^ w → bit_xor n (2 ^ w - 1) ≡ 2 ^ w - 1 - n
with_ones w n h =
    let all : bit_and n (2 ^ w - 1) ≡ n = and_mask n w ∙ mod-eq_of_lt h in
    omega (arith, xor_add_and n (2 ^ w - 1), all, h)

ones_cut : (a k : ℕ) → (2 ^ (a + k) - 1) % 2 ^ k ≡ 2 ^ k - 1
ones_cut a k =
    ap (λ n. n % 2 ^ k) (ones_split a k ∙ omega arith) ∙ add-mul-mod_self_right (2 ^ k - 1) (2 ^ a - 1) (2 ^ k)
    ∙ mod-eq_of_lt (omega (arith, pow_pos k))

ones_field : (w low k : ℕ) → low + k ≤ w → (2 ^ w - 1) / 2 ^ low % 2 ^ k ≡ 2 ^ k - 1
ones_field w low k h =
    let e : w - low ≡ (w - low - k) + k = omega (arith, h) in
    ap (λ n. n % 2 ^ k) (ones_shr w low (omega (arith, h))) ∙ ap (λ j. (2 ^ j - 1) % 2 ^ k) e ∙ ones_cut (w - low - k) k

not_field : (w n low k : ℕ) → n < 2 ^ w → low + k ≤ w → 2 ^ k - 1 - n / 2 ^ low % 2 ^ k ≡ (2 ^ w - 1 - n) / 2 ^ low % 2 ^ k
not_field w n low k h fits =
    sym (with_ones k (n / 2 ^ low % 2 ^ k) (mod_below (n / 2 ^ low) (2 ^ k) (pow_pos k)))
    ∙ ap (bit_xor (n / 2 ^ low % 2 ^ k)) (sym (ones_field w low k fits)) ∙ sym (xor_mod (n / 2 ^ low) ((2 ^ w - 1) / 2 ^ low) k)
    ∙ ap (λ m. m % 2 ^ k) (sym (xor_shr n (2 ^ w - 1) low)) ∙ ap (λ m. m / 2 ^ low % 2 ^ k) (with_ones w n h)

part_not : (w high low : ℕ) (v : BitVector) → IsOfWidth w v → low ≤ high → high < w → bvnot (extract high low v) ≡ extract high low (bvnot v)
unfolding bvnot extract
part_not w high low v p order within =
    ap {B = BitVector} (λ n. record { width = high - low + 1; number = n })
    (not_field v.width v.number low (high - low + 1) (rw p.width p.in_range) (omega (arith, p.width, order, within)))

-- ---- bits of a choice
chosen_bits : (b : Bool) (n m low k : ℕ) → cond b (n / 2 ^ low % 2 ^ k) (m / 2 ^ low % 2 ^ k) ≡ cond b n m / 2 ^ low % 2 ^ k
chosen_bits true n m low k = refl
chosen_bits false n m low k = refl

part_ite : (high low : ℕ) (s t b : BitVector) → ite b (extract high low s) (extract high low t) ≡ extract high low (ite b s t)
unfolding ite extract
part_ite high low s t b = by_parts (high - low + 1) _ (ite b (extract high low s) (extract high low t)) refl (chosen_bits (b.number == 1) s.number t.number low (high - low + 1))

-- ---- what stands for a term
record IsSame (inputs : ℕ) (s t : Tree) : Type 0 where
  term : IsTerm inputs t
  value : (input : List ℕ) → All (λ b. b < 256) input → tree_value input t ≡ tree_value input s

same_width : (inputs : ℕ) (s t : Tree) → IsTerm inputs s → IsSame inputs s t → tree_width t ≡ tree_width s
same_width inputs s t term same =
    sym (in_range inputs [] no_bytes t same.term).width ∙ ap (λ (v : BitVector). v.width) (same.value [] no_bytes)
    ∙ (in_range inputs [] no_bytes s term).width

term-complement_of : (inputs : ℕ) (t : Tree) → IsTerm inputs t → IsTerm inputs (complement_of t)
unfolding complement_of
term-complement_of inputs (Constant w v) term = as_number w _ (in_range inputs [] no_bytes (Complement (Constant w v)) term)
term-complement_of inputs (Complement t) term = term
term-complement_of inputs t term = term

module _ (inputs : ℕ) (c s t : Tree) (term : IsTerm inputs (Choice c s t)) where
  term-choice_between : (x y : Option BitVector) → IsTerm inputs (choice_between x y c s t)
  term-choice_between (Some x) (Some y) =
      let second = cond (x.width == 1 && x.number == 0 && y.number == 1) (complement_of c) (Choice c s t) in
      chosen inputs (x.number == y.number) s (cond (x.width == 1 && x.number == 1 && y.number == 0) c second) (λ _. term.1)
      (λ _. chosen inputs (x.width == 1 && x.number == 1 && y.number == 0) c second
      (λ _. term.0) (λ _. chosen inputs (x.width == 1 && x.number == 0 && y.number == 1) (complement_of c) (Choice c s t)
      (λ _. term-complement_of inputs c term.0) (λ _. term)))
  term-choice_between (Some x) None = term
  term-choice_between None y = term

  term-choice_on : (x : Option BitVector) → IsTerm inputs (choice_on x c s t)
  term-choice_on (Some x) = chosen inputs (x.number == 1) s t (λ _. term.1) (λ _. term.2)
  term-choice_on None = term-choice_between (tree_number s) (tree_number t)

  term-plain_choice : IsTerm inputs (plain_choice c s t)
  unfolding plain_choice
  term-plain_choice = term-choice_on (tree_number c)

-- ---- bits through complements and choices
module _ (inputs high low : ℕ) (order : low ≤ high) where
  inner : (t u : Tree) → IsTerm inputs t → high < tree_width t → IsSame inputs (inner_part high low t) u → IsSame inputs (Part high low t) u
  inner t u term within same = record {
    term = same.term;
    value = λ input bytes. same.value input bytes ∙ value-inner_part inputs input bytes t high low term order within;
  }

  inner_width : (t u : Tree) → IsTerm inputs t → high < tree_width t → IsSame inputs (Part high low t) u → tree_width u ≡ high - low + 1
  inner_width t u term within same = same_width inputs (Part high low t) u (term, order, within) same

  of_complement : (t u : Tree) → IsTerm inputs t → high < tree_width t → IsSame inputs (inner_part high low t) u →
      IsSame inputs (Part high low (Complement t)) (complement_of u)
  of_complement t u term within same =
      let bits = inner t u term within same in
      record {
        term = term-complement_of inputs u bits.term;
        value = λ input bytes.
            value-complement_of inputs input u bytes bits.term ∙ ap bvnot (bits.value input bytes)
            ∙ part_not (tree_width t) high low (tree_value input t) (in_range inputs input bytes t term) order within;
      }

  of_choice : (c s t u v : Tree) → IsTerm inputs (Choice c s t) → high < tree_width s → IsSame inputs (inner_part high low s) u →
      IsSame inputs (inner_part high low t) v → IsSame inputs (Part high low (Choice c s t)) (plain_choice c u v)
  of_choice c s t u v term within first second =
      let other : high < tree_width t = omega (arith, within, term.4) in
      let yes = inner s u term.1 within first in
      let no = inner t v term.2 other second in
      let made : IsTerm inputs (Choice c u v) =
      (term.0, yes.term, no.term, term.3, inner_width s u term.1 within yes ∙ sym (inner_width t v term.2 other no)) in
      record {
        term = term-plain_choice inputs c u v made;
        value = λ input bytes.
            value-plain_choice inputs input c u v bytes made
            ∙ ap (λ k. ite (tree_value input c) k (tree_value input v)) (yes.value input bytes)
            ∙ ap (ite (tree_value input c) (extract high low (tree_value input s))) (no.value input bytes)
            ∙ part_ite high low (tree_value input s) (tree_value input t) (tree_value input c);
      }

itself : (inputs : ℕ) (t : Tree) → IsTerm inputs t → IsSame inputs t t
itself inputs t term = record { term = term; value = λ input bytes. refl }

same_if : (inputs : ℕ) (b : Bool) (s t u : Tree) → IsSame inputs s t → IsSame inputs s u → IsSame inputs s (cond b t u)
same_if inputs true s t u first second = first
same_if inputs false s t u first second = second

lifted_same : (inputs levels : ℕ) (t : Tree) → IsTerm inputs t → IsSame inputs t (lifted levels t)
unfolding lifted
lifted_same inputs (suc k) (Part high low (Complement t)) term =
    of_complement inputs high low term.1 t (lifted k (inner_part high low t)) term.0 term.2
    (lifted_same inputs k (inner_part high low t) (term-inner_part inputs t high low term.0 term.1 term.2))
lifted_same inputs (suc k) (Part high low (Choice c s t)) term =
    let other : high < tree_width t = omega (arith, term.2, term.0.4) in
    same_if inputs (is_some (tree_number s) || is_some (tree_number t)) (Part high low (Choice c s t)) _ _
    (of_choice inputs high low term.1 c s t (lifted k (inner_part high low s)) (lifted k (inner_part high low t)) term.0 term.2
    (lifted_same inputs k (inner_part high low s) (term-inner_part inputs s high low term.0.1 term.1 term.2))
    (lifted_same inputs k (inner_part high low t) (term-inner_part inputs t high low term.0.2 term.1 other)))
    (itself inputs (Part high low (Choice c s t)) term)
lifted_same inputs levels t term = itself inputs t term

-- as the code finds it, they are as wide
pub width-lifted : (inputs levels : ℕ) (t : Tree) (high low : ℕ) → IsTerm inputs t → low ≤ high → high < tree_width t →
    tree_width (lifted levels (inner_part high low t)) ≡ high - low + 1
width-lifted inputs levels t high low term order within =
    let inside = term-inner_part inputs t high low term order within in
    same_width inputs (inner_part high low t) _ inside (lifted_same inputs levels (inner_part high low t) inside)
    ∙ width-inner_part inputs t high low term order within

module _ (inputs : ℕ) (t : Tree) (high low : ℕ) (term : IsTerm inputs t) (order : low ≤ high) (within : high < tree_width t) where
  -- bits that are a number
  told : (x : BitVector) → part_told high low (ends_of t) ≡ Some x → IsSame inputs (inner_part high low t) (number_tree x)
  told x is =
      let worth = λ (input : List ℕ) (bytes : All (λ b. b < 256) input).
      part_tells (ends_of t) (tree_value input t) high low x (lies_of inputs input bytes t term) is in
      record {
        term = as_number (high - low + 1) x (subst (IsOfWidth (high - low + 1)) (sym (worth [] no_bytes)) (in_range inputs [] no_bytes (Part high low t) (term, order, within)));
        value = λ input bytes. worth input bytes ∙ sym (value-inner_part inputs input bytes t high low term order within);
      }

  told_or_not : (o : Option BitVector) → part_told high low (ends_of t) ≡ o →
      IsSame inputs (inner_part high low t) (number_or o (lifted LEVELS (inner_part high low t)))
  told_or_not (Some x) is = told x is
  told_or_not None is = lifted_same inputs LEVELS (inner_part high low t) (term-inner_part inputs t high low term order within)

  all_levels : IsSame inputs (inner_part high low t) (part_of high low t)
  unfolding part_of
  all_levels = told_or_not (part_told high low (ends_of t)) refl

  pub term-part_of : IsTerm inputs (part_of high low t)
  term-part_of = all_levels.term

  pub width-part_of : tree_width (part_of high low t) ≡ high - low + 1
  width-part_of =
      same_width inputs (inner_part high low t) (part_of high low t) (term-inner_part inputs t high low term order within) all_levels
      ∙ width-inner_part inputs t high low term order within

-- ---- as the code finds them
pub part_is_number : (high low : ℕ) (t : Tree) (x : BitVector) → part_told high low (ends_of t) ≡ Some x → number_tree x ≡ part_of high low t
unfolding part_of
part_is_number high low t x is = sym (ap (λ o. number_or o (lifted LEVELS (inner_part high low t))) is)

pub part_is_lifted : (high low : ℕ) (t : Tree) → part_told high low (ends_of t) ≡ None → lifted LEVELS (inner_part high low t) ≡ part_of high low t
unfolding part_of
part_is_lifted high low t is = sym (ap (λ o. number_or o (lifted LEVELS (inner_part high low t))) is)

pub value-part_of : (inputs : ℕ) (input : List ℕ) → All (λ b. b < 256) input → (t : Tree) (high low : ℕ) → IsTerm inputs t → low ≤ high →
    high < tree_width t → tree_value input (part_of high low t) ≡ extract high low (tree_value input t)
value-part_of inputs input bytes t high low term order within =
    (all_levels inputs t high low term order within).value input bytes ∙ value-inner_part inputs input bytes t high low term order within
