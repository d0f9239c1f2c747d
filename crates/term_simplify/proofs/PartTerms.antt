-- Bits of a term are a term, and as wide as there are bits; so is a term that is widened.
use Rattle.std.proofs.Common.{◌≡◌, ◌∙◌, ℕ, ◌+◌, ◌-◌, ◌/◌, ◌%◌, ◌^◌, ◌<◌, ◌≤◌, Bool, true, false, cond, [], Some, None, refl, arith, inl, inr}
use Rattle.std.specs.Prelude.{Option, ◌&&◌, ◌==◌}
use Rattle.std.proofs.lemmas.Bool.{and_parts}
use Rattle.std.proofs.lemmas.Bool.Decides.{eqb_tells}
use Rattle.std.proofs.lemmas.List.Elements.{All-nil}
use Rattle.std.proofs.lemmas.Nat.{mod_below, pow_pos}
use Rattle.bv_dag.specs.BitVectors.{BitVector, IsBitVector, extract, sign_extend, zero_extend}
use Rattle.term_trees.specs.Trees.{Tree, Constant, Part, Widened, Joined, tree_width, IsTerm, IsOfWidth}
use Rattle.term_trees.proofs.Ranges.{in_range}
use Rattle.term_simplify.specs.Plain.{extension_by, further, inner_part, span_by, tree_number}
use Rattle.term_simplify.proofs.Words.{is_number, le_tells, lt_tells}

-- a number of no more bits than fit
number_fits : (w n : ℕ) → 0 < w → w ≤ 64 → IsBitVector w (n % 2 ^ w)
number_fits w n some fits = record {
  not_empty = some;
  at_most_64 = fits;
  in_range = mod_below n (2 ^ w) (pow_pos w);
}

pub zero_fits : (w : ℕ) → 0 < w → w ≤ 64 → IsBitVector w 0
zero_fits w some fits = record { not_empty = some; at_most_64 = fits; in_range = pow_pos w }

pub as_number : (w : ℕ) (x : BitVector) → IsOfWidth w x → IsBitVector x.width x.number
as_number w x p = rw p.width (record { not_empty = p.not_empty; at_most_64 = p.at_most_64; in_range = p.in_range })

-- no term is wider than 64 bits, and none has no bits
pub narrow : (inputs : ℕ) (t : Tree) → IsTerm inputs t → tree_width t ≤ 64
narrow inputs t term = (in_range inputs [] (All-nil (λ b. b < 256)) t term).at_most_64

pub some_bits : (inputs : ℕ) (t : Tree) → IsTerm inputs t → 0 < tree_width t
some_bits inputs t term = (in_range inputs [] (All-nil (λ b. b < 256)) t term).not_empty

pub chosen : (inputs : ℕ) (b : Bool) (s t : Tree) → (b ≡ true → IsTerm inputs s) → (b ≡ false → IsTerm inputs t) → IsTerm inputs (cond b s t)
chosen inputs true s t f g = f refl
chosen inputs false s t f g = g refl

pub chosen_width : (w : ℕ) (b : Bool) (s t : Tree) → (b ≡ true → tree_width s ≡ w) → (b ≡ false → tree_width t ≡ w) → tree_width (cond b s t) ≡ w
chosen_width w true s t f g = f refl
chosen_width w false s t f g = g refl

-- ---- widened
pub width-extension_by : (by : ℕ) (signed : Bool) (t : Tree) → tree_width (extension_by by signed t) ≡ tree_width t + by
unfolding extension_by sign_extend zero_extend
width-extension_by by true (Constant w v) = refl
width-extension_by by false (Constant w v) = refl
width-extension_by by false (Widened inner false t) = omega arith
width-extension_by by true (Widened inner false t) = omega arith
width-extension_by by true (Widened inner true t) = omega arith
width-extension_by by false (Widened inner true t) = refl
width-extension_by by signed t = refl

pub term-extension_by : (inputs by : ℕ) (signed : Bool) (t : Tree) → IsTerm inputs (Widened by signed t) →
    IsTerm inputs (extension_by by signed t)
unfolding extension_by
term-extension_by inputs by signed (Constant w v) term =
    as_number (w + by) _ (in_range inputs [] (All-nil (λ b. b < 256)) (Widened by signed (Constant w v)) term)
term-extension_by inputs by false (Widened inner false t) term = (term.0.0, omega (arith, term.1), omega (arith, term.2))
term-extension_by inputs by true (Widened inner false t) term = (term.0.0, omega (arith, term.1), omega (arith, term.2))
term-extension_by inputs by true (Widened inner true t) term = (term.0.0, omega (arith, term.1), omega (arith, term.2))
term-extension_by inputs by false (Widened inner true t) term = term
term-extension_by inputs by signed t term = term

pub width-further : (by : ℕ) (signed : Bool) (t : Tree) → tree_width (further by signed t) ≡ tree_width t + by
width-further by signed t =
    chosen_width (tree_width t + by) (by == 0) t (extension_by by signed t)
    (λ h. let e : by ≡ 0 = is_number by 0 h in omega (arith, e)) (λ _. width-extension_by by signed t)

pub term-further : (inputs by : ℕ) (signed : Bool) (t : Tree) → IsTerm inputs t → tree_width t + by ≤ 64 →
    IsTerm inputs (further by signed t)
term-further inputs by signed t term fits =
    elim (eqb_tells by 0) [
      | inl e ↦ rw e.0 term
      | inr e ↦
          let some : 1 ≤ by = elim (le_tells 1 by) [ inl p ↦ p.1 | inr p ↦ absurd (e.1 (omega (arith, p.1))) ] in
          rw e.0 (term-extension_by inputs by signed t (term, some, fits))
    ]

-- ---- bits
all_width : (high low : ℕ) (t : Tree) → (low == 0 && high + 1 == tree_width t) ≡ true → tree_width t ≡ high - low + 1
all_width high low t h =
    let (zero, top) = and_parts (low == 0) (high + 1 == tree_width t) h in
    omega (arith, is_number low 0 zero, is_number (high + 1) (tree_width t) top)

span_width : (x : Option BitVector) (t : Tree) (high low : ℕ) → tree_width (span_by x high low t) ≡ high - low + 1
unfolding extract
span_width (Some x) t high low = refl
span_width None t high low =
    chosen_width (high - low + 1) (low == 0 && high + 1 == tree_width t) t (Part high low t) (all_width high low t) (λ _. refl)

-- bits above a term that is widened, from its sign
above_width : (signed : Bool) (high low : ℕ) (top : Tree) → tree_width top ≡ 1 →
    tree_width (cond signed (further (high - low) true top) (Constant (high - low + 1) 0)) ≡ high - low + 1
above_width true high low top e = width-further (high - low) true top ∙ omega (arith, e)
above_width false high low top e = refl

above_term : (inputs : ℕ) (signed : Bool) (high low : ℕ) (top : Tree) → IsTerm inputs top → tree_width top ≡ 1 →
    high - low + 1 ≤ 64 → IsTerm inputs (cond signed (further (high - low) true top) (Constant (high - low + 1) 0))
above_term inputs true high low top term e fits = term-further inputs (high - low) true top term (omega (arith, e, fits))
above_term inputs false high low top term e fits = zero_fits (high - low + 1) (omega arith) fits

span_term : (inputs : ℕ) (x : Option BitVector) (t : Tree) (high low : ℕ) → IsTerm inputs t → low ≤ high → high < tree_width t →
    IsTerm inputs (span_by x high low t)
unfolding extract
span_term inputs (Some x) t high low term order within =
    number_fits (high - low + 1) (x.number / 2 ^ low) (omega arith) (omega (arith, order, within, narrow inputs t term))
span_term inputs None t high low term order within =
    chosen inputs (low == 0 && high + 1 == tree_width t) t (Part high low t) (λ _. term) (λ _. (term, order, within))

pub width-inner_part : (inputs : ℕ) (t : Tree) (high low : ℕ) → IsTerm inputs t → low ≤ high → high < tree_width t →
    tree_width (inner_part high low t) ≡ high - low + 1
unfolding inner_part
width-inner_part inputs (Part h l t) high low term order within =
    chosen_width (high - low + 1) (low == 0 && high + 1 == tree_width (Part h l t)) (Part h l t) (inner_part (high + l) (low + l) t)
    (all_width high low (Part h l t))
    (λ _. width-inner_part inputs t (high + l) (low + l) term.0 (omega (arith, order)) (omega (arith, term.1, term.2, within)) ∙ omega (arith, order))
width-inner_part inputs (Widened by signed t) high low term order within =
    let some = some_bits inputs t term.0 in
    chosen_width (high - low + 1) (low == 0 && high + 1 == tree_width (Widened by signed t)) (Widened by signed t) _
    (all_width high low (Widened by signed t))
    (λ _. elim (lt_tells high (tree_width t)) [
      | inl below ↦ rw below.0 (width-inner_part inputs t high low term.0 order below.1)
      | inr above ↦
          rw above.0 (elim (lt_tells low (tree_width t)) [
            | inl across ↦
                rw across.0 (width-extension_by (high + 1 - tree_width t) signed (inner_part (tree_width t - 1) low t)
                ∙ omega (arith, width-inner_part inputs t (tree_width t - 1) low term.0 (omega (arith, across.1)) (omega (arith, some)), above.1, across.1))
            | inr over ↦
                rw over.0 (above_width signed high low _
                (width-inner_part inputs t (tree_width t - 1) (tree_width t - 1) term.0 (omega arith) (omega (arith, some)) ∙ omega arith))
          ])
    ])
width-inner_part inputs (Joined s t) high low term order within =
    chosen_width (high - low + 1) (low == 0 && high + 1 == tree_width (Joined s t)) (Joined s t) _
    (all_width high low (Joined s t))
    (λ _. elim (lt_tells high (tree_width t)) [
      | inl below ↦ rw below.0 (width-inner_part inputs t high low term.1 order below.1)
      | inr above ↦
          rw above.0 (elim (le_tells (tree_width t) low) [
            | inl over ↦
                rw over.0 (width-inner_part inputs s (high - tree_width t) (low - tree_width t) term.0 (omega (arith, order))
                (omega (arith, within, above.1, over.1)) ∙ omega (arith, order, over.1))
            | inr across ↦ rw across.0 refl
          ])
    ])
width-inner_part inputs t high low term order within = span_width (tree_number t) t high low

pub term-inner_part : (inputs : ℕ) (t : Tree) (high low : ℕ) → IsTerm inputs t → low ≤ high → high < tree_width t →
    IsTerm inputs (inner_part high low t)
unfolding inner_part
term-inner_part inputs (Part h l t) high low term order within =
    chosen inputs (low == 0 && high + 1 == tree_width (Part h l t)) (Part h l t) (inner_part (high + l) (low + l) t) (λ _. term)
    (λ _. term-inner_part inputs t (high + l) (low + l) term.0 (omega (arith, order)) (omega (arith, term.1, term.2, within)))
term-inner_part inputs (Widened by signed t) high low term order within =
    let some = some_bits inputs t term.0 in
    chosen inputs (low == 0 && high + 1 == tree_width (Widened by signed t)) (Widened by signed t) _ (λ _. term)
    (λ _. elim (lt_tells high (tree_width t)) [
      | inl below ↦ rw below.0 (term-inner_part inputs t high low term.0 order below.1)
      | inr above ↦
          rw above.0 (elim (lt_tells low (tree_width t)) [
            | inl across ↦
                let top : low ≤ tree_width t - 1 = omega (arith, across.1) in
                let under_it : tree_width t - 1 < tree_width t = omega (arith, some) in
                rw across.0 (term-extension_by inputs (high + 1 - tree_width t) signed (inner_part (tree_width t - 1) low t) (
                  term-inner_part inputs t (tree_width t - 1) low term.0 top under_it,
                  omega (arith, above.1),
                  omega (arith, width-inner_part inputs t (tree_width t - 1) low term.0 top under_it, above.1, across.1, within, term.2),
                ))
            | inr over ↦
                let under_it : tree_width t - 1 < tree_width t = omega (arith, some) in
                rw over.0 (above_term inputs signed high low (inner_part (tree_width t - 1) (tree_width t - 1) t)
                (term-inner_part inputs t (tree_width t - 1) (tree_width t - 1) term.0 (omega arith) under_it)
                (width-inner_part inputs t (tree_width t - 1) (tree_width t - 1) term.0 (omega arith) under_it ∙ omega arith)
                (omega (arith, order, within, term.2)))
          ])
    ])
term-inner_part inputs (Joined s t) high low term order within =
    chosen inputs (low == 0 && high + 1 == tree_width (Joined s t)) (Joined s t) _ (λ _. term)
    (λ _. elim (lt_tells high (tree_width t)) [
      | inl below ↦ rw below.0 (term-inner_part inputs t high low term.1 order below.1)
      | inr above ↦
          rw above.0 (elim (le_tells (tree_width t) low) [
            | inl over ↦
                rw over.0 (term-inner_part inputs s (high - tree_width t) (low - tree_width t) term.0 (omega (arith, order))
                (omega (arith, within, above.1, over.1)))
            | inr across ↦ rw across.0 (term, order, within)
          ])
    ])
term-inner_part inputs t high low term order within = span_term inputs (tree_number t) t high low term order within
