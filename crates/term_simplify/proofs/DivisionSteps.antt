-- Terms that are divided by a number, found and made step by step.
use Rattle.std.proofs.Common.{◌≡◌, ◌∙◌, ℕ, zero, suc, ◌+◌, ◌-◌, ◌^◌, ◌<◌, true, false, List, Some, None, refl, ap, sym, subst, arith}
use Rattle.std.specs.Prelude.{Option, nat_lt, ◌||◌}
use Rattle.std.specs.Option.{IfSome}
use Rattle.std.proofs.lemmas.Bool.{and_parts, ltb-true}
use Rattle.std.proofs.lemmas.Nat.{pow_pos}
use Rattle.bv_dag.specs.BitVectors.{BitVector, IsBitVector, bvnot, bvudiv, bvurem, concat, zero_extend}
use Rattle.bv_dag.specs.Graphs.{Graph, val, width_of}
use Rattle.bv_dag.specs.Nodes.{binary, extend}
use Rattle.bv_dag.specs.declared.nodes.BinaryOp.{BinaryOp}
use Rattle.bv_dag.specs.declared.nodes.BinaryOp.TheVariants.{Add, Sub, Mul, Udiv, Urem, And, Or, Xor, Shl, Lshr, Ashr}
use Rattle.bv_dag.proofs.Numbers.{wider}
use Rattle.term_trees.specs.Growth.{Continues}
use Rattle.term_trees.specs.Trees.{Tree, tree_of}
use Rattle.term_simplify.specs.Divisions.{IsDividend, borrow_of, borrow_word, brought, brought_word, divided_at, has_stages, is_division, is_divisor, is_power, next_remainder, next_remainder_word, quotient_by, quotient_from, remainder_by, remainder_from, upper_quotient, upper_remainder}
use Rattle.term_simplify.specs.Narrowing.{length_of}
use Rattle.term_simplify.specs.Plain.{complement_of, further, joined_of, tree_number}
use Rattle.term_simplify.specs.Steps.{Stands}
use Rattle.term_simplify.specs.declared.divisions.Dividend.{Dividend}
use Rattle.term_simplify.specs.declared.divisions.TheConstants.{FEW_BITS}
use Rattle.term_simplify.proofs.DivisionNumbers.{stage_quotient, stage_remainder}
use Rattle.term_simplify.proofs.NarrowRanges.{length_above, length_holds, length_more, length_within}
use Rattle.term_simplify.proofs.Stepping.{Stands-grown, Stands-itself, Stands-worth, at_tree, at_width}
use Rattle.term_simplify.proofs.Multiplying.{worth_as}
use Rattle.term_simplify.proofs.Words.{by_parts, tests_equal}

-- ---- dividends that are found
abbrev pub IsOf : (id : ℕ) → BitVector → Option Dividend → Type 0
IsOf id y r =
    IfSome r (λ d. d ≡ record { operand = id; width = y.width; bits = length_of y.number; divisor = y.number })

abbrev pub Divides : BitVector → Option Dividend → Type 0
Divides y r = IfSome r (λ d. is_divisor y.width (length_of y.number) y.number ≡ true)

more_than_one : (w k c : ℕ) → is_divisor w k c ≡ true → 1 < c
more_than_one w k c h =
    let (more, how) = and_parts (nat_lt 1 c) (is_power k c || has_stages w k) h in
    ltb-true 1 c more

pub dividend_is : (g : Graph) (a : ℕ) (y : BitVector) (r : Option Dividend) → width_of g a ≡ y.width → IsBitVector y.width y.number →
    Divides y r → IsOf a y r → IfSome r (λ d. IsDividend g d)
dividend_is g a y (Some d) wide number how is =
    let c = y.number in
    let more : 1 < c = more_than_one y.width (length_of c) c how in
    let below : c < 2 ^ 64 = omega (arith, number.in_range, wider y.width 64 number.at_most_64) in
    let some : 0 < c = omega (arith, more) in
    subst (IsDividend g) (sym is) (record {
      wide = wide;
      at_most_64 = number.at_most_64;
      some = length_more c more below;
      within = length_within y.width c some below number.in_range;
      above = length_above c some below;
      below = length_holds c below;
    })
dividend_is g a y None wide number how is = tt

pub dividend_wide : (y : BitVector) (a w : ℕ) (r : Option Dividend) → y.width ≡ w → IsOf a y r → IfSome r (λ d. d.width ≡ w)
dividend_wide y a w (Some d) wide is = ap (λ (q : Dividend). q.width) is ∙ wide
dividend_wide y a w None wide is = tt

pub dividend_worth : (g : Graph) (op : BinaryOp) (a b : ℕ) (y : BitVector) (r : Option Dividend) → tree_number (tree_of g b) ≡ Some y → IsOf a y r →
    IfSome r (λ d. (input : List ℕ) → binary op (val g d.operand input) (record { width = d.width; number = d.divisor }) ≡ binary op (val g a input) (val g b input))
dividend_worth g op a b y (Some d) number is = λ input. rw is (ap (binary op (val g a input)) (sym (worth_as g b y number input)))
dividend_worth g op a b y None number is = tt

-- no zeros above a term
not_extended : (by : ℕ) (x : BitVector) → by ≡ 0 → x ≡ zero_extend by x
unfolding zero_extend
not_extended by x e = by_parts (x.width + by) x.number x (omega (arith, e)) refl

pub not_filled : (g : Graph) (a by : ℕ) → by ≡ 0 → 0 < width_of g a →
    Stands g a (further by false (tree_of g a)) (width_of g a + by) (λ input. extend false by (val g a input))
not_filled g a by e some =
    at_width (omega (arith, e)) (at_tree (rw (tests_equal by 0 e) refl)
    (Stands-worth (λ input bytes. not_extended by (val g a input) e) (Stands-itself g a (width_of g a) refl some)))

-- the same dividend as the graph goes on
pub still_divided : {g h : Graph} (d : Dividend) → Continues g h → IsDividend g d → IsDividend h d
still_divided d grown is = record {
  wide = (Stands-grown d.operand d.width grown is.wide (omega (arith, is.some, is.within))).width;
  at_most_64 = is.at_most_64;
  some = is.some;
  within = is.within;
  above = is.above;
  below = is.below;
}

pub stages_few : (w k c : ℕ) → is_divisor w k c ≡ true → is_power k c ≡ false → k < 64
stages_few w k c h apart =
    let (more, how) = and_parts (nat_lt 1 c) (is_power k c || has_stages w k) h in
    let stages : has_stages w k ≡ true = rw apart at how in
    let (long, few) = and_parts (nat_lt FEW_BITS w) (nat_lt k 64) stages in
    ltb-true k 64 few

pub some_left : (left : ℕ) → (left ≡ 0 → ⊥) → 0 < left
some_left left apart = omega (arith, apart)

pub some_divisor : {g : Graph} (d : Dividend) → IsDividend g d → 0 < d.divisor
some_divisor d is = omega (arith, is.above, pow_pos (d.bits - 1))

-- ---- what a stage is worth
pub stage_worth : {g : Graph} (d : Dividend) (left : ℕ) (x r : BitVector) → IsDividend g d → 0 < left → r ≡ upper_remainder d.bits left d.divisor x →
    next_remainder_word d.bits d.divisor (brought_word (left - 1) x r) ≡ upper_remainder d.bits (left - 1) d.divisor x
stage_worth d left x r is some e =
    ap (λ k. next_remainder_word d.bits d.divisor (brought_word (left - 1) x k)) e
    ∙ stage_remainder d.bits d.divisor (left - 1) left x (omega (arith, some)) (omega (arith, is.some)) (some_divisor d is) (omega (arith, is.below))

pub longer_worth : {g : Graph} (d : Dividend) (left : ℕ) (x q r : BitVector) → IsDividend g d → 0 < left → left < d.width →
    q ≡ upper_quotient d.width left d.divisor x → r ≡ upper_remainder d.bits left d.divisor x →
    concat q (bvnot (borrow_word d.bits d.divisor (brought_word (left - 1) x r))) ≡ upper_quotient d.width (left - 1) d.divisor x
longer_worth d left x q r is some within f e =
    ap (λ k. concat k (bvnot (borrow_word d.bits d.divisor (brought_word (left - 1) x r)))) f
    ∙ ap (λ k. concat (upper_quotient d.width left d.divisor x) (bvnot (borrow_word d.bits d.divisor (brought_word (left - 1) x k)))) e
    ∙ stage_quotient d.bits d.divisor (left - 1) left x (omega (arith, some)) (omega (arith, is.some)) (some_divisor d is) (omega (arith, is.below))
    d.width (omega (arith, some, within))

pub the_other : (op : BinaryOp) → is_division op ≡ true → (op ≡ Udiv → ⊥) → op ≡ Urem
the_other Urem h apart = refl
the_other Udiv h apart = absurd (apart refl)
the_other Add h apart = cc
the_other Sub h apart = cc
the_other Mul h apart = cc
the_other And h apart = cc
the_other Or h apart = cc
the_other Xor h apart = cc
the_other Shl h apart = cc
the_other Lshr h apart = cc
the_other Ashr h apart = cc

-- by which operation a term is divided
pub by_udiv : {g : Graph} {id : ℕ} (op : BinaryOp) (w k c : ℕ) (t : Tree) (F : List ℕ → BitVector) → op ≡ Udiv →
    Stands g id (quotient_by w k c t) w (λ input. bvudiv (F input) (record { width = w; number = c })) →
    Stands g id (divided_at op w k c t) w (λ input. binary op (F input) (record { width = w; number = c }))
by_udiv op w k c t F e n = rw e n

pub by_urem : {g : Graph} {id : ℕ} (op : BinaryOp) (w k c : ℕ) (t : Tree) (F : List ℕ → BitVector) → op ≡ Urem →
    Stands g id (remainder_by w k c t) w (λ input. bvurem (F input) (record { width = w; number = c })) →
    Stands g id (divided_at op w k c t) w (λ input. binary op (F input) (record { width = w; number = c }))
by_urem op w k c t F e n = rw e n

-- ---- the trees of a stage
pub remainder_none : (left k c : ℕ) (t r : Tree) → left ≡ 0 → r ≡ remainder_from left k c t r
unfolding remainder_from
remainder_none zero k c t r e = refl
remainder_none (suc i) k c t r e = absurd (omega (arith, e))

pub remainder_more : (left k c : ℕ) (t r : Tree) → (left ≡ 0 → ⊥) →
    remainder_from (left - 1) k c t (next_remainder k c (brought (left - 1) t r)) ≡ remainder_from left k c t r
unfolding remainder_from
remainder_more zero k c t r some = absurd (some refl)
remainder_more (suc i) k c t r some = let e : suc i - 1 ≡ i = omega arith in rw e refl

pub quotient_none : (left k c : ℕ) (t q r : Tree) → left ≡ 0 → q ≡ quotient_from left k c t q r
unfolding quotient_from
quotient_none zero k c t q r e = refl
quotient_none (suc i) k c t q r e = absurd (omega (arith, e))

pub quotient_more : (left k c : ℕ) (t q r : Tree) → (left ≡ 0 → ⊥) →
    quotient_from (left - 1) k c t (joined_of q (complement_of (borrow_of k c (brought (left - 1) t r)))) (next_remainder k c (brought (left - 1) t r))
    ≡ quotient_from left k c t q r
unfolding quotient_from
quotient_more zero k c t q r some = absurd (some refl)
quotient_more (suc i) k c t q r some = let e : suc i - 1 ≡ i = omega arith in rw e refl
