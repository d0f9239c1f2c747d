-- A term is a number exactly where what it is made of is another.
use Rattle.std.proofs.Common.{◌≡◌, ◌==◌, ◌∙◌, ◌+◌, ◌*◌, ◌/◌, ◌%◌, ◌^◌, ◌<◌, ℕ, List, Some, None, ap, sym, refl, arith, ◌-◌, Bool, true, false, inl, inr, subst}
use Rattle.std.proofs.Math.Nat.{add-mul-mod_self_right, div-one, mod-eq_of_lt}
use Rattle.std.proofs.lemmas.Nat.{mod_below, pow_pos, shr_below, shr_high, shr_split, xor_comm}
use Rattle.std.specs.Prelude.{Option, if◌then◌else◌}
use Rattle.std.specs.List.{All}
use Rattle.bv_dag.specs.BitVectors.{BitVector, bit, bvadd, bvneg, bvnot, bvsub, bvxor, concat, equal, extract, sign_extend, zero_extend}
use Rattle.bv_dag.specs.Nodes.{binary, extend}
use Rattle.bv_dag.specs.declared.nodes.BinaryOp.{BinaryOp}
use Rattle.bv_dag.specs.declared.nodes.BinaryOp.TheVariants.{Add, Sub, Xor}
use Rattle.term_trees.specs.Trees.{Tree, Constant, Complement, Joined, Negated, Part, Two, Widened, tree_width, tree_value, IsTerm, IsOfWidth}
use Rattle.term_trees.proofs.Ranges.{in_range}
use Rattle.term_simplify.specs.Equalities.{Peeled, bits_above, is_widened, low_bits, on_some, peeled, split_by, undone, undone_by, undone_first, undone_second}
use Rattle.term_simplify.specs.Plain.{tree_number}
use Rattle.term_simplify.proofs.EqualityNumbers.{complement_test, from_test, less_test, negative_test, plus_test, same_tests, xor_test}
use Rattle.term_simplify.proofs.Words.{by_parts, is_apart, is_number, le_tells, number_value}

-- ---- one operation undone is the first of those that are
some_is : (p q : Peeled) → Some p ≡ Some q → p ≡ q
some_is p q e = cc

abbrev with_number : Tree → BitVector → Option Peeled
with_number t n = Some (record { term = t; number = n })

abbrev onward : Peeled → Peeled
onward p = peeled p.term p.number

by_some : (o : Option BitVector) (t : Tree) (p other : Peeled) → on_some o (with_number t) None ≡ Some p → on_some o (λ m. peeled t m) other ≡ onward p
by_some (Some m) t p other e = ap onward (some_is (record { term = t; number = m }) p e)
by_some None t p other e = cc

by_two : (op : BinaryOp) (x y : Option BitVector) (n : BitVector) (s t : Tree) (p other : Peeled) →
    undone_by op x y n (with_number s) (with_number t) None ≡ Some p → undone_by op x y n (λ m. peeled s m) (λ m. peeled t m) other ≡ onward p
by_two op None (Some y) n s t p other e = by_some (undone_second op n y) s p other e
by_two op (Some x) None n s t p other e = by_some (undone_first op n x) t p other e
by_two op (Some x) (Some y) n s t p other e = cc
by_two op None None n s t p other e = cc

-- of two terms, as a test tells
by_either : (b : Bool) (s t : Tree) (m k : BitVector) (p : Peeled) → (if b then with_number s m else with_number t k) ≡ Some p →
    (if b then peeled s m else peeled t k) ≡ onward p
by_either true s t m k p e = ap onward (some_is (record { term = s; number = m }) p e)
by_either false s t m k p e = ap onward (some_is (record { term = t; number = k }) p e)

by_split : (x y : Option BitVector) (upper lower : BitVector) (s t : Tree) (p other : Peeled) →
    split_by x y upper lower (with_number s) (with_number t) None ≡ Some p → split_by x y upper lower (λ m. peeled s m) (λ m. peeled t m) other ≡ onward p
by_split None (Some y) upper lower s t p other e = by_either (y.number == lower.number) s t upper lower p e
by_split (Some x) None upper lower s t p other e = by_either (x.number == upper.number) t s lower upper p e
by_split (Some x) (Some y) upper lower s t p other e = cc
by_split None None upper lower s t p other e = cc

by_test : (b : Bool) (t : Tree) (m : BitVector) (p other : Peeled) → (if b then with_number t m else None) ≡ Some p →
    (if b then peeled t m else other) ≡ onward p
by_test true t m p other e = ap onward (some_is (record { term = t; number = m }) p e)
by_test false t m p other e = cc

pub undone_peeled : (t : Tree) (n : BitVector) (p : Peeled) → undone t n ≡ Some p → peeled t n ≡ peeled p.term p.number
unfolding peeled
undone_peeled (Complement t) n p e = ap onward (some_is (record { term = t; number = bvnot n }) p e)
undone_peeled (Negated t) n p e = ap onward (some_is (record { term = t; number = bvneg n }) p e)
undone_peeled (Two op s t) n p e = by_two op (tree_number s) (tree_number t) n s t p (record { term = Two op s t; number = n }) e
undone_peeled (Widened by signed t) n p e =
    by_test (is_widened by signed t n) t (low_bits t n) p (record { term = Widened by signed t; number = n }) e
undone_peeled (Joined s t) n p e =
    by_split (tree_number s) (tree_number t) (bits_above t n) (low_bits t n) s t p (record { term = Joined s t; number = n }) e
undone_peeled t n p e = cc

none_of : (o : Option BitVector) (t : Tree) (other : Peeled) → on_some o (with_number t) None ≡ None → on_some o (λ m. peeled t m) other ≡ other
none_of (Some m) t other e = cc
none_of None t other e = refl

none_of_two : (op : BinaryOp) (x y : Option BitVector) (n : BitVector) (s t : Tree) (other : Peeled) →
    undone_by op x y n (with_number s) (with_number t) None ≡ None → undone_by op x y n (λ m. peeled s m) (λ m. peeled t m) other ≡ other
none_of_two op None (Some y) n s t other e = none_of (undone_second op n y) s other e
none_of_two op (Some x) None n s t other e = none_of (undone_first op n x) t other e
none_of_two op (Some x) (Some y) n s t other e = refl
none_of_two op None None n s t other e = refl

none_by_test : (b : Bool) (t : Tree) (m : BitVector) (other : Peeled) → (if b then with_number t m else None) ≡ None →
    (if b then peeled t m else other) ≡ other
none_by_test true t m other e = cc
none_by_test false t m other e = refl

none_of_either : (b : Bool) (s t : Tree) (m k : BitVector) → (if b then with_number s m else with_number t k) ≡ None → {X : Type 0} → X
none_of_either true s t m k e = cc
none_of_either false s t m k e = cc

none_by_split : (x y : Option BitVector) (upper lower : BitVector) (s t : Tree) (other : Peeled) →
    split_by x y upper lower (with_number s) (with_number t) None ≡ None → split_by x y upper lower (λ m. peeled s m) (λ m. peeled t m) other ≡ other
none_by_split None (Some y) upper lower s t other e = none_of_either (y.number == lower.number) s t upper lower e
none_by_split (Some x) None upper lower s t other e = none_of_either (x.number == upper.number) t s lower upper e
none_by_split (Some x) (Some y) upper lower s t other e = refl
none_by_split None None upper lower s t other e = refl

pub undone_none : (t : Tree) (n : BitVector) → undone t n ≡ None → peeled t n ≡ record { term = t; number = n }
unfolding peeled
undone_none (Complement t) n e = cc
undone_none (Negated t) n e = cc
undone_none (Two op s t) n e = none_of_two op (tree_number s) (tree_number t) n s t (record { term = Two op s t; number = n }) e
undone_none (Widened by signed t) n e =
    none_by_test (is_widened by signed t n) t (low_bits t n) (record { term = Widened by signed t; number = n }) e
undone_none (Joined s t) n e =
    none_by_split (tree_number s) (tree_number t) (bits_above t n) (low_bits t n) s t (record { term = Joined s t; number = n }) e
undone_none t n e = refl

-- ---- what it is worth
plus_comm : (a b : ℕ) → a + b ≡ b + a
plus_comm a b = omega arith

word_is : (m n : BitVector) → Some m ≡ Some n → m ≡ n
word_is m n e = cc

word_term : (inputs w : ℕ) (n : BitVector) → IsOfWidth w n → IsTerm inputs (Constant n.width n.number)
word_term inputs w n p = rw p.width (record { not_empty = p.not_empty; at_most_64 = p.at_most_64; in_range = p.in_range })

module _ (input : List ℕ) (bytes : All (λ b. b < 256) input) (w : ℕ) (n : BitVector) (r : IsOfWidth w n) where
  not_in : IsOfWidth w (bvnot n)
  not_in = rw (← r.width) (in_range 0 input bytes (Complement (Constant n.width n.number)) (word_term 0 w n r))

  pub neg_in : IsOfWidth w (bvneg n)
  neg_in = rw (← r.width) (in_range 0 input bytes (Negated (Constant n.width n.number)) (word_term 0 w n r))

  two_in : (op : BinaryOp) (y : BitVector) → IsOfWidth w y → IsOfWidth w (binary op n y)
  two_in op y q = rw (← r.width) (in_range 0 input bytes (Two op (Constant n.width n.number) (Constant y.width y.number))
      (word_term 0 w n r, word_term 0 w y q, r.width ∙ sym q.width))

module _ (w : ℕ) (x y n : BitVector) (p : IsOfWidth w x) (q : IsOfWidth w y) (r : IsOfWidth w n) where
  pub tested_plus : equal x (bvsub n y) ≡ equal (bvadd x y) n
  unfolding bvadd bvsub equal
  tested_plus = rw (p.width, q.width, r.width) (ap bit (sym (plus_test (2 ^ w) x.number y.number n.number p.in_range q.in_range r.in_range)))

  tested_less : equal x (bvadd n y) ≡ equal (bvsub x y) n
  unfolding bvadd bvsub equal
  tested_less = rw (p.width, q.width, r.width) (ap bit (sym (less_test (2 ^ w) x.number y.number n.number p.in_range q.in_range r.in_range)))

  pub tested_from : equal y (bvsub x n) ≡ equal (bvsub x y) n
  unfolding bvsub equal
  tested_from = rw (p.width, q.width, r.width) (ap bit (sym (from_test (2 ^ w) x.number y.number n.number p.in_range q.in_range r.in_range)))

  tested_xor : equal x (bvxor n y) ≡ equal (bvxor x y) n
  unfolding bvxor equal
  tested_xor = ap bit (sym (xor_test x.number y.number n.number))

  tested_not : equal x (bvnot n) ≡ equal (bvnot x) n
  unfolding bvnot equal
  tested_not = rw (p.width, r.width) (ap bit (sym (complement_test (2 ^ w) x.number n.number p.in_range r.in_range)))

  tested_neg : equal x (bvneg n) ≡ equal (bvneg x) n
  unfolding bvneg equal
  tested_neg = rw (p.width, r.width) (ap bit (sym (negative_test (2 ^ w) x.number n.number p.in_range r.in_range)))

-- two bit-vectors are as they are widened
module _ (w by a b : ℕ) (p : a < 2 ^ w) (q : b < 2 ^ w) where
  as_widened : (signed : Bool) → (extend signed by (record { width = w; number = a })).number ≡ (extend signed by (record { width = w; number = b })).number → a ≡ b
  unfolding sign_extend zero_extend
  as_widened false e = e
  as_widened true e =
      elim (le_tells (2 ^ (w - 1)) a) [
        | inl s ↦ elim (le_tells (2 ^ (w - 1)) b) [
          | inl t ↦ let f = rw (s.0, t.0) at e in omega (arith, f)
          | inr t ↦ let f = rw (s.0, t.0) at e in omega (arith, f, s.1, t.1)
        ]
        | inr s ↦ elim (le_tells (2 ^ (w - 1)) b) [
          | inl t ↦ let f = rw (s.0, t.0) at e in omega (arith, f, s.1, t.1)
          | inr t ↦ let f = rw (s.0, t.0) at e in omega (arith, f)
        ]
      ]

tested_widened : (w by : ℕ) (signed : Bool) (x m n : BitVector) → IsOfWidth w x → IsOfWidth w m → (extend signed by m).number ≡ n.number →
    equal x m ≡ equal (extend signed by x) n
unfolding equal
tested_widened w by signed x m n p q e =
    let own : x ≡ record { width = w; number = x.number } = by_parts w x.number x p.width refl in
    let other : m ≡ record { width = w; number = m.number } = by_parts w m.number m q.width refl in
    ap bit (same_tests x.number m.number (extend signed by x).number n.number
    (λ f. ap (λ (v : BitVector). (extend signed by v).number) (own ∙ ap (λ k. record { width = w; number = k }) f ∙ sym other) ∙ e)
    (λ f. as_widened w by x.number m.number p.in_range q.in_range signed
    (ap (λ (v : BitVector). (extend signed by v).number) (sym own) ∙ f ∙ sym e ∙ ap (λ (v : BitVector). (extend signed by v).number) other)))

low_sum : (a b c : ℕ) → (a * b + c) % b ≡ c % b
low_sum a b c = ap (λ k. k % b) (plus_comm (a * b) c) ∙ add-mul-mod_self_right c a b

-- two bit-vectors joined are a number where each is as that has its bits
module _ (v w : ℕ) (x y n : BitVector) (p : IsOfWidth v x) (q : IsOfWidth w y) (r : IsOfWidth (v + w) n) where
  upper_is : extract (n.width - 1) w n ≡ record { width = v; number = n.number / 2 ^ w }
  unfolding extract
  upper_is =
      let wide : n.width - 1 - w + 1 ≡ v = omega (arith, r.width, p.not_empty) in
      by_parts v (n.number / 2 ^ w) _ wide (ap (λ k. n.number / 2 ^ w % 2 ^ k) wide ∙ mod-eq_of_lt (shr_below n.number v w r.in_range))

  lower_is : extract (w - 1) 0 n ≡ record { width = w; number = n.number % 2 ^ w }
  unfolding extract
  lower_is =
      let wide : w - 1 - 0 + 1 ≡ w = omega (arith, q.not_empty) in
      by_parts w (n.number % 2 ^ w) _ wide (ap (λ k. n.number / 1 % 2 ^ k) wide ∙ ap (λ k. k % 2 ^ w) (div-one n.number))

  upper_in : IsOfWidth v (extract (n.width - 1) w n)
  upper_in = rw upper_is (record { width = refl; not_empty = p.not_empty; at_most_64 = p.at_most_64; in_range = shr_below n.number v w r.in_range })

  lower_in : IsOfWidth w (extract (w - 1) 0 n)
  lower_in = rw lower_is (record { width = refl; not_empty = q.not_empty; at_most_64 = q.at_most_64; in_range = mod_below n.number (2 ^ w) (pow_pos w) })

  -- the number of the two, by its parts
  whole_number : x.number * 2 ^ w + y.number ≡ n.number → (x.number ≡ n.number / 2 ^ w) × (y.number ≡ n.number % 2 ^ w)
  whole_number e = (
    sym (shr_high x.number w y.number q.in_range) ∙ ap (λ k. k / 2 ^ w) e,
    sym (mod-eq_of_lt q.in_range) ∙ sym (low_sum x.number (2 ^ w) y.number) ∙ ap (λ k. k % 2 ^ w) e,
  )

  two_parts : x.number ≡ n.number / 2 ^ w → y.number ≡ n.number % 2 ^ w → x.number * 2 ^ w + y.number ≡ n.number
  two_parts e f = rw (e, f) (shr_split n.number w)

  tested_upper : y.number ≡ (extract (w - 1) 0 n).number → equal x (extract (n.width - 1) w n) ≡ equal (concat x y) n
  unfolding concat equal
  tested_upper e =
      let same : y.number ≡ n.number % 2 ^ w = e ∙ ap (λ (k : BitVector). k.number) lower_is in
      rw (q.width, upper_is) (ap bit (same_tests x.number (n.number / 2 ^ w) (x.number * 2 ^ w + y.number) n.number
      (λ f. two_parts f same) (λ f. (whole_number f).0)))

  tested_lower : x.number ≡ (extract (n.width - 1) w n).number → equal y (extract (w - 1) 0 n) ≡ equal (concat x y) n
  unfolding concat equal
  tested_lower e =
      let same : x.number ≡ n.number / 2 ^ w = e ∙ ap (λ (k : BitVector). k.number) upper_is in
      rw (q.width, lower_is) (ap bit (same_tests y.number (n.number % 2 ^ w) (x.number * 2 ^ w + y.number) n.number
      (λ f. two_parts same f) (λ f. (whole_number f).1)))

  apart_lower : (y.number ≡ (extract (w - 1) 0 n).number → ⊥) → equal y (extract (w - 1) 0 n) ≡ equal (concat x y) n
  unfolding concat equal
  apart_lower other =
      rw q.width (ap bit (same_tests y.number (extract (w - 1) 0 n).number (x.number * 2 ^ w + y.number) n.number
      (λ f. absurd (other f)) (λ f. absurd (other ((whole_number f).1 ∙ sym (ap (λ (k : BitVector). k.number) lower_is))))))

  apart_upper : (x.number ≡ (extract (n.width - 1) w n).number → ⊥) → equal x (extract (n.width - 1) w n) ≡ equal (concat x y) n
  unfolding concat equal
  apart_upper other =
      rw q.width (ap bit (same_tests x.number (extract (n.width - 1) w n).number (x.number * 2 ^ w + y.number) n.number
      (λ f. absurd (other f)) (λ f. absurd (other ((whole_number f).0 ∙ sym (ap (λ (k : BitVector). k.number) upper_is))))))

where_so : (b : Bool) (o p : Peeled) → (if b then Some o else None) ≡ Some p → (b ≡ true) × (o ≡ p)
where_so true o p e = (refl, some_is o p e)
where_so false o p e = cc

sum_turned : (w : ℕ) (x y : BitVector) → IsOfWidth w x → IsOfWidth w y → bvadd x y ≡ bvadd y x
unfolding bvadd
sum_turned w x y p q = rw (p.width, q.width, plus_comm x.number y.number) refl

xor_turned : (w : ℕ) (x y : BitVector) → IsOfWidth w x → IsOfWidth w y → bvxor x y ≡ bvxor y x
unfolding bvxor
xor_turned w x y p q = rw (p.width, q.width, xor_comm x.number y.number) refl

-- the term that is left, and its number of as many bits
pub record IsUndone (input : List ℕ) (t : Tree) (n : BitVector) (p : Peeled) : Type 0 where
  pub number : IsOfWidth (tree_width p.term) p.number
  pub worth : equal (tree_value input p.term) p.number ≡ equal (tree_value input t) n

some_of : (o : Option BitVector) (t : Tree) (p : Peeled) → on_some o (with_number t) None ≡ Some p → (o ≡ Some p.number) × (t ≡ p.term)
some_of (Some m) t p e =
    let same : record { term = t; number = m } ≡ p = some_is (record { term = t; number = m }) p e in
    (ap (λ (q : Peeled). Some q.number) same, ap (λ (q : Peeled). q.term) same)
some_of None t p e = cc

module _ (inputs : ℕ) (input : List ℕ) (bytes : All (λ b. b < 256) input) where
  second_undone : (op : BinaryOp) (w : ℕ) (x y n m : BitVector) → IsOfWidth w x → IsOfWidth w y → IsOfWidth w n → undone_second op n y ≡ Some m →
      IsOfWidth w m × (equal x m ≡ equal (binary op x y) n)
  second_undone Add w x y n m p q r e = rw (← word_is (bvsub n y) m e) (two_in input bytes w n r Sub y q, tested_plus w x y n p q r)
  second_undone Sub w x y n m p q r e = rw (← word_is (bvadd n y) m e) (two_in input bytes w n r Add y q, tested_less w x y n p q r)
  second_undone Xor w x y n m p q r e = rw (← word_is (bvxor n y) m e) (two_in input bytes w n r Xor y q, tested_xor w x y n p q r)
  second_undone op w x y n m p q r e = cc

  first_undone : (op : BinaryOp) (w : ℕ) (x y n m : BitVector) → IsOfWidth w x → IsOfWidth w y → IsOfWidth w n → undone_first op n x ≡ Some m →
      IsOfWidth w m × (equal y m ≡ equal (binary op x y) n)
  first_undone Add w x y n m p q r e =
      rw (← word_is (bvsub n x) m e, sum_turned w x y p q) (two_in input bytes w n r Sub x p, tested_plus w y x n q p r)
  first_undone Sub w x y n m p q r e = rw (← word_is (bvsub x n) m e) (two_in input bytes w x p Sub n r, tested_from w x y n p q r)
  first_undone Xor w x y n m p q r e =
      rw (← word_is (bvxor n x) m e, xor_turned w x y p q) (two_in input bytes w n r Xor x p, tested_xor w y x n q p r)
  first_undone op w x y n m p q r e = cc

  of_two : (op : BinaryOp) (s t : Tree) (n : BitVector) (p : Peeled) (x y : Option BitVector) → tree_number s ≡ x → tree_number t ≡ y →
      IsTerm inputs (Two op s t) → IsOfWidth (tree_width s) n → undone_by op x y n (with_number s) (with_number t) None ≡ Some p → IsUndone input (Two op s t) n p
  of_two op s t n p None (Some y) e f term r is =
      let (number, at) = some_of (undone_second op n y) s p is in
      let right : IsOfWidth (tree_width s) y = rw (← number_value input t y f, term.2) (in_range inputs input bytes t term.1) in
      let made = second_undone op (tree_width s) (tree_value input s) y n p.number (in_range inputs input bytes s term.0) right r number in
      record { number = rw (← at) made.0; worth = rw (← at, number_value input t y f) made.1 }
  of_two op s t n p (Some x) None e f term r is =
      let (number, at) = some_of (undone_first op n x) t p is in
      let left : IsOfWidth (tree_width s) x = rw (← number_value input s x e) (in_range inputs input bytes s term.0) in
      let right : IsOfWidth (tree_width s) (tree_value input t) = rw term.2 (in_range inputs input bytes t term.1) in
      let made = first_undone op (tree_width s) x (tree_value input t) n p.number left right r number in
      record { number = rw (← at, ← term.2) made.0; worth = rw (← at, number_value input s x e) made.1 }
  of_two op s t n p (Some x) (Some y) e f term r is = cc
  of_two op s t n p None None e f term r is = cc

  low_in : (w : ℕ) (n : BitVector) → 0 < w → w < n.width → IsOfWidth n.width n → IsOfWidth w (extract (w - 1) 0 n)
  low_in w n some less r =
      let whole : w - 1 - 0 + 1 ≡ w = omega (arith, some) in
      subst (λ k. IsOfWidth k (extract (w - 1) 0 n)) whole (in_range 0 input bytes (Part (w - 1) 0 (Constant n.width n.number))
      (word_term 0 n.width n r, omega arith, omega (arith, some, less)))

  of_widened : (by : ℕ) (signed : Bool) (t : Tree) (n : BitVector) (p : Peeled) → IsTerm inputs (Widened by signed t) → IsOfWidth (tree_width t + by) n →
      undone (Widened by signed t) n ≡ Some p → IsUndone input (Widened by signed t) n p
  of_widened by signed t n p term r e =
      let (fits, is) = where_so (is_widened by signed t n) (record { term = t; number = low_bits t n }) p e in
      let own = in_range inputs input bytes t term.0 in
      let low : IsOfWidth (tree_width t) (low_bits t n) =
      low_in (tree_width t) n own.not_empty (omega (arith, r.width, term.1)) (subst (λ k. IsOfWidth k n) (sym r.width) r) in
      rw (← is) (record {
        number = low;
        worth = tested_widened (tree_width t) by signed (tree_value input t) (low_bits t n) n own low (is_number _ _ fits);
      })

  module _ (s t : Tree) (n : BitVector) (term : IsTerm inputs (Joined s t)) (r : IsOfWidth (tree_width s + tree_width t) n) where
    left : IsOfWidth (tree_width s) (tree_value input s)
    left = in_range inputs input bytes s term.0

    right : IsOfWidth (tree_width t) (tree_value input t)
    right = in_range inputs input bytes t term.1

    to_upper : equal (tree_value input s) (bits_above t n) ≡ equal (concat (tree_value input s) (tree_value input t)) n →
        IsUndone input (Joined s t) n (record { term = s; number = bits_above t n })
    to_upper worth = record { number = upper_in (tree_width s) (tree_width t) (tree_value input s) (tree_value input t) n left right r; worth = worth }

    to_lower : equal (tree_value input t) (low_bits t n) ≡ equal (concat (tree_value input s) (tree_value input t)) n →
        IsUndone input (Joined s t) n (record { term = t; number = low_bits t n })
    to_lower worth = record { number = lower_in (tree_width s) (tree_width t) (tree_value input s) (tree_value input t) n left right r; worth = worth }

    of_either : (b : Bool) (u v p : Peeled) → (b ≡ true → IsUndone input (Joined s t) n u) → (b ≡ false → IsUndone input (Joined s t) n v) →
        (if b then Some u else Some v) ≡ Some p → IsUndone input (Joined s t) n p
    of_either true u v p f g e = subst (IsUndone input (Joined s t) n) (some_is u p e) (f refl)
    of_either false u v p f g e = subst (IsUndone input (Joined s t) n) (some_is v p e) (g refl)

    of_joined : (p : Peeled) (x y : Option BitVector) → tree_number s ≡ x → tree_number t ≡ y →
        split_by x y (bits_above t n) (low_bits t n) (with_number s) (with_number t) None ≡ Some p → IsUndone input (Joined s t) n p
    of_joined p None (Some y) e f is =
        let own : y.number ≡ (tree_value input t).number = ap (λ (v : BitVector). v.number) (sym (number_value input t y f)) in
        of_either (y.number == (low_bits t n).number) (record { term = s; number = bits_above t n }) (record { term = t; number = low_bits t n }) p
        (λ h. to_upper (tested_upper (tree_width s) (tree_width t) (tree_value input s) (tree_value input t) n left right r (sym own ∙ is_number _ _ h)))
        (λ h. to_lower (apart_lower (tree_width s) (tree_width t) (tree_value input s) (tree_value input t) n left right r
        (λ k. is_apart _ _ h (own ∙ k)))) is
    of_joined p (Some x) None e f is =
        let own : x.number ≡ (tree_value input s).number = ap (λ (v : BitVector). v.number) (sym (number_value input s x e)) in
        of_either (x.number == (bits_above t n).number) (record { term = t; number = low_bits t n }) (record { term = s; number = bits_above t n }) p
        (λ h. to_lower (tested_lower (tree_width s) (tree_width t) (tree_value input s) (tree_value input t) n left right r (sym own ∙ is_number _ _ h)))
        (λ h. to_upper (apart_upper (tree_width s) (tree_width t) (tree_value input s) (tree_value input t) n left right r
        (λ k. is_apart _ _ h (own ∙ k)))) is
    of_joined p (Some x) (Some y) e f is = cc
    of_joined p None None e f is = cc

  pub undone_worth : (t : Tree) (n : BitVector) (p : Peeled) → IsTerm inputs t → IsOfWidth (tree_width t) n → undone t n ≡ Some p → IsUndone input t n p
  undone_worth (Complement t) n p term r e =
      rw (← some_is (record { term = t; number = bvnot n }) p e) (record {
        number = not_in input bytes (tree_width t) n r;
        worth = tested_not (tree_width t) (tree_value input t) n n (in_range inputs input bytes t term) r r;
      })
  undone_worth (Negated t) n p term r e =
      rw (← some_is (record { term = t; number = bvneg n }) p e) (record {
        number = neg_in input bytes (tree_width t) n r;
        worth = tested_neg (tree_width t) (tree_value input t) n n (in_range inputs input bytes t term) r r;
      })
  undone_worth (Two op s t) n p term r e = of_two op s t n p (tree_number s) (tree_number t) refl refl term r e
  undone_worth (Widened by signed t) n p term r e = of_widened by signed t n p term r e
  undone_worth (Joined s t) n p term r e = of_joined s t n term r p (tree_number s) (tree_number t) refl refl e
  undone_worth t n p term r e = cc
