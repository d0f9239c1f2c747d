-- A test of a number below a sum is worth what it is made as.
use Rattle.std.proofs.Common.{◌≡◌, ◌∙◌, ◌==◌, ℕ, ◌+◌, ◌%◌, ◌^◌, ◌<◌, Bool, true, false, cond, not, List, Some, None, length, refl, ap, sym, subst, arith, inl, inr}
use Rattle.std.specs.Prelude.{IfSome, Option, Result, Ok, Err, nat_lt, option_and_then, option_map}
use Rattle.std.specs.List.{All}
use Rattle.std.specs.Result.{IfOk}
use Rattle.std.proofs.Math.Nat.{mod-eq_of_lt}
use Rattle.std.proofs.lemmas.Bool.Decides.{eqb_tells}
use Rattle.bv_dag.specs.BitVectors.{BitVector, bit, bvadd, bvnot, bvult}
use Rattle.bv_dag.specs.Graphs.{Graph, IsDag, val}
use Rattle.bv_dag.specs.Nodes.{Fits, compare, widths_of}
use Rattle.bv_dag.specs.declared.nodes.BinaryOp.TheVariants.{Add}
use Rattle.bv_dag.specs.declared.nodes.Comparison.{Comparison}
use Rattle.bv_dag.specs.declared.nodes.Comparison.TheVariants.{Ult, Slt, Eq}
use Rattle.bv_dag.specs.declared.nodes.Node.{Node}
use Rattle.bv_dag.specs.declared.nodes.Node.TheVariants.{Num, Input, Not, Neg, Binary, Compare, Ite, Extract, Extend, Concat}
use Rattle.term_trees.specs.Trees.{Tree, tree_of, tree_value, tree_width, IsOfWidth, IsTerm}
use Rattle.term_trees.proofs.Terms.{is_term}
use Rattle.term_trees.proofs.TreeLaws.{value-tree_of, width-tree_of}
use Rattle.term_simplify.specs.Above.{above_by, has_one_test, interval_above, of_one_test}
use Rattle.term_simplify.specs.Builds.{Builds, BuildsAs}
use Rattle.term_simplify.specs.Intervals.{Interval, IsBetween, between_at, interval_of, interval_word}
use Rattle.term_simplify.specs.Moves.{unmoved, unshifted}
use Rattle.term_simplify.specs.Outside.{IsAbove}
use Rattle.term_simplify.specs.Plain.{tree_number}
use Rattle.term_simplify.specs.Simplified.{asked, comparison_of, outside, outside_if}
use Rattle.term_simplify.specs.declared.intervals.Between.{Between}
use Rattle.term_simplify.proofs.IntervalRules.{interval_worth}
use Rattle.term_simplify.proofs.OffsetReading.{of_words}
use Rattle.term_simplify.proofs.OperationNumbers.{not_number}
use Rattle.term_simplify.proofs.Reading.{has_second_term, has_term}
use Rattle.term_simplify.proofs.Telling.{number_at_second}
use Rattle.term_simplify.proofs.Words.{lt_tells, number_value, tests_below, tests_equal, tests_not_below, tests_unequal, two_values}

-- ---- a number is below another where that isn't below the next
next_below : (a b : ℕ) → not (nat_lt b (a + 1)) ≡ nat_lt a b
next_below a b =
    elim (lt_tells a b) [
      | inl h ↦ rw (h.0, tests_not_below b (a + 1) (omega (arith, h.1))) refl
      | inr h ↦ rw (h.0, tests_below b (a + 1) (omega (arith, h.1))) refl
    ]

above_next : (w : ℕ) (x v : BitVector) → IsOfWidth w x → ((bvnot x).number ≡ 0 → ⊥) →
    bvnot (bvult v (bvadd x (record { width = x.width; number = 1 }))) ≡ bvult x v
unfolding bvnot bvult bvadd
above_next w x v p other =
    let power : 2 ^ x.width ≡ 2 ^ w = ap (λ k. 2 ^ k) p.width in
    let few : x.number + 1 < 2 ^ x.width = elim (lt_tells (x.number + 1) (2 ^ x.width)) [
      | inl h ↦ h.1
      | inr h ↦ absurd (other (omega (arith, h.1)))
    ] in
    not_number (nat_lt v.number ((x.number + 1) % 2 ^ x.width))
    ∙ ap bit (ap (λ n. not (nat_lt v.number n)) (mod-eq_of_lt few) ∙ next_below x.number v.number)

-- ---- which interval it is
one_kept : (b : Bool) (i j : Interval) → cond b (Some i) None ≡ Some j → i ≡ j
one_kept true i j e = cc
one_kept false i j e = cc

one_test_of : (o : Option Interval) (i : Interval) → option_and_then of_one_test o ≡ Some i → o ≡ Some i
one_test_of (Some j) i e = ap Some (one_kept (has_one_test j) j i e)
one_test_of None i e = cc

kept_if : (b : Bool) (o : Option Interval) (i : Interval) → cond b None o ≡ Some i → (b ≡ false) × (o ≡ Some i)
kept_if true o i e = cc
kept_if false o i e = (refl, e)

module _ (inputs : ℕ) (input : List ℕ) (bytes : All (λ b. b < 256) input) where
  pub above_worth : (x : BitVector) (t : Tree) (i : Interval) → IsTerm inputs t → IsOfWidth (tree_width t) x →
      IsOfWidth (tree_width t) (bvadd x (record { width = x.width; number = 1 })) → interval_above x t ≡ Some i →
      bvnot (interval_word (tree_value input i.term) i.low i.high) ≡ bvult x (tree_value input t)
  above_worth x t i term number next is =
      let (other, found) = kept_if ((bvnot x).number == 0) _ i is in
      let apart : (bvnot x).number ≡ 0 → ⊥ = elim (eqb_tells (bvnot x).number 0) [
        | inl e ↦ let both : true ≡ false = sym e.0 ∙ other in cc
        | inr e ↦ e.1
      ] in
      ap bvnot (interval_worth inputs input bytes t (bvadd x (record { width = x.width; number = 1 })) i term next (one_test_of _ i found))
      ∙ above_next (tree_width t) x (tree_value input t) number apart

-- ---- as the code finds it
pub one : (w : ℕ) (x : BitVector) → IsOfWidth w x → IsOfWidth w (record { width = x.width; number = 1 })
one w x p = record { width = p.width; not_empty = p.not_empty; at_most_64 = p.at_most_64; in_range = omega (arith, two_values w p.not_empty) }

module _ (x next : BitVector) (t : Tree) (is : next ≡ bvadd x (record { width = x.width; number = 1 })) where
  pub above_ones : (bvnot x).number ≡ 0 → None ≡ interval_above x t
  above_ones e = rw (tests_equal (bvnot x).number 0 e) refl

  module _ (other : (bvnot x).number ≡ 0 → ⊥) where
    pub above_none : None ≡ interval_of t next → None ≡ interval_above x t
    above_none e = rw (tests_unequal (bvnot x).number 0 other) (ap (option_and_then of_one_test) (e ∙ ap (interval_of t) is))

    pub above_found : (i : Interval) → Some i ≡ interval_of t next → has_one_test i ≡ true → Some i ≡ interval_above x t
    above_found i e one =
        rw (tests_unequal (bvnot x).number 0 other)
        (sym (ap (λ b. cond b (Some i) None) one) ∙ ap (option_and_then of_one_test) (e ∙ ap (interval_of t) is))

    pub above_more : (i : Interval) → Some i ≡ interval_of t next → has_one_test i ≡ false → None ≡ interval_above x t
    above_more i e more =
        rw (tests_unequal (bvnot x).number 0 other)
        (sym (ap (λ b. cond b (Some i) None) more) ∙ ap (option_and_then of_one_test) (e ∙ ap (interval_of t) is))

-- ---- of a node
pub no_above : (g : Graph) (a b : ℕ) (op : Comparison) (r : Option Between) →
    option_map (between_at g) r ≡ above_by op (tree_number (tree_of g a)) (tree_number (tree_of g b)) (tree_of g b) → r ≡ None →
    unshifted (tree_of g) (Compare op a b) ≡ unmoved (tree_of g) (Compare op a b)
unfolding comparison_of
no_above g a b op r is none =
    ap (λ o. outside_if o (asked op (tree_of g a) (tree_of g b))) (sym is ∙ ap (option_map (between_at g)) none)

module _ (g : Graph) (dag : IsDag g) (a b : ℕ) where
  module _ (i : Between) (input : List ℕ) (bytes : All (λ b. b < 256) input) where
    by_kind : (op : Comparison) (m n : Option BitVector) → Fits g.inputs (widths_of g.nodes) (Compare op a b) → tree_number (tree_of g a) ≡ m →
        Some (between_at g i) ≡ above_by op m n (tree_of g b) →
        bvnot (interval_word (val g i.term input) i.low i.high) ≡ compare op (val g a input) (val g b input)
    by_kind Ult (Some x) None fits first found =
        let at : b < length g.nodes = has_second_term g a b fits.0 fits.1 in
        let number : IsOfWidth (tree_width (tree_of g b)) x =
        rw (width-tree_of g b) (number_at_second g dag b a x at (has_term g a fits.0) (sym fits.1) first).number in
        ap (λ v. bvnot (interval_word v i.low i.high)) (sym (value-tree_of g i.term input))
        ∙ above_worth g.inputs input bytes x (tree_of g b) (between_at g i) (is_term g b dag at) number
        (of_words (tree_width (tree_of g b)) Add x (record { width = x.width; number = 1 }) number (one (tree_width (tree_of g b)) x number)) (sym found)
        ∙ ap (bvult x) (value-tree_of g b input)
        ∙ ap (λ v. bvult v (val g b input)) (sym (number_value input (tree_of g a) x first) ∙ value-tree_of g a input)
    by_kind Ult (Some x) (Some y) fits first found = cc
    by_kind Ult None n fits first found = cc
    by_kind Slt m n fits first found = cc
    by_kind Eq m n fits first found = cc

  pub is_above : (op : Comparison) (i : Between) → Fits g.inputs (widths_of g.nodes) (Compare op a b) → IsBetween g i →
      Some (between_at g i) ≡ above_by op (tree_number (tree_of g a)) (tree_number (tree_of g b)) (tree_of g b) → IsAbove g (Compare op a b) i
  unfolding comparison_of
  is_above op i fits is found = record {
    is_between = is;
    tree = sym (ap (λ o. outside_if o (asked op (tree_of g a) (tree_of g b))) found);
    bits = refl;
    worth = λ input bytes. by_kind i input bytes op (tree_number (tree_of g a)) (tree_number (tree_of g b)) fits refl found;
  }

pub some_above : (g : Graph) (a b : ℕ) (op : Comparison) (r : Option Between) → Fits g.inputs (widths_of g.nodes) (Compare op a b) →
    option_map (between_at g) r ≡ above_by op (tree_number (tree_of g a)) (tree_number (tree_of g b)) (tree_of g b) →
    IfSome r (λ i. IsBetween g i × IsDag g) → IfSome r (λ i. IsAbove g (Compare op a b) i)
some_above g a b op (Some i) fits is q = is_above g q.1 a b op i fits q.0 is
some_above g a b op None fits is q = tt

-- any other node
pub no_test : (f : ℕ → Tree) (n : Node) → ((op : Comparison) (a b : ℕ) → n ≡ Compare op a b → ⊥) → unshifted f n ≡ unmoved f n
no_test f (Compare op a b) other = absurd (other op a b refl)
no_test f (Num w v) other = refl
no_test f (Input i) other = refl
no_test f (Not a) other = refl
no_test f (Neg a) other = refl
no_test f (Binary op a b) other = refl
no_test f (Ite c a b) other = refl
no_test f (Extract high low a) other = refl
no_test f (Extend by signed a) other = refl
no_test f (Concat a b) other = refl

-- an answer that was found in an equal graph
pub outside_here : {E : Type 0} (h g more : Graph) (r : Result ℕ E) (node : Node) (b : Between) → h ≡ g → IsAbove h node b →
    IfOk r (λ id. Builds g more id (outside (between_at g b)) 1 (λ input. bvnot (interval_word (val g b.term input) b.low b.high))) →
    IfOk r (BuildsAs (unshifted (tree_of g) node) g more node)
outside_here h g more (Ok id) node b e is built =
    let here : IsAbove g node b = subst (λ (k : Graph). IsAbove k node b) e is in
    record {
      continues = built.continues;
      there = built.there;
      tree = built.tree ∙ sym here.tree;
      width = built.width ∙ sym here.bits;
      value = λ input bytes. built.value input bytes ∙ here.worth input bytes;
    }
outside_here h g more (Err x) node b e is built = tt
