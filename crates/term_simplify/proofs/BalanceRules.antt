-- Two sums with numbers are equal where the one term is the other and the difference of the numbers.
use Rattle.std.proofs.Common.{◌≡◌, ◌∙◌, ℕ, ◌<◌, Bool, true, false, cond, List, Some, None, refl, ap, sym}
use Rattle.std.specs.Prelude.{Option}
use Rattle.std.specs.List.{All}
use Rattle.std.specs.Option.{IfSome}
use Rattle.bv_dag.specs.BitVectors.{BitVector, bvadd, bvneg, bvsub, equal, is_negative}
use Rattle.bv_dag.specs.declared.nodes.BinaryOp.TheVariants.{Sub}
use Rattle.term_trees.specs.Trees.{Tree, tree_width, tree_value, IsTerm, IsOfWidth}
use Rattle.term_trees.proofs.Ranges.{in_range}
use Rattle.term_simplify.specs.Balances.{Balance, balance_by, balance_from, balance_of, balance_with}
use Rattle.term_simplify.specs.Offsets.{Offset}
use Rattle.term_simplify.specs.Pairs.{numbered_of}
use Rattle.term_simplify.proofs.OffsetNumbers.{add_negative, from_taken, less_word}
use Rattle.term_simplify.proofs.OffsetRules.{Reads, of_words, term_word}
use Rattle.term_simplify.proofs.PairRules.{reads_numbered}
use Rattle.term_simplify.proofs.Telling.{turned}
use Rattle.term_simplify.proofs.Undoing.{tested_from, tested_plus}

module _ (inputs : ℕ) (input : List ℕ) (bytes : All (λ b. b < 256) input) where
  -- it tells this test
  abbrev pub Balances : BitVector → Balance → Type 0
  Balances test b = equal (tree_value input b.first) (bvadd (tree_value input b.second) b.number) ≡ test

  -- the other way round, with the negative of the number
  by_sign : (w : ℕ) (test n : BitVector) (s t : Tree) → IsOfWidth w (tree_value input s) → IsOfWidth w (tree_value input t) → IsOfWidth w n →
      equal (tree_value input s) (bvadd (tree_value input t) n) ≡ test → Balances test (balance_by n s t)
  by_sign w test n s t p q r e =
      elim (is_negative n) as (λ k. Balances test (cond k (record { first = t; second = s; number = bvneg n }) (record { first = s; second = t; number = n }))) [
        | true ↦
            ap (equal (tree_value input t)) (sym (add_negative w (tree_value input s) n p r))
            ∙ tested_plus w (tree_value input t) n (tree_value input s) q r p
            ∙ turned (bvadd (tree_value input t) n) (tree_value input s) ∙ e
        | false ↦ e
      ]

  module _ (w : ℕ) (u v : BitVector) (o p : Offset) (left : Reads inputs input bytes w u o) (right : Reads inputs input bytes w v p) (v_in : IsOfWidth w v) where
    abbrev pub x : BitVector
    x = tree_value input o.term

    abbrev pub y : BitVector
    y = tree_value input p.term

    x_in : IsOfWidth w x
    x_in = term_word inputs input bytes w u o left

    y_in : IsOfWidth w y
    y_in = term_word inputs input bytes w v p right

    with_worth : (first second : Bool) → o.taken ≡ first → p.taken ≡ second → IfSome (balance_with first second o p) (Balances (equal u v))
    with_worth false false e f =
        let c = o.number in
        let is : v ≡ bvadd y p.number = rw f at right.worth in
        let whole : u ≡ bvadd x c = rw e at left.worth in
        by_sign w (equal u v) (bvsub p.number c) o.term p.term x_in y_in (of_words inputs input bytes w Sub p.number c right.number left.number)
        (ap (equal x) (sym (less_word w y c p.number y_in left.number right.number false) ∙ ap (λ k. bvsub k c) (sym is))
        ∙ tested_plus w x c v x_in left.number v_in ∙ ap (λ k. equal k v) (sym whole))
    with_worth true true e f =
        let c = o.number in
        let is : v ≡ bvsub p.number y = rw f at right.worth in
        let whole : u ≡ bvsub c x = rw e at left.worth in
        by_sign w (equal u v) (bvsub c p.number) o.term p.term x_in y_in (of_words inputs input bytes w Sub c p.number left.number right.number)
        (ap (equal x) (sym (from_taken w y c p.number y_in left.number right.number) ∙ ap (bvsub c) (sym is))
        ∙ tested_from w c x v left.number x_in v_in ∙ ap (λ k. equal k v) (sym whole))
    with_worth false true e f = tt
    with_worth true false e f = tt

  from_worth : (w : ℕ) (u v : BitVector) (o p : Option Offset) → IsOfWidth w v → IfSome o (Reads inputs input bytes w u) → IfSome p (Reads inputs input bytes w v) →
      IfSome (balance_from o p) (Balances (equal u v))
  from_worth w u v (Some o) (Some p) v_in left right = with_worth w u v o p left right v_in o.taken p.taken refl refl
  from_worth w u v (Some o) None v_in left right = tt
  from_worth w u v None p v_in left right = tt

  pub balance_worth : (s t : Tree) → IsTerm inputs s → IsTerm inputs t → tree_width s ≡ tree_width t →
      IfSome (balance_of s t) (Balances (equal (tree_value input s) (tree_value input t)))
  unfolding balance_of
  balance_worth s t p q same =
      from_worth (tree_width s) (tree_value input s) (tree_value input t) (numbered_of s) (numbered_of t) (rw same (in_range inputs input bytes t q))
      (reads_numbered inputs input bytes s p) (rw same (reads_numbered inputs input bytes t q))
