-- A sum of two terms with their numbers last is worth what it was.
use Rattle.std.proofs.Common.{◌≡◌, ◌∙◌, ℕ, ◌<◌, Bool, true, false, cond, List, Some, None, refl, ap, sym}
use Rattle.std.specs.Prelude.{Option, not}
use Rattle.std.specs.List.{All}
use Rattle.std.specs.Option.{IfSome}
use Rattle.std.proofs.lemmas.Nat.{pow_pos}
use Rattle.bv_dag.specs.BitVectors.{BitVector, bvadd, bvsub}
use Rattle.bv_dag.specs.Nodes.{binary}
use Rattle.bv_dag.specs.declared.nodes.BinaryOp.{BinaryOp}
use Rattle.bv_dag.specs.declared.nodes.BinaryOp.TheVariants.{Add, Sub}
use Rattle.term_trees.specs.Trees.{Tree, Complement, Negated, Two, tree_width, tree_value, IsTerm, IsOfWidth}
use Rattle.term_trees.proofs.Ranges.{in_range}
use Rattle.term_simplify.specs.Narrowing.{reach_of}
use Rattle.term_simplify.specs.Offsets.{Offset, offset_word}
use Rattle.term_simplify.specs.Pairs.{Pair, beside, by_signs, has_number, is_shorter, numbered_of, pair_by, pair_from, pair_of}
use Rattle.term_simplify.proofs.OffsetNumbers.{add_comm, from_added, less_word, plus_word}
use Rattle.term_simplify.proofs.OffsetRules.{Reads, and_then, from_word, offset_in, of_words, reads_wide, term_word, zero_of}
use Rattle.term_simplify.proofs.Sums.{plus_zero}

-- ---- a number with one of two terms is with both
module _ (w : ℕ) (x y n : BitVector) (p : IsOfWidth w x) (q : IsOfWidth w y) (r : IsOfWidth w n) where
  added_both : bvadd x (bvadd y n) ≡ bvadd (bvadd x y) n
  added_both = sym (plus_word w x n y p r q false)

  added_less : bvadd x (bvsub n y) ≡ bvadd (bvsub x y) n
  added_less = sym (less_word w x y n p q r false) ∙ sym (plus_word w y n x q r p true)

  less_added : bvsub (bvadd y n) x ≡ bvadd (bvsub y x) n
  less_added = sym (plus_word w x n y p r q true)

  less_both : bvsub (bvsub n y) x ≡ bvsub n (bvadd x y)
  less_both = sym (from_added w x n y p r q)

-- a term is one with the number 0
no_more : (w : ℕ) (x : BitVector) → IsOfWidth w x → x ≡ bvadd x (record { width = w; number = 0 })
no_more w x p = plus_zero w x (record { width = w; number = 0 }) p (record { width = refl; not_empty = p.not_empty; at_most_64 = p.at_most_64; in_range = pow_pos w }) refl

module _ (inputs : ℕ) (input : List ℕ) (bytes : All (λ b. b < 256) input) where
  -- two terms and a number, which are worth this together
  pub record IsPairWorth (w : ℕ) (v : BitVector) (p : Pair) : Type 0 where
    pub term : IsTerm inputs (Two p.op p.first p.second)
    pub wide : tree_width p.first ≡ w
    pub number : IsOfWidth w p.number
    pub worth : v ≡ offset_word p.taken (binary p.op (tree_value input p.first) (tree_value input p.second)) p.number

  module _ (w : ℕ) (v : BitVector) (s t : Tree) (n : BitVector) (p : IsTerm inputs s) (q : IsTerm inputs t) (first : tree_width s ≡ w) (second : tree_width t ≡ w) (r : IsOfWidth w n) where
    x_in : IsOfWidth w (tree_value input s)
    x_in = rw (← first) (in_range inputs input bytes s p)

    y_in : IsOfWidth w (tree_value input t)
    y_in = rw (← second) (in_range inputs input bytes t q)

    signs_worth : (left right : Bool) → v ≡ offset_word left (tree_value input s) (offset_word right (tree_value input t) n) →
        IsPairWorth w v (by_signs left right s t n)
    signs_worth false false e = record { term = (p, q, first ∙ sym second); wide = first; number = r; worth = e ∙ added_both w _ _ n x_in y_in r }
    signs_worth false true e = record { term = (p, q, first ∙ sym second); wide = first; number = r; worth = e ∙ added_less w _ _ n x_in y_in r }
    signs_worth true false e = record { term = (q, p, second ∙ sym first); wide = second; number = r; worth = e ∙ less_added w _ _ n x_in y_in r }
    signs_worth true true e = record { term = (p, q, first ∙ sym second); wide = first; number = r; worth = e ∙ less_both w _ _ n x_in y_in r }

  module _ (w : ℕ) (u v : BitVector) (o p : Offset) (left : Reads inputs input bytes w u o) (right : Reads inputs input bytes w v p) where
    abbrev pub x : BitVector
    x = tree_value input o.term

    abbrev pub y : BitVector
    y = tree_value input p.term

    x_word : IsOfWidth w x
    x_word = term_word inputs input bytes w u o left

    y_word : IsOfWidth w y
    y_word = term_word inputs input bytes w v p right

    v_in : IsOfWidth w v
    v_in = rw right.worth (offset_in inputs input bytes w p.taken y p.number y_word right.number)

    of_sum : bvadd u v ≡ offset_word o.taken x (offset_word p.taken y (bvadd o.number p.number))
    of_sum =
        let inner : bvadd o.number v ≡ offset_word p.taken y (bvadd o.number p.number) =
        add_comm w o.number v left.number v_in ∙ ap (λ k. bvadd k o.number) right.worth
        ∙ plus_word w y o.number p.number y_word left.number right.number p.taken
        ∙ ap (offset_word p.taken y) (add_comm w p.number o.number right.number left.number) in
        ap (λ k. bvadd k v) left.worth ∙ plus_word w x v o.number x_word v_in left.number o.taken ∙ ap (offset_word o.taken x) inner

    of_difference : bvsub u v ≡ offset_word o.taken x (offset_word (not p.taken) y (bvsub o.number p.number))
    of_difference =
        let inner : bvsub o.number v ≡ offset_word (not p.taken) y (bvsub o.number p.number) =
        ap (bvsub o.number) right.worth ∙ from_word inputs input bytes w p.taken y o.number p.number y_word left.number right.number in
        ap (λ k. bvsub k v) left.worth ∙ less_word w x v o.number x_word v_in left.number o.taken ∙ ap (offset_word o.taken x) inner

    pub pair_worth : (op : BinaryOp) → IfSome (pair_by op o p) (IsPairWorth w (binary op u v))
    pair_worth Add =
        signs_worth w (bvadd u v) o.term p.term (bvadd o.number p.number) left.term right.term left.wide right.wide
        (of_words inputs input bytes w Add o.number p.number left.number right.number) o.taken p.taken of_sum
    pair_worth Sub =
        signs_worth w (bvsub u v) o.term p.term (bvsub o.number p.number) left.term right.term left.wide right.wide
        (of_words inputs input bytes w Sub o.number p.number left.number right.number) o.taken (not p.taken) of_difference
    pair_worth op = tt

  -- ---- the operands
  pub reads_numbered : (t : Tree) → IsTerm inputs t → IfSome (numbered_of t) (Reads inputs input bytes (tree_width t) (tree_value input t))
  reads_numbered (Complement t) term = tt
  reads_numbered (Negated t) term = tt
  reads_numbered t term = reads_wide inputs input bytes t term

  abbrev of_zero : Tree → Offset
  of_zero t = record { taken = false; term = t; number = record { width = tree_width t; number = 0 } }

  reads_beside : (sum t : Tree) → IsTerm inputs t → IfSome (beside sum t) (Reads inputs input bytes (tree_width t) (tree_value input t))
  reads_beside sum t term =
      elim (has_number t) as (λ k. IfSome (cond k None (cond (is_shorter (reach_of t) (reach_of sum) (tree_width t))
      (Some (of_zero t)) None)) (Reads inputs input bytes (tree_width t) (tree_value input t))) [
        | true ↦ tt
        | false ↦ elim (is_shorter (reach_of t) (reach_of sum) (tree_width t)) as
            (λ k. IfSome (cond k (Some (of_zero t)) None) (Reads inputs input bytes (tree_width t) (tree_value input t))) [
              | true ↦ record {
                term = term;
                wide = refl;
                number = zero_of inputs input bytes t term;
                worth = no_more (tree_width t) (tree_value input t) (in_range inputs input bytes t term);
              }
              | false ↦ tt
            ]
      ]

  module _ (op : BinaryOp) (s t : Tree) (term : IsTerm inputs (Two op s t)) where
    abbrev pub u : BitVector
    u = tree_value input s

    abbrev pub v : BitVector
    v = tree_value input t

    from_reads : (o p : Option Offset) → IfSome o (Reads inputs input bytes (tree_width s) u) → IfSome p (Reads inputs input bytes (tree_width s) v) →
        IfSome (beside t s) (Reads inputs input bytes (tree_width s) u) → IfSome (beside s t) (Reads inputs input bytes (tree_width s) v) →
        IfSome (pair_from op o p s t) (IsPairWorth (tree_width s) (binary op u v))
    from_reads (Some o) (Some p) left right f g = pair_worth (tree_width s) u v o p left right op
    from_reads (Some o) None left right f g =
        and_then inputs input bytes (pair_by op o) (beside s t) (Reads inputs input bytes (tree_width s) v) _ g (λ p is. pair_worth (tree_width s) u v o p left is op)
    from_reads None (Some p) left right f g =
        and_then inputs input bytes (λ o. pair_by op o p) (beside t s) (Reads inputs input bytes (tree_width s) u) _ f (λ o is. pair_worth (tree_width s) u v o p is right op)
    from_reads None None left right f g = tt

    pub reads_pair : IfSome (pair_of op s t) (IsPairWorth (tree_width s) (tree_value input (Two op s t)))
    unfolding pair_of
    reads_pair =
        from_reads (numbered_of s) (numbered_of t) (reads_numbered s term.0) (rw term.2 (reads_numbered t term.1))
        (reads_beside t s term.0) (rw term.2 (reads_beside s t term.1))
