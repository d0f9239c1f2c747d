-- A sum or difference is worth what it was before its numbers became one.
use Rattle.std.proofs.Common.{◌≡◌, ◌∙◌, ℕ, ◌-◌, ◌^◌, ◌<◌, Bool, true, false, List, Some, None, refl, ap, sym, arith}
use Rattle.std.specs.Prelude.{Option, not, option_and_then}
use Rattle.std.specs.List.{All}
use Rattle.std.specs.Option.{IfSome}
use Rattle.std.proofs.lemmas.Nat.{pow_pos}
use Rattle.bv_dag.specs.BitVectors.{BitVector, bvadd, bvneg, bvsub}
use Rattle.bv_dag.specs.Nodes.{binary}
use Rattle.bv_dag.specs.declared.nodes.BinaryOp.{BinaryOp}
use Rattle.bv_dag.specs.declared.nodes.BinaryOp.TheVariants.{Add, Sub, Mul, Udiv, Urem, And, Or, Xor, Shl, Lshr, Ashr}
use Rattle.term_trees.specs.Trees.{Tree, Constant, Complement, Negated, Two, tree_width, tree_value, IsTerm, IsOfWidth}
use Rattle.term_trees.proofs.Ranges.{in_range}
use Rattle.term_simplify.specs.Offsets.{Offset, Sum, first_offset, offset_by, offset_of, offset_sum, offset_word, second_offset, sum_at, sum_from, sum_of, turned, two, under_negative, wide_offset_of}
use Rattle.term_simplify.specs.Plain.{tree_number}
use Rattle.term_simplify.specs.WideSums.{operands_widened}
use Rattle.term_simplify.proofs.OffsetNumbers.{add_comm, add_negative, complement_word, from_added, from_taken, less_word, plus_word, sub_negative}
use Rattle.term_simplify.proofs.PartTerms.{as_number}
use Rattle.term_simplify.proofs.Sums.{zero_less}
use Rattle.term_simplify.proofs.WideSums.{same-operands_widened}
use Rattle.term_simplify.proofs.Words.{number_value}

module _ (inputs : ℕ) (input : List ℕ) (bytes : All (λ b. b < 256) input) where
  -- a term and a number of one width, which are worth this together
  pub record Reads (w : ℕ) (v : BitVector) (o : Offset) : Type 0 where
    pub term : IsTerm inputs o.term
    pub wide : tree_width o.term ≡ w
    pub number : IsOfWidth w o.number
    pub worth : v ≡ offset_word o.taken (tree_value input o.term) o.number

  own : (t : Tree) → IsTerm inputs t → IsOfWidth (tree_width t) (tree_value input t)
  own t term = in_range inputs input bytes t term

  small : (t : Tree) (n : ℕ) → IsTerm inputs t → n < 2 ^ tree_width t → IsOfWidth (tree_width t) (record { width = tree_width t; number = n })
  small t n term below = record { width = refl; not_empty = (own t term).not_empty; at_most_64 = (own t term).at_most_64; in_range = below }

  pub zero_of : (t : Tree) → IsTerm inputs t → IsOfWidth (tree_width t) (record { width = tree_width t; number = 0 })
  zero_of t term = small t 0 term (pow_pos (tree_width t))

  pub of_words : (w : ℕ) (op : BinaryOp) (x y : BitVector) → IsOfWidth w x → IsOfWidth w y → IsOfWidth w (binary op x y)
  of_words w op x y p q =
      rw (← p.width) (in_range 0 input bytes (Two op (Constant x.width x.number) (Constant y.width y.number))
      (as_number w x p, as_number w y q, p.width ∙ sym q.width))

  of_negative : (w : ℕ) (x : BitVector) → IsOfWidth w x → IsOfWidth w (bvneg x)
  of_negative w x p = rw (← p.width) (in_range 0 input bytes (Negated (Constant x.width x.number)) (as_number w x p))

  reads_by : (op : BinaryOp) (x y : Option BitVector) (s t : Tree) → tree_number s ≡ x → tree_number t ≡ y → IsTerm inputs (Two op s t) →
      IfSome (offset_by op x y s t) (Reads (tree_width s) (tree_value input (Two op s t)))
  reads_by Add None (Some y) s t e f term = record {
    term = term.0;
    wide = refl;
    number = rw (← number_value input t y f, term.2) (own t term.1);
    worth = ap (bvadd (tree_value input s)) (number_value input t y f);
  }
  reads_by Sub None (Some y) s t e f term =
      let q : IsOfWidth (tree_width s) y = rw (← number_value input t y f, term.2) (own t term.1) in
      record {
        term = term.0;
        wide = refl;
        number = of_negative (tree_width s) y q;
        worth = ap (bvsub (tree_value input s)) (number_value input t y f) ∙ add_negative (tree_width s) (tree_value input s) y (own s term.0) q;
      }
  reads_by Sub (Some x) None s t e f term = record {
    term = term.1;
    wide = sym term.2;
    number = rw (← number_value input s x e) (own s term.0);
    worth = ap (λ v. bvsub v (tree_value input t)) (number_value input s x e);
  }
  reads_by Add (Some x) y s t e f term = tt
  reads_by Add None None s t e f term = tt
  reads_by Sub (Some x) (Some y) s t e f term = tt
  reads_by Sub None None s t e f term = tt
  reads_by Mul x y s t e f term = tt
  reads_by Udiv x y s t e f term = tt
  reads_by Urem x y s t e f term = tt
  reads_by And x y s t e f term = tt
  reads_by Or x y s t e f term = tt
  reads_by Xor x y s t e f term = tt
  reads_by Shl x y s t e f term = tt
  reads_by Lshr x y s t e f term = tt
  reads_by Ashr x y s t e f term = tt

  pub reads : (t : Tree) → IsTerm inputs t → IfSome (offset_of t) (Reads (tree_width t) (tree_value input t))
  reads (Complement t) term =
      let ones : IsOfWidth (tree_width t) (record { width = tree_width t; number = 2 ^ tree_width t - 1 }) =
      small t (2 ^ tree_width t - 1) term (omega (arith, pow_pos (tree_width t))) in
      record {
        term = term;
        wide = refl;
        number = ones;
        worth = complement_word (tree_width t) (tree_value input t) (record { width = tree_width t; number = 2 ^ tree_width t - 1 }) (own t term) ones refl;
      }
  reads (Negated t) term = record {
    term = term;
    wide = refl;
    number = zero_of t term;
    worth = zero_less (tree_width t) (record { width = tree_width t; number = 0 }) (tree_value input t) (zero_of t term) (own t term) refl;
  }
  reads (Two op s t) term = reads_by op (tree_number s) (tree_number t) s t refl refl term
  reads t term = tt

  pub reads_wide : (t : Tree) → IsTerm inputs t → IfSome (wide_offset_of t) (Reads (tree_width t) (tree_value input t))
  reads_wide t term =
      let same = same-operands_widened inputs input bytes t term in
      rw (← same.wide, ← same.worth) (reads (operands_widened t) same.term)

  -- ---- with a further number
  pub term_word : (w : ℕ) (v : BitVector) (o : Offset) → Reads w v o → IsOfWidth w (tree_value input o.term)
  term_word w v o r = rw (← r.wide) (own o.term r.term)

  reads_second : (op : BinaryOp) (w : ℕ) (v y : BitVector) (o : Offset) → IsOfWidth w y → Reads w v o →
      IfSome (second_offset op y o) (Reads w (binary op v y))
  reads_second Add w v y o q r = record {
    term = r.term;
    wide = r.wide;
    number = of_words w Add o.number y r.number q;
    worth = ap (λ k. bvadd k y) r.worth ∙ plus_word w (tree_value input o.term) y o.number (term_word w v o r) q r.number o.taken;
  }
  reads_second Sub w v y o q r = record {
    term = r.term;
    wide = r.wide;
    number = of_words w Sub o.number y r.number q;
    worth = ap (λ k. bvsub k y) r.worth ∙ less_word w (tree_value input o.term) y o.number (term_word w v o r) q r.number o.taken;
  }
  reads_second Mul w v y o q r = tt
  reads_second Udiv w v y o q r = tt
  reads_second Urem w v y o q r = tt
  reads_second And w v y o q r = tt
  reads_second Or w v y o q r = tt
  reads_second Xor w v y o q r = tt
  reads_second Shl w v y o q r = tt
  reads_second Lshr w v y o q r = tt
  reads_second Ashr w v y o q r = tt

  pub from_word : (w : ℕ) (taken : Bool) (x y c : BitVector) → IsOfWidth w x → IsOfWidth w y → IsOfWidth w c →
      bvsub y (offset_word taken x c) ≡ offset_word (not taken) x (bvsub y c)
  from_word w false x y c p q r = from_added w x y c p q r
  from_word w true x y c p q r = from_taken w x y c p q r

  pub offset_in : (w : ℕ) (taken : Bool) (x c : BitVector) → IsOfWidth w x → IsOfWidth w c → IsOfWidth w (offset_word taken x c)
  offset_in w false x c p r = of_words w Add x c p r
  offset_in w true x c p r = of_words w Sub c x r p

  reads_first : (op : BinaryOp) (w : ℕ) (v x : BitVector) (o : Offset) → IsOfWidth w x → IsOfWidth w v → Reads w v o →
      IfSome (first_offset op x o) (Reads w (binary op x v))
  reads_first Add w v x o q own r = record {
    term = r.term;
    wide = r.wide;
    number = of_words w Add o.number x r.number q;
    worth = add_comm w x v q own ∙ ap (λ k. bvadd k x) r.worth
        ∙ plus_word w (tree_value input o.term) x o.number (term_word w v o r) q r.number o.taken;
  }
  reads_first Sub w v x o q own r = record {
    term = r.term;
    wide = r.wide;
    number = of_words w Sub x o.number q r.number;
    worth = ap (bvsub x) r.worth ∙ from_word w o.taken (tree_value input o.term) x o.number (term_word w v o r) q r.number;
  }
  reads_first Mul w v x o q own r = tt
  reads_first Udiv w v x o q own r = tt
  reads_first Urem w v x o q own r = tt
  reads_first And w v x o q own r = tt
  reads_first Or w v x o q own r = tt
  reads_first Xor w v x o q own r = tt
  reads_first Shl w v x o q own r = tt
  reads_first Lshr w v x o q own r = tt
  reads_first Ashr w v x o q own r = tt

  pub and_then : {A B : Type 0} (f : A → Option B) (o : Option A) (P : A → Type 0) (Q : B → Type 0) → IfSome o P → ((x : A) → P x → IfSome (f x) Q) →
      IfSome (option_and_then f o) Q
  and_then f (Some x) P Q p g = g x p
  and_then f None P Q p g = tt

  reads_sum : (op : BinaryOp) (x y : Option BitVector) (s t : Tree) → tree_number s ≡ x → tree_number t ≡ y → IsTerm inputs (Two op s t) →
      IfSome (offset_sum op x y s t) (Reads (tree_width s) (tree_value input (Two op s t)))
  reads_sum op None (Some y) s t e f term =
      let q : IsOfWidth (tree_width s) y = rw (← number_value input t y f, term.2) (own t term.1) in
      and_then (second_offset op y) (wide_offset_of s) (Reads (tree_width s) (tree_value input s)) (Reads (tree_width s) (tree_value input (Two op s t))) (reads_wide s term.0)
      (λ o r. rw (number_value input t y f) (reads_second op (tree_width s) (tree_value input s) y o q r))
  reads_sum op (Some x) None s t e f term =
      let q : IsOfWidth (tree_width t) x = rw (← number_value input s x e, ← term.2) (own s term.0) in
      and_then (first_offset op x) (wide_offset_of t) (Reads (tree_width t) (tree_value input t)) (Reads (tree_width s) (tree_value input (Two op s t))) (reads_wide t term.1)
      (λ o r. rw (number_value input s x e, term.2) (reads_first op (tree_width t) (tree_value input t) x o q (own t term.1) r))
  reads_sum op (Some x) (Some y) s t e f term = tt
  reads_sum op None None s t e f term = tt

  -- ---- an operation that is worth this
  record IsWorth (w : ℕ) (v : BitVector) (p : Sum) : Type 0 where
    term : IsTerm inputs (Two p.op p.first p.second)
    wide : tree_width p.first ≡ w
    worth : tree_value input (Two p.op p.first p.second) ≡ v

  worth-sum_at : (w : ℕ) (v : BitVector) (taken : Bool) (t : Tree) (n : BitVector) → IsTerm inputs t → tree_width t ≡ w → IsOfWidth w n →
      v ≡ offset_word taken (tree_value input t) n → IsWorth w v (sum_at taken t n)
  worth-sum_at w v false t n term wide number is = record {
    term = (term, as_number w n number, wide ∙ sym number.width);
    wide = wide;
    worth = sym is;
  }
  worth-sum_at w v true t n term wide number is = record {
    term = (as_number w n number, term, number.width ∙ sym wide);
    wide = number.width;
    worth = sym is;
  }

  record IsNegative (t u : Tree) : Type 0 where
    term : IsTerm inputs u
    wide : tree_width t ≡ tree_width u
    worth : tree_value input t ≡ bvneg (tree_value input u)

  is_negative : (t u : Tree) → IsTerm inputs t → under_negative t ≡ Some u → IsNegative t u
  is_negative (Negated t) u term e =
      let same : t ≡ u = cc in
      rw (← same) (record { term = term; wide = refl; worth = refl })
  is_negative t u term e = cc

  module _ (s t : Tree) (p : IsTerm inputs s) (q : IsTerm inputs t) (same : tree_width s ≡ tree_width t) where
    itself : (op : BinaryOp) → IsWorth (tree_width s) (tree_value input (Two op s t)) (two op s t)
    itself op = record { term = (p, q, same); wide = refl; worth = refl }

    value_second : IsOfWidth (tree_width s) (tree_value input t)
    value_second = rw same (own t q)

    added : (v : Tree) → under_negative t ≡ Some v → IsWorth (tree_width s) (tree_value input (Two Add s t)) (two Sub s v)
    added v f =
        let n = is_negative t v q f in
        let r : IsOfWidth (tree_width s) (tree_value input v) = rw (same, n.wide) (own v n.term) in
        record {
          term = (p, n.term, same ∙ n.wide);
          wide = refl;
          worth = add_negative (tree_width s) (tree_value input s) (tree_value input v) (own s p) r ∙ ap (bvadd (tree_value input s)) (sym n.worth);
        }

    added_first : (u : Tree) → under_negative s ≡ Some u → IsWorth (tree_width s) (tree_value input (Two Add s t)) (two Sub t u)
    added_first u e =
        let n = is_negative s u p e in
        let r : IsOfWidth (tree_width s) (tree_value input u) = rw n.wide (own u n.term) in
        record {
          term = (q, n.term, sym same ∙ n.wide);
          wide = sym same;
          worth = add_negative (tree_width s) (tree_value input t) (tree_value input u) value_second r
              ∙ ap (bvadd (tree_value input t)) (sym n.worth)
              ∙ add_comm (tree_width s) (tree_value input t) (tree_value input s) value_second (own s p);
        }

    taken_off : (v : Tree) → under_negative t ≡ Some v → IsWorth (tree_width s) (tree_value input (Two Sub s t)) (two Add s v)
    taken_off v f =
        let n = is_negative t v q f in
        let r : IsOfWidth (tree_width s) (tree_value input v) = rw (same, n.wide) (own v n.term) in
        record {
          term = (p, n.term, same ∙ n.wide);
          wide = refl;
          worth = sub_negative (tree_width s) (tree_value input s) (tree_value input v) (own s p) r ∙ ap (bvsub (tree_value input s)) (sym n.worth);
        }

    other_way : IsWorth (tree_width s) (tree_value input (Two Add s t)) (two Add t s)
    other_way = record {
      term = (q, p, sym same);
      wide = sym same;
      worth = add_comm (tree_width s) (tree_value input t) (tree_value input s) value_second (own s p);
    }

    worth-turned : (op : BinaryOp) (x : Option BitVector) (u v : Option Tree) → under_negative s ≡ u → under_negative t ≡ v →
        IsWorth (tree_width s) (tree_value input (Two op s t)) (turned op x u v s t)
    worth-turned Add (Some x) u v e f = other_way
    worth-turned Add None u (Some v) e f = added v f
    worth-turned Add None (Some u) None e f = added_first u e
    worth-turned Add None None None e f = itself Add
    worth-turned Sub x u (Some v) e f = taken_off v f
    worth-turned Sub x u None e f = itself Sub
    worth-turned Mul x u v e f = itself Mul
    worth-turned Udiv x u v e f = itself Udiv
    worth-turned Urem x u v e f = itself Urem
    worth-turned And x u v e f = itself And
    worth-turned Or x u v e f = itself Or
    worth-turned Xor x u v e f = itself Xor
    worth-turned Shl x u v e f = itself Shl
    worth-turned Lshr x u v e f = itself Lshr
    worth-turned Ashr x u v e f = itself Ashr

  worth-sum_from : (w : ℕ) (v : BitVector) (o : Option Offset) (otherwise : Sum) → IfSome o (Reads w v) → IsWorth w v otherwise →
      IsWorth w v (sum_from o otherwise)
  worth-sum_from w v (Some o) otherwise r is = worth-sum_at w v o.taken o.term o.number r.term r.wide r.number r.worth
  worth-sum_from w v None otherwise r is = is

  worth-sum_of : (op : BinaryOp) (s t : Tree) → IsTerm inputs (Two op s t) → IsWorth (tree_width s) (tree_value input (Two op s t)) (sum_of op s t)
  unfolding sum_of
  worth-sum_of op s t term =
      worth-sum_from (tree_width s) (tree_value input (Two op s t)) (offset_sum op (tree_number s) (tree_number t) s t) _
      (reads_sum op (tree_number s) (tree_number t) s t refl refl term)
      (worth-turned s t term.0 term.1 term.2 op (tree_number s) (under_negative s) (under_negative t) refl refl)

-- what an operation is made as is as wide, and is worth as much
pub width-sum_of : (inputs : ℕ) (input : List ℕ) → All (λ b. b < 256) input → (op : BinaryOp) (s t : Tree) → IsTerm inputs (Two op s t) →
    tree_width (sum_of op s t).first ≡ tree_width s
width-sum_of inputs input bytes op s t term = (worth-sum_of inputs input bytes op s t term).wide

pub value-sum_of : (inputs : ℕ) (input : List ℕ) → All (λ b. b < 256) input → (op : BinaryOp) (s t : Tree) → IsTerm inputs (Two op s t) →
    binary (sum_of op s t).op (tree_value input (sum_of op s t).first) (tree_value input (sum_of op s t).second) ≡ tree_value input (Two op s t)
value-sum_of inputs input bytes op s t term = (worth-sum_of inputs input bytes op s t term).worth
