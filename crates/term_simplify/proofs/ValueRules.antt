-- What the ends of its operands tell of an operation is worth what it is.
use Rattle.std.proofs.Common.{◌≡◌, ◌∙◌, ℕ, ◌<◌, true, false, List, Some, None, length, refl, ap, sym, subst, arith, inl, inr}
use Rattle.std.specs.Prelude.{IfSome, Option, Result, option_map}
use Rattle.std.specs.List.{All}
use Rattle.std.specs.Result.{IfOk, OnOk}
use Rattle.std.proofs.Math.Nat.{mod-eq_of_lt}
use Rattle.std.proofs.lemmas.Bool.Decides.{eqb_tells}
use Rattle.bv_dag.specs.BitVectors.{BitVector, bvurem}
use Rattle.bv_dag.specs.Graphs.{Graph, IsDag}
use Rattle.bv_dag.specs.Nodes.{Fits, binary, widths_of}
use Rattle.bv_dag.specs.declared.nodes.BinaryOp.{BinaryOp}
use Rattle.bv_dag.specs.declared.nodes.BinaryOp.TheVariants.{Add, Sub, Mul, Udiv, Urem, And, Or, Xor, Shl, Lshr, Ashr}
use Rattle.bv_dag.specs.declared.nodes.Node.{Node}
use Rattle.bv_dag.specs.declared.nodes.Node.TheVariants.{Num, Input, Not, Neg, Binary, Compare, Ite, Extract, Extend, Concat}
use Rattle.term_trees.specs.Growth.{Continues}
use Rattle.term_trees.specs.Trees.{Tree, Two, tree_of, tree_value, tree_width, node_tree, IsOfWidth, IsTerm}
use Rattle.term_trees.proofs.Ranges.{in_range}
use Rattle.term_simplify.specs.Builds.{BuildsNode}
use Rattle.term_simplify.specs.Ends.{ends_of, two_ends, value_told}
use Rattle.term_simplify.specs.Moves.{unvalued}
use Rattle.term_simplify.specs.Plain.{number_tree}
use Rattle.term_simplify.specs.Simplified.{binary_of, operated, simplified}
use Rattle.term_simplify.specs.Plans.{plan_tree}
use Rattle.term_simplify.specs.Values.{is_dividend, told_by_ends, tree_or, two_told}
use Rattle.term_simplify.specs.declared.plan.Plan.{Plan}
use Rattle.term_simplify.specs.declared.ends.Ends.{Ends}
use Rattle.term_simplify.proofs.Building.{IsWorth, built_as, is_term_of, named}
use Rattle.term_simplify.proofs.EndsRules.{LiesIn, lies_of, lies_two, some_word}
use Rattle.term_simplify.proofs.Words.{by_parts, lt_tells, tests_unequal}

one_value : (w : ℕ) (a : Ends) (v x : BitVector) → LiesIn w a v → v.width ≡ w → value_told a ≡ Some x → x ≡ v
one_value w a v x h wide is =
    elim (eqb_tells a.least.number a.greatest.number) [
      | inl e ↦
          let told : Some a.least ≡ Some x = rw e.0 at is in
          some_word x a.least told ∙ by_parts w v.number a.least h.ends.least (omega (arith, e.1, h.least, h.greatest)) ∙ sym (by_parts w v.number v wide refl)
      | inr e ↦ let none : None ≡ Some x = rw e.0 at is in cc
    ]

is_rest : (v u : BitVector) → v.number < u.number → v ≡ bvurem v u
unfolding bvurem
is_rest v u h =
    sym (by_parts v.width v.number (bvurem v u) refl (rw (tests_unequal u.number 0 (λ z. omega (arith, z, h))) (mod-eq_of_lt h)))

some_tree : (s r : Tree) → Some s ≡ Some r → r ≡ s
some_tree s r e = cc

module _ (w : ℕ) (input : List ℕ) (s : Tree) (a b : Ends) (v u : BitVector) (own : v ≡ tree_value input s) (p : IsOfWidth w v) (q : IsOfWidth w u)
    (h : LiesIn w a v) (k : LiesIn w b u) where
  number_worth : (op : BinaryOp) (r : Tree) → IsOfWidth w (binary op v u) → option_map number_tree (value_told (two_ends op a b)) ≡ Some r →
      tree_value input r ≡ binary op v u
  number_worth op r made is = go (value_told (two_ends op a b)) refl is
    where
      go : (o : Option BitVector) → o ≡ value_told (two_ends op a b) → option_map number_tree o ≡ Some r → tree_value input r ≡ binary op v u
      go (Some x) e is =
          ap (tree_value input) (some_tree (number_tree x) r is)
          ∙ one_value w (two_ends op a b) (binary op v u) x (lies_two w a b v u p q h k op made) made.width (sym e)
      go None e is = cc

  dividend_worth : (r : Tree) → IsOfWidth w (bvurem v u) → told_by_ends Urem a b s ≡ Some r → tree_value input r ≡ bvurem v u
  dividend_worth r made is =
      elim (lt_tells a.greatest.number b.least.number) [
        | inl e ↦
            let told : Some s ≡ Some r = rw e.0 at is in
            ap (tree_value input) (some_tree s r told) ∙ sym own ∙ is_rest v u (omega (arith, e.1, h.greatest, k.least))
        | inr e ↦ number_worth Urem r made (rw e.0 at is)
      ]

  told_worth : (op : BinaryOp) (r : Tree) → IsOfWidth w (binary op v u) → told_by_ends op a b s ≡ Some r → tree_value input r ≡ binary op v u
  told_worth Urem r made is = dividend_worth r made is
  told_worth Add r made is = number_worth Add r made is
  told_worth Sub r made is = number_worth Sub r made is
  told_worth Mul r made is = number_worth Mul r made is
  told_worth Udiv r made is = number_worth Udiv r made is
  told_worth And r made is = number_worth And r made is
  told_worth Or r made is = number_worth Or r made is
  told_worth Xor r made is = number_worth Xor r made is
  told_worth Shl r made is = number_worth Shl r made is
  told_worth Lshr r made is = number_worth Lshr r made is
  told_worth Ashr r made is = number_worth Ashr r made is

two_worth : (inputs : ℕ) (input : List ℕ) → All (λ b. b < 256) input → (op : BinaryOp) (s t r : Tree) → IsTerm inputs (Two op s t) →
    two_told op s t ≡ Some r → tree_value input r ≡ binary op (tree_value input s) (tree_value input t)
unfolding two_told
two_worth inputs input bytes op s t r term is =
    told_worth (tree_width s) input s (ends_of s) (ends_of t) (tree_value input s) (tree_value input t) refl (in_range inputs input bytes s term.0)
    (rw term.2 (in_range inputs input bytes t term.1)) (lies_of inputs input bytes s term.0) (rw term.2 (lies_of inputs input bytes t term.1)) op r
    (in_range inputs input bytes (Two op s t) term) is

-- ---- as the code finds it
module _ (op : BinaryOp) (s t : Tree) (a b : Ends) (p : a ≡ ends_of s) (q : b ≡ ends_of t) where
  by_ends : told_by_ends op a b s ≡ two_told op s t
  unfolding two_told
  by_ends = ap (λ (z : Ends). told_by_ends op z b s) p ∙ ap (λ (z : Ends). told_by_ends op (ends_of s) z s) q

  pub first_told : is_dividend op a.greatest b.least ≡ true → Some s ≡ two_told op s t
  first_told e = sym (rw e refl) ∙ by_ends

  pub number_told : is_dividend op a.greatest b.least ≡ false → (c : Ends) → c ≡ two_ends op a b →
      (r : Option BitVector) → r ≡ value_told c → option_map number_tree r ≡ two_told op s t
  number_told e c is r found =
      ap (option_map number_tree) (found ∙ ap value_told is) ∙ sym (rw e refl) ∙ by_ends

module _ (g : Graph) (op : BinaryOp) (a b : ℕ) where
  pub some_value : (r : Option Plan) → option_map (plan_tree g) r ≡ two_told op (tree_of g a) (tree_of g b) →
      IfSome r (λ plan. simplified (tree_of g) (Binary op a b) ≡ plan_tree g plan)
  unfolding binary_of
  some_value (Some plan) is = sym (ap (λ o. tree_or o (operated op (tree_of g a) (tree_of g b))) is)
  some_value None is = tt

  pub worth_value : IsDag g → Fits g.inputs (widths_of g.nodes) (Binary op a b) →
      (r : Option Plan) → option_map (plan_tree g) r ≡ two_told op (tree_of g a) (tree_of g b) →
      IfSome r (λ plan. (input : List ℕ) → All (λ b. b < 256) input →
      tree_value input (plan_tree g plan) ≡ tree_value input (Two op (tree_of g a) (tree_of g b)))
  worth_value dag fits (Some plan) is =
      λ input bytes. two_worth g.inputs input bytes op (tree_of g a) (tree_of g b) (plan_tree g plan) (is_term_of g (Binary op a b) dag fits) (sym is)
  worth_value dag fits None is = tt

  pub no_value : (r : Option Plan) → option_map (plan_tree g) r ≡ two_told op (tree_of g a) (tree_of g b) → r ≡ None →
      simplified (tree_of g) (Binary op a b) ≡ unvalued (tree_of g) (Binary op a b)
  unfolding binary_of
  no_value r is none =
      ap (λ o. tree_or o (operated op (tree_of g a) (tree_of g b))) (sym is ∙ ap (λ (o : Option Plan). option_map (plan_tree g) o) none)

pub no_operation : (f : ℕ → Tree) (n : Node) → ((op : BinaryOp) (a b : ℕ) → n ≡ Binary op a b → ⊥) → simplified f n ≡ unvalued f n
no_operation f (Binary op a b) other = absurd (other op a b refl)
no_operation f (Num w v) other = refl
no_operation f (Input i) other = refl
no_operation f (Not a) other = refl
no_operation f (Neg a) other = refl
no_operation f (Compare op a b) other = refl
no_operation f (Ite c a b) other = refl
no_operation f (Extract high low a) other = refl
no_operation f (Extend by signed a) other = refl
no_operation f (Concat a b) other = refl

-- an answer that was found in an equal graph
pub valued_here : {E : Type 0} (h g more : Graph) (r : Result ℕ E) (n : Node) (plan : Plan) → h ≡ g →
    simplified (tree_of h) n ≡ plan_tree h plan → IsWorth (node_tree (tree_of h) n) (plan_tree h plan) →
    IfOk r (λ id. id < length more.nodes) → IfOk r (λ id. tree_of more id ≡ plan_tree g plan) → OnOk r (Continues g more) → IfOk r (BuildsNode g more n)
valued_here h g more r n plan e is worth there tree ok =
    let here : simplified (tree_of g) n ≡ plan_tree g plan = subst (λ (k : Graph). simplified (tree_of k) n ≡ plan_tree k plan) e is in
    named g more r n (plan_tree g plan) (simplified (tree_of g) n) (sym here) (built_as g more r n (plan_tree g plan)
    (subst (λ (k : Graph). IsWorth (node_tree (tree_of k) n) (plan_tree k plan)) e worth) there tree ok)
