-- Sums of a graph, as the code finds and makes them.
use Rattle.std.proofs.Common.{◌≡◌, ◌∙◌, ℕ, ◌+◌, ◌-◌, ◌^◌, ◌<◌, ◌≤◌, Bool, true, false, List, [], length, Some, None, refl, ap, sym, subst}
use Rattle.std.specs.Prelude.{Option, Result, Ok, Err}
use Rattle.std.specs.Result.{IfOk}
use Rattle.std.specs.List.{All, slice_get}
use Rattle.std.proofs.lemmas.List.Elements.{All-nil}
use Rattle.bv_dag.specs.BitVectors.{BitVector, bvneg}
use Rattle.bv_dag.specs.Graphs.{Graph, IsDag, val, width_of}
use Rattle.bv_dag.specs.Nodes.{binary}
use Rattle.bv_dag.specs.declared.nodes.BinaryOp.{BinaryOp}
use Rattle.bv_dag.specs.declared.nodes.Node.{Node}
use Rattle.bv_dag.specs.declared.nodes.Node.TheVariants.{Num, Input, Not, Neg, Binary, Compare, Ite, Extract, Extend, Concat}
use Rattle.term_trees.specs.Trees.{Tree, Constant, Negated, Two, IsOfWidth, IsTerm, tree_of, tree_value, tree_width, node_tree}
use Rattle.term_trees.proofs.Ranges.{in_range}
use Rattle.term_trees.proofs.TreeLaws.{tree_by_cases, value-tree_of, width-tree_of}
use Rattle.term_simplify.specs.Offsets.{IsSummand, Offset, Sum, offset_of, offset_sum, offset_word, operation_at, sum_at, sum_from, sum_of, turned, under_negative, wide_offset_at}
use Rattle.term_simplify.specs.Plain.{further, tree_number}
use Rattle.term_simplify.specs.Simplified.{narrowed, summed}
use Rattle.term_simplify.specs.Steps.{Stands}
use Rattle.term_simplify.specs.WideSums.{IsWideSummand, wide_term}
use Rattle.term_simplify.specs.declared.offsets.Operation.{Operation}
use Rattle.term_simplify.specs.declared.wide_sums.WideSummand.{WideSummand}
use Rattle.term_simplify.proofs.OffsetRules.{value-sum_of, width-sum_of}
use Rattle.term_simplify.proofs.PartTerms.{as_number, width-further}
use Rattle.term_simplify.proofs.Reading.{width_at}
use Rattle.term_simplify.proofs.Stepping.{Stands-worth, at_tree, at_width}

module _ (f : ℕ → Tree) where
  offset_read : (n : Node) → ((a : ℕ) → n ≡ Not a → ⊥) → ((a : ℕ) → n ≡ Neg a → ⊥) → ((op : BinaryOp) (a b : ℕ) → n ≡ Binary op a b → ⊥) →
      None ≡ offset_of (node_tree f n)
  offset_read (Not a) x y z = absurd (x a refl)
  offset_read (Neg a) x y z = absurd (y a refl)
  offset_read (Binary op a b) x y z = absurd (z op a b refl)
  offset_read (Num w v) x y z = refl
  offset_read (Input i) x y z = refl
  offset_read (Compare op a b) x y z = refl
  offset_read (Ite c a b) x y z = refl
  offset_read (Extract high low a) x y z = refl
  offset_read (Extend by signed a) x y z = refl
  offset_read (Concat a b) x y z = refl

  negative_read : (n : Node) → ((a : ℕ) → n ≡ Neg a → ⊥) → None ≡ under_negative (node_tree f n)
  negative_read (Neg a) y = absurd (y a refl)
  negative_read (Num w v) y = refl
  negative_read (Input i) y = refl
  negative_read (Not a) y = refl
  negative_read (Binary op a b) y = refl
  negative_read (Compare op a b) y = refl
  negative_read (Ite c a b) y = refl
  negative_read (Extract high low a) y = refl
  negative_read (Extend by signed a) y = refl
  negative_read (Concat a b) y = refl

-- ---- a term and a number
abbrev pub some_offset : (taken : Bool) → Tree → BitVector → Option Offset
some_offset taken t n = Some (record { taken = taken; term = t; number = n })

-- a number of a term's width
zero_here : (g : Graph) (id w : ℕ) (x : BitVector) → w ≡ width_of g id → x ≡ record { width = w; number = 0 } →
    x ≡ record { width = tree_width (tree_of g id); number = 0 }
zero_here g id w x wide is = is ∙ ap {B = BitVector} (λ k. record { width = k; number = 0 }) (wide ∙ sym (width-tree_of g id))

ones_here : (g : Graph) (id w : ℕ) (x : BitVector) → w ≡ width_of g id → x ≡ record { width = w; number = 2 ^ w - 1 } →
    x ≡ record { width = tree_width (tree_of g id); number = 2 ^ tree_width (tree_of g id) - 1 }
ones_here g id w x wide is = is ∙ ap {B = BitVector} (λ k. record { width = k; number = 2 ^ k - 1 }) (wide ∙ sym (width-tree_of g id))

pub summand_of : (g : Graph) (id a w : ℕ) (taken : Bool) (x : BitVector) → a < length g.nodes → width_of g a ≡ width_of g id → w ≡ width_of g id →
    0 < w → w ≤ 64 → x.width ≡ w → x.number < 2 ^ w → IsSummand g (width_of g id) (record { taken = taken; term = a; number = x })
summand_of g id a w taken x there same wide some most width range = record {
  there = there;
  wide = same;
  number = rw (← wide) (record { width = width; not_empty = some; at_most_64 = most; in_range = range });
}

module _ (g : Graph) (id : ℕ) (dag : IsDag g) where
  pub not_wide : (a : ℕ) → slice_get g.nodes id ≡ Some (Not a) → width_of g a ≡ width_of g id
  not_wide a is = sym (width-tree_of g a) ∙ sym (width_at g id (Not a) dag is)

  pub neg_wide : (a : ℕ) → slice_get g.nodes id ≡ Some (Neg a) → width_of g a ≡ width_of g id
  neg_wide a is = sym (width-tree_of g a) ∙ sym (width_at g id (Neg a) dag is)

  pub two_wide : (op : BinaryOp) (a b : ℕ) → slice_get g.nodes id ≡ Some (Binary op a b) → width_of g a ≡ width_of g id
  two_wide op a b is = sym (width-tree_of g a) ∙ sym (width_at g id (Binary op a b) dag is)

  pub not_offset : (a w : ℕ) (x : BitVector) → slice_get g.nodes id ≡ Some (Not a) → w ≡ width_of g id → x ≡ record { width = w; number = 2 ^ w - 1 } →
      some_offset true (tree_of g a) x ≡ offset_of (tree_of g id)
  not_offset a w x is wide ones =
      rw (tree_by_cases g id (Not a) dag is) (ap (some_offset true (tree_of g a)) (ones_here g a w x (wide ∙ sym (not_wide a is)) ones))

  pub neg_offset : (a w : ℕ) (x : BitVector) → slice_get g.nodes id ≡ Some (Neg a) → w ≡ width_of g id → x ≡ record { width = w; number = 0 } →
      some_offset true (tree_of g a) x ≡ offset_of (tree_of g id)
  neg_offset a w x is wide zero =
      rw (tree_by_cases g id (Neg a) dag is) (ap (some_offset true (tree_of g a)) (zero_here g a w x (wide ∙ sym (neg_wide a is)) zero))

  pub two_offset : (op : BinaryOp) (a b : ℕ) → slice_get g.nodes id ≡ Some (Binary op a b) →
      offset_of (node_tree (tree_of g) (Binary op a b)) ≡ offset_of (tree_of g id)
  two_offset op a b is = ap offset_of (sym (tree_by_cases g id (Binary op a b) dag is))

  pub no_offset : (n : Node) → slice_get g.nodes id ≡ Some n → ((a : ℕ) → n ≡ Not a → ⊥) → ((a : ℕ) → n ≡ Neg a → ⊥) →
      ((op : BinaryOp) (a b : ℕ) → n ≡ Binary op a b → ⊥) → None ≡ offset_of (tree_of g id)
  no_offset n is x y z = offset_read (tree_of g) n x y z ∙ ap offset_of (sym (tree_by_cases g id n dag is))

  pub neg_under : (a : ℕ) → slice_get g.nodes id ≡ Some (Neg a) → Some (tree_of g a) ≡ under_negative (tree_of g id)
  neg_under a is = ap under_negative (sym (tree_by_cases g id (Neg a) dag is))

  pub no_negative : (n : Node) → slice_get g.nodes id ≡ Some n → ((a : ℕ) → n ≡ Neg a → ⊥) → None ≡ under_negative (tree_of g id)
  no_negative n is y = negative_read (tree_of g) n y ∙ ap under_negative (sym (tree_by_cases g id n dag is))

-- ---- with a further number
no_bytes : All (λ b. b < 256) []
no_bytes = All-nil (λ b. b < 256)

pub of_words : (w : ℕ) (op : BinaryOp) (x y : BitVector) → IsOfWidth w x → IsOfWidth w y → IsOfWidth w (binary op x y)
of_words w op x y p q =
    rw (← p.width) (in_range 0 [] no_bytes (Two op (Constant x.width x.number) (Constant y.width y.number))
    (as_number w x p, as_number w y q, p.width ∙ sym q.width))

pub of_negative : (w : ℕ) (x : BitVector) → IsOfWidth w x → IsOfWidth w (bvneg x)
of_negative w x p = rw (← p.width) (in_range 0 [] no_bytes (Negated (Constant x.width x.number)) (as_number w x p))

pub numbered : (g : Graph) (w : ℕ) (taken : Bool) (o : WideSummand) (n m : BitVector) → IsWideSummand g w o → n ≡ m → IsOfWidth w m →
    IsWideSummand g w (record { taken = taken; by = o.by; term = o.term; number = n })
numbered g w taken o n m is e number = record { there = is.there; some = is.some; wide = is.wide; number = rw e number }

-- ---- what stands is what an operation is made as
pub of_offset : (g : Graph) (op : BinaryOp) (a b : ℕ) (o : WideSummand) →
    Some (wide_offset_at g o) ≡ offset_sum op (tree_number (tree_of g a)) (tree_number (tree_of g b)) (tree_of g a) (tree_of g b) →
    sum_at o.taken (wide_term g o) o.number ≡ sum_of op (tree_of g a) (tree_of g b)
unfolding sum_of
of_offset g op a b o is =
    ap (λ k. sum_from k (turned op (tree_number (tree_of g a)) (under_negative (tree_of g a)) (under_negative (tree_of g b)) (tree_of g a) (tree_of g b))) is

pub of_turned : (g : Graph) (op : BinaryOp) (a b : ℕ) (o : Operation) →
    None ≡ offset_sum op (tree_number (tree_of g a)) (tree_number (tree_of g b)) (tree_of g a) (tree_of g b) →
    operation_at g o ≡ turned op (tree_number (tree_of g a)) (under_negative (tree_of g a)) (under_negative (tree_of g b)) (tree_of g a) (tree_of g b) →
    operation_at g o ≡ sum_of op (tree_of g a) (tree_of g b)
unfolding sum_of
of_turned g op a b o none is =
    is ∙ ap (λ k. sum_from k (turned op (tree_number (tree_of g a)) (under_negative (tree_of g a)) (under_negative (tree_of g b)) (tree_of g a) (tree_of g b))) none

as_summed : (g : Graph) (op : BinaryOp) (a b : ℕ) → IsTerm g.inputs (Two op (tree_of g a) (tree_of g b)) → (p : Sum) → p ≡ sum_of op (tree_of g a) (tree_of g b) →
    {k : Graph} {id w : ℕ} {F : List ℕ → BitVector} → w ≡ tree_width p.first →
    ((input : List ℕ) → All (λ b. b < 256) input → F input ≡ binary p.op (tree_value input p.first) (tree_value input p.second)) →
    Stands k id (summed p) w F → Stands k id (summed (sum_of op (tree_of g a) (tree_of g b))) (width_of g a) (λ input. binary op (val g a input) (val g b input))
as_summed g op a b term p is wide worth n =
    at_width (wide ∙ ap (λ (q : Sum). tree_width q.first) is ∙ width-sum_of g.inputs [] no_bytes op (tree_of g a) (tree_of g b) term ∙ width-tree_of g a)
    (at_tree (ap summed is) (Stands-worth (λ input bytes.
    worth input bytes
    ∙ ap (λ (q : Sum). binary q.op (tree_value input q.first) (tree_value input q.second)) is
    ∙ value-sum_of g.inputs input bytes op (tree_of g a) (tree_of g b) term
    ∙ ap (λ v. binary op v (tree_value input (tree_of g b))) (value-tree_of g a input)
    ∙ ap (binary op (val g a input)) (value-tree_of g b input)) n))

-- a term that is widened
pub wide_there : (g : Graph) (w : ℕ) (o : WideSummand) → IsWideSummand g w o → tree_width (wide_term g o) ≡ w
wide_there g w o is = width-further o.by false (tree_of g o.term) ∙ ap (λ k. k + o.by) (width-tree_of g o.term) ∙ is.wide

pub widened_summand : (g m : Graph) (w : ℕ) (o : WideSummand) (t : ℕ) → IsWideSummand g w o → t < length m.nodes → tree_of m t ≡ wide_term g o →
    IsSummand m w (record { taken = o.taken; term = t; number = o.number })
widened_summand g m w o t is there same = record {
  there = there;
  wide = sym (width-tree_of m t) ∙ ap tree_width same ∙ wide_there g w o is;
  number = is.number;
}

pub wide_stands : (g m : Graph) (o : WideSummand) (t : ℕ) → tree_of m t ≡ wide_term g o → {k : Graph} {id w : ℕ} →
    Stands k id (summed (sum_at o.taken (tree_of m t) o.number)) w (λ input. offset_word o.taken (val m t input) o.number) →
    Stands k id (summed (sum_at o.taken (wide_term g o) o.number)) w (λ input. offset_word o.taken (tree_value input (wide_term g o)) o.number)
wide_stands g m o t same n =
    at_tree (ap (λ u. summed (sum_at o.taken u o.number)) same)
    (Stands-worth (λ input bytes. ap (λ v. offset_word o.taken v o.number) (sym (value-tree_of m t input) ∙ ap (tree_value input) same)) n)

-- what is made of it is worth it
further_made : (g k : Graph) (by : ℕ) (signed : Bool) (a id : ℕ) → id < length k.nodes → tree_of k id ≡ further by signed (tree_of g a) →
    Stands k id (further by signed (tree_of g a)) (width_of g a + by) (λ input. tree_value input (further by signed (tree_of g a)))
further_made g k by signed a id there same = record {
  there = there;
  tree = same;
  width = sym (width-tree_of k id) ∙ ap tree_width same ∙ width-further by signed (tree_of g a) ∙ ap (λ j. j + by) (width-tree_of g a);
  value = λ input bytes. sym (value-tree_of k id input) ∙ ap (tree_value input) same;
}

pub further_stands : {E : Type 0} (g k : Graph) (by : ℕ) (signed : Bool) (a : ℕ) (r : Result ℕ E) → IfOk r (λ id. id < length k.nodes) →
    IfOk r (λ id. tree_of k id ≡ further by signed (tree_of g a)) →
    IfOk r (λ id. Stands k id (further by signed (tree_of g a)) (width_of g a + by) (λ input. tree_value input (further by signed (tree_of g a))))
further_stands g k by signed a (Ok id) there same = further_made g k by signed a id there same
further_stands g k by signed a (Err e) there same = tt

sum_wide : (g : Graph) (w : ℕ) (o : WideSummand) (taken : Bool) → IsWideSummand g w o → w ≡ tree_width (sum_at taken (wide_term g o) o.number).first
sum_wide g w o true is = sym is.number.width
sum_wide g w o false is = sym (wide_there g w o is)

sum_worth : (t : Tree) (n : BitVector) (taken : Bool) (input : List ℕ) → offset_word taken (tree_value input t) n
    ≡ binary (sum_at taken t n).op (tree_value input (sum_at taken t n).first) (tree_value input (sum_at taken t n).second)
sum_worth t n true input = refl
sum_worth t n false input = refl

module _ (h g : Graph) (e : h ≡ g) (op : BinaryOp) (a b : ℕ) (term : IsTerm g.inputs (Two op (tree_of g a) (tree_of g b))) where
  -- found in an equal graph
  pub offset_stands : (o : WideSummand) → IsWideSummand h (width_of h a) o →
      Some (wide_offset_at h o) ≡ offset_sum op (tree_number (tree_of h a)) (tree_number (tree_of h b)) (tree_of h a) (tree_of h b) →
      {k : Graph} {id w : ℕ} → w ≡ o.number.width →
      Stands k id (summed (sum_at o.taken (wide_term g o) o.number)) w (λ input. offset_word o.taken (tree_value input (wide_term g o)) o.number) →
      Stands k id (summed (sum_of op (tree_of g a) (tree_of g b))) (width_of g a) (λ input. binary op (val g a input) (val g b input))
  offset_stands o some is wide n =
      let here : IsWideSummand g (width_of g a) o = subst (λ (f : Graph). IsWideSummand f (width_of f a) o) e some in
      let found = subst (λ (f : Graph). Some (wide_offset_at f o) ≡ offset_sum op (tree_number (tree_of f a)) (tree_number (tree_of f b)) (tree_of f a) (tree_of f b)) e is in
      as_summed g op a b term (sum_at o.taken (wide_term g o) o.number) (of_offset g op a b o found)
      (wide ∙ here.number.width ∙ sum_wide g (width_of g a) o o.taken here) (λ input bytes. sum_worth (wide_term g o) o.number o.taken input) n

  pub turned_stands : (j : Graph) → j ≡ g → (o : Operation) →
      None ≡ offset_sum op (tree_number (tree_of h a)) (tree_number (tree_of h b)) (tree_of h a) (tree_of h b) →
      operation_at j o ≡ turned op (tree_number (tree_of j a)) (under_negative (tree_of j a)) (under_negative (tree_of j b)) (tree_of j a) (tree_of j b) →
      {k : Graph} {id : ℕ} → Stands k id (narrowed o.op (tree_of g o.first) (tree_of g o.second)) (width_of g o.first)
      (λ input. binary o.op (val g o.first input) (val g o.second input)) →
      Stands k id (summed (sum_of op (tree_of g a) (tree_of g b))) (width_of g a) (λ input. binary op (val g a input) (val g b input))
  turned_stands j also o none is n =
      let found = subst (λ (f : Graph). None ≡ offset_sum op (tree_number (tree_of f a)) (tree_number (tree_of f b)) (tree_of f a) (tree_of f b)) e none in
      let made = subst (λ (f : Graph). operation_at f o ≡ turned op (tree_number (tree_of f a)) (under_negative (tree_of f a)) (under_negative (tree_of f b)) (tree_of f a) (tree_of f b)) also is in
      as_summed g op a b term (operation_at g o) (of_turned g op a b o found made) (sym (width-tree_of g o.first))
      (λ input bytes. ap (λ v. binary o.op v (val g o.second input)) (sym (value-tree_of g o.first input))
      ∙ ap (binary o.op (tree_value input (tree_of g o.first))) (sym (value-tree_of g o.second input))) n
