-- Widened sums of a graph, as the code finds them.
use Rattle.std.proofs.Common.{◌≡◌, ◌⊎◌, ◌∙◌, ℕ, ◌+◌, ◌<◌, ◌≤◌, Bool, true, false, cond, [], length, Some, None, refl, ap, sym, arith}
use Rattle.std.specs.Prelude.{Option}
use Rattle.std.specs.List.{All, slice_get}
use Rattle.std.specs.Option.{IfSome}
use Rattle.std.proofs.lemmas.List.Elements.{All-nil}
use Rattle.bv_dag.specs.BitVectors.{BitVector}
use Rattle.bv_dag.specs.Graphs.{Graph, IsDag, width_of}
use Rattle.bv_dag.specs.Nodes.{extend}
use Rattle.bv_dag.specs.declared.nodes.BinaryOp.{BinaryOp}
use Rattle.bv_dag.specs.declared.nodes.Node.{Node}
use Rattle.bv_dag.specs.declared.nodes.Node.TheVariants.{Num, Input, Not, Neg, Binary, Compare, Ite, Extract, Extend, Concat}
use Rattle.term_trees.specs.Trees.{Tree, Constant, Widened, IsOfWidth, IsTerm, tree_of, tree_width, node_tree}
use Rattle.term_trees.proofs.Ranges.{in_range}
use Rattle.term_trees.proofs.Terms.{is_term}
use Rattle.term_trees.proofs.TreeLaws.{tree_by_cases, width-tree_of}
use Rattle.term_simplify.specs.Offsets.{IsSummand, offset_by, offset_in, offset_of, wide_offset_at, wide_offset_of}
use Rattle.term_simplify.specs.Plain.{extension_by, further, tree_number}
use Rattle.term_simplify.specs.WideSums.{is_exact, operands_widened, widened_two, widened_within}
use Rattle.term_simplify.specs.declared.offsets.Summand.{Summand}
use Rattle.term_simplify.specs.declared.wide_sums.WideSummand.{WideSummand}
use Rattle.term_simplify.proofs.PartTerms.{term-extension_by, width-extension_by}
use Rattle.term_simplify.proofs.Reading.{width_at}
use Rattle.term_simplify.proofs.Telling.{either}
use Rattle.term_simplify.proofs.Words.{number_value, tests_unequal}

-- ---- a number that is widened
pub wide_some : (by : ℕ) (t : Tree) (x : BitVector) → Some x ≡ tree_number t → Some (extend false by x) ≡ tree_number (extension_by by false t)
unfolding extension_by
wide_some by (Constant w v) x e = cc
wide_some by t x e = cc

pub wide_none : (by : ℕ) (t : Tree) → None ≡ tree_number t → None ≡ tree_number (extension_by by false t)
unfolding extension_by
wide_none by (Constant w v) e = cc
wide_none by (Widened inner false t) e = refl
wide_none by (Widened inner true t) e = refl
wide_none by t e = refl

no_bytes : All (λ b. b < 256) []
no_bytes = All-nil (λ b. b < 256)

number_in : (inputs : ℕ) (t : Tree) (x : Option BitVector) → IsTerm inputs t → x ≡ tree_number t → IfSome x (λ n. IsOfWidth (tree_width t) n)
number_in inputs t (Some n) term e = rw (← number_value [] t n (sym e)) (in_range inputs [] no_bytes t term)
number_in inputs t None term e = tt

pub number_here : (g : Graph) (dag : IsDag g) (a w : ℕ) (x : Option BitVector) → a < length g.nodes → width_of g a ≡ w → x ≡ tree_number (tree_of g a) →
    IfSome x (λ n. IsOfWidth w n)
number_here g dag a w x there wide e = rw (← wide, ← width-tree_of g a) (number_in g.inputs (tree_of g a) x (is_term g a dag there) e)

-- a term and a number that are one operand and the other
pub summand_from : (g : Graph) (a b : ℕ) (r : Option Summand) → a < length g.nodes → b < length g.nodes → width_of g a ≡ width_of g b →
    IfSome r (λ o. (o.term ≡ a) ⊎ (o.term ≡ b)) → IfSome r (λ o. IsOfWidth (width_of g a) o.number) → IfSome r (λ o. IsSummand g (width_of g a) o)
summand_from g a b (Some o) first second same term number = record {
  there = either (λ k. k < length g.nodes) o.term a b term first second;
  wide = either (λ k. width_of g k ≡ width_of g a) o.term a b term refl (sym same);
  number = number;
}
summand_from g a b None first second same term number = tt

-- the number that a term of a graph is, widened
pub number_widened : (g : Graph) (dag : IsDag g) (by : ℕ) (a w : ℕ) (x : Option BitVector) → a < length g.nodes → 1 ≤ by → width_of g a ≡ w → w + by ≤ 64 →
    x ≡ tree_number (extension_by by false (tree_of g a)) → IfSome x (λ n. IsOfWidth (w + by) n)
number_widened g dag by a w x there some wide room e =
    let here : tree_width (tree_of g a) ≡ w = width-tree_of g a ∙ wide in
    let term : IsTerm g.inputs (extension_by by false (tree_of g a)) =
    term-extension_by g.inputs by false (tree_of g a) (is_term g a dag there, some, omega (arith, here, room)) in
    rw (← here, ← width-extension_by by false (tree_of g a)) (number_in g.inputs (extension_by by false (tree_of g a)) x term e)

-- ---- an operation that is widened
further_is : (by : ℕ) (t : Tree) → 1 ≤ by → further by false t ≡ extension_by by false t
further_is by t some = ap (λ k. cond k t (extension_by by false t)) (tests_unequal by 0 (λ e. omega (arith, some, e)))

abbrev pub wide_of : (by : ℕ) → Summand → WideSummand
wide_of by o = record { taken = o.taken; by = by; term = o.term; number = o.number }

module _ (g : Graph) (by : ℕ) (op : BinaryOp) (a b : ℕ) (x y : Option BitVector) (some : 1 ≤ by) (exact : is_exact op (tree_of g a) (tree_of g b) ≡ true)
    (first : x ≡ tree_number (extension_by by false (tree_of g a))) (second : y ≡ tree_number (extension_by by false (tree_of g b))) where
  apart : offset_of (widened_two by op (tree_of g a) (tree_of g b))
      ≡ offset_by op x y (extension_by by false (tree_of g a)) (extension_by by false (tree_of g b))
  apart = rw (exact, first, second) refl

  pub some_apart : (o : Summand) → Some (offset_in (λ k. extension_by by false (tree_of g k)) o) ≡ offset_by op x y (extension_by by false (tree_of g a)) (extension_by by false (tree_of g b)) →
      Some (wide_offset_at g (wide_of by o)) ≡ offset_of (widened_two by op (tree_of g a) (tree_of g b))
  some_apart o is = rw (further_is by (tree_of g o.term) some) (is ∙ sym apart)

  pub none_apart : None ≡ offset_by op x y (extension_by by false (tree_of g a)) (extension_by by false (tree_of g b)) →
      None ≡ offset_of (widened_two by op (tree_of g a) (tree_of g b))
  none_apart is = is ∙ sym apart

-- ---- other nodes
module _ (f : ℕ → Tree) where
  within_read : (by : ℕ) (n : Node) → ((op : BinaryOp) (a b : ℕ) → n ≡ Binary op a b → ⊥) → None ≡ offset_of (widened_within by (node_tree f n))
  within_read by (Binary op a b) z = absurd (z op a b refl)
  within_read by (Num w v) z = refl
  within_read by (Input i) z = refl
  within_read by (Not a) z = refl
  within_read by (Neg a) z = refl
  within_read by (Compare op a b) z = refl
  within_read by (Ite c a b) z = refl
  within_read by (Extract high low a) z = refl
  within_read by (Extend more fill a) z = refl
  within_read by (Concat a b) z = refl

  narrow_read : (n : Node) → ((by : ℕ) (signed : Bool) (a : ℕ) → n ≡ Extend by signed a → ⊥) → operands_widened (node_tree f n) ≡ node_tree f n
  narrow_read (Extend by signed a) z = absurd (z by signed a refl)
  narrow_read (Num w v) z = refl
  narrow_read (Input i) z = refl
  narrow_read (Not a) z = refl
  narrow_read (Neg a) z = refl
  narrow_read (Binary op a b) z = refl
  narrow_read (Compare op a b) z = refl
  narrow_read (Ite c a b) z = refl
  narrow_read (Extract high low a) z = refl
  narrow_read (Concat a b) z = refl

module _ (g : Graph) (id : ℕ) (dag : IsDag g) where
  pub within_two : (by : ℕ) (op : BinaryOp) (a b : ℕ) → slice_get g.nodes id ≡ Some (Binary op a b) →
      widened_two by op (tree_of g a) (tree_of g b) ≡ widened_within by (tree_of g id)
  within_two by op a b is = ap (widened_within by) (sym (tree_by_cases g id (Binary op a b) dag is))

  pub within_none : (by : ℕ) (n : Node) → slice_get g.nodes id ≡ Some n → ((op : BinaryOp) (a b : ℕ) → n ≡ Binary op a b → ⊥) →
      None ≡ offset_of (widened_within by (tree_of g id))
  within_none by n is z = within_read (tree_of g) by n z ∙ ap (λ t. offset_of (widened_within by t)) (sym (tree_by_cases g id n dag is))

  pub two_within : (op : BinaryOp) (a b : ℕ) → slice_get g.nodes id ≡ Some (Binary op a b) → width_of g a ≡ width_of g id
  two_within op a b is = sym (width-tree_of g a) ∙ sym (width_at g id (Binary op a b) dag is)

  pub widened_here : (by a : ℕ) → slice_get g.nodes id ≡ Some (Extend by false a) →
      offset_of (widened_within by (tree_of g a)) ≡ wide_offset_of (tree_of g id)
  widened_here by a is = ap wide_offset_of (sym (tree_by_cases g id (Extend by false a) dag is))

  pub signed_here : (by a : ℕ) → slice_get g.nodes id ≡ Some (Extend by true a) → None ≡ wide_offset_of (tree_of g id)
  signed_here by a is = ap wide_offset_of (sym (tree_by_cases g id (Extend by true a) dag is))

  pub not_widened_here : (n : Node) → slice_get g.nodes id ≡ Some n → ((by : ℕ) (signed : Bool) (a : ℕ) → n ≡ Extend by signed a → ⊥) →
      offset_of (tree_of g id) ≡ wide_offset_of (tree_of g id)
  not_widened_here n is z =
      let e = tree_by_cases g id n dag is in
      ap offset_of (e ∙ sym (ap operands_widened e ∙ narrow_read (tree_of g) n z))
