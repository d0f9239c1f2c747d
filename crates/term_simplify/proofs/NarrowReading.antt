-- How few bits an operation takes, as it is read off the nodes of a graph.
use Rattle.std.proofs.Common.{◌≡◌, ℕ, ◌+◌, ◌&&◌, Bool, true, false, refl, ap, sym, ◌∙◌, Some, None}
use Rattle.std.specs.Prelude.{Option, is_some, max, min, if◌then◌else◌}
use Rattle.std.specs.List.{slice_get}
use Rattle.bv_dag.specs.BitVectors.{BitVector}
use Rattle.bv_dag.specs.Graphs.{Graph, IsDag, width_of}
use Rattle.bv_dag.specs.declared.nodes.BinaryOp.{BinaryOp}
use Rattle.bv_dag.specs.declared.nodes.Node.{Node}
use Rattle.bv_dag.specs.declared.nodes.Node.TheVariants.{Num, Input, Not, Neg, Binary, Compare, Ite, Extract, Extend, Concat}
use Rattle.term_trees.specs.Trees.{Tree, tree_of, node_tree, tree_width}
use Rattle.term_trees.proofs.TreeLaws.{tree_by_cases, width-tree_of}
use Rattle.term_simplify.specs.Plain.{tree_number}
use Rattle.term_simplify.specs.Ends.{ends_of}
use Rattle.term_simplify.specs.Narrowing.{number_reach, reach_of, reach_up_to, unsigned_result, signed_result, narrowest, are_numbers, is_settled, binary_narrowing, pair_narrowing, negative_narrowing}
use Rattle.term_simplify.specs.declared.narrowing.Narrow.{Narrow}
use Rattle.term_simplify.specs.declared.narrowing.Reach.{Reach}
use Rattle.term_simplify.proofs.Reading.{width_at}

-- ---- how many low bits tell a term
same_up_to : (m n j k : ℕ) → m ≡ j → n ≡ k → reach_up_to m n ≡ reach_up_to j k
same_up_to m n j k e f = ap (λ x. reach_up_to x n) e ∙ ap (reach_up_to j) f

-- of any other node than a number, or a term widened by sign
reach_read : (f : ℕ → Tree) (n : Node) → ((w v : ℕ) → n ≡ Num w v → ⊥) → ((by a : ℕ) → n ≡ Extend by true a → ⊥) →
    reach_up_to (ends_of (node_tree f n)).greatest.number (tree_width (node_tree f n)) ≡ reach_of (node_tree f n)
reach_read f (Num w v) x y = absurd (x w v refl)
reach_read f (Extend by true a) x y = absurd (y by a refl)
reach_read f (Extend by false a) x y = refl
reach_read f (Input i) x y = refl
reach_read f (Not a) x y = refl
reach_read f (Neg a) x y = refl
reach_read f (Binary op a b) x y = refl
reach_read f (Compare op a b) x y = refl
reach_read f (Ite c a b) x y = refl
reach_read f (Extract high low a) x y = refl
reach_read f (Concat a b) x y = refl

module _ (g : Graph) (id : ℕ) (dag : IsDag g) where
  pub number_reach_at : (w v : ℕ) (x : BitVector) (r : Reach) → slice_get g.nodes id ≡ Some (Num w v) →
      x ≡ record { width = w; number = v } → r ≡ number_reach x → r ≡ reach_of (tree_of g id)
  number_reach_at w v x r is e f = f ∙ ap number_reach e ∙ sym (ap reach_of (tree_by_cases g id (Num w v) dag is))

  module _ (m : ℕ) (greatest : m ≡ (ends_of (tree_of g id)).greatest.number) where
    greatest_read : (n : Node) → slice_get g.nodes id ≡ Some n → m ≡ (ends_of (node_tree (tree_of g) n)).greatest.number
    greatest_read n is = greatest ∙ ap (λ t. (ends_of t).greatest.number) (tree_by_cases g id n dag is)

    pub signed_reach_at : (by a k : ℕ) → slice_get g.nodes id ≡ Some (Extend by true a) → k ≡ width_of g a →
        reach_up_to m k ≡ reach_of (tree_of g id)
    signed_reach_at by a k is e =
        same_up_to m k _ _ (greatest_read (Extend by true a) is) (e ∙ sym (width-tree_of g a))
        ∙ sym (ap reach_of (tree_by_cases g id (Extend by true a) dag is))

    pub plain_reach_at : (n : Node) (k : ℕ) → slice_get g.nodes id ≡ Some n → ((w v : ℕ) → n ≡ Num w v → ⊥) →
        ((by a : ℕ) → n ≡ Extend by true a → ⊥) → k ≡ width_of g id →
        reach_up_to m k ≡ reach_of (tree_of g id)
    plain_reach_at n k is x y e =
        same_up_to m k _ _ (greatest_read n is) (e ∙ width_at g id n dag is) ∙ reach_read (tree_of g) n x y
        ∙ sym (ap reach_of (tree_by_cases g id n dag is))

-- ---- where an operation is made of fewer bits
pub first_no_number : (s t : Tree) → is_some (tree_number s) ≡ false → are_numbers s t ≡ false
first_no_number s t e = ap (λ k. k && is_some (tree_number t)) e

and_false : (b : Bool) → (b && false) ≡ false
and_false true = refl
and_false false = refl

pub second_no_number : (s t : Tree) → is_some (tree_number t) ≡ false → are_numbers s t ≡ false
second_no_number s t e = ap (λ k. is_some (tree_number s) && k) e ∙ and_false (is_some (tree_number s))

narrowest_same : (u v w x y z : ℕ) → u ≡ x → v ≡ y → w ≡ z → narrowest u v w ≡ narrowest x y z
narrowest_same u v w x y z e f h =
    ap (λ k. narrowest k v w) e ∙ ap (λ k. narrowest x k w) f ∙ ap (λ k. narrowest x y k) h

otherwise : (b : Bool) (n : Option Narrow) → b ≡ false → n ≡ (if b then None else n)
otherwise b n e = sym (ap (λ (k : Bool). if k then None else n) e)

module _ (g : Graph) (a : ℕ) (p : Reach) (w : ℕ) (r : Option Narrow)
    (first : p ≡ reach_of (tree_of g a)) (wide : w ≡ width_of g a) where
  narrowest_read : (u v m n : ℕ) (settled : Bool) → settled ≡ false → u ≡ m → v ≡ n → r ≡ narrowest u v w →
      r ≡ (if settled then None else narrowest m n (tree_width (tree_of g a)))
  narrowest_read u v m n settled other e f is =
      is ∙ narrowest_same u v w m n _ e f (wide ∙ sym (width-tree_of g a)) ∙ otherwise settled _ other

  pub negative_read : (v : ℕ) → is_some (tree_number (tree_of g a)) ≡ false →
      v ≡ min p.unsigned p.signed + 1 → r ≡ narrowest 64 v w → r ≡ negative_narrowing (tree_of g a)
  negative_read v other f is =
      narrowest_read 64 v _ _ _ other refl (f ∙ ap (λ (k : Reach). min k.unsigned k.signed + 1) first) is

  module _ (b : ℕ) (q : Reach) (second : q ≡ reach_of (tree_of g b)) where
    pub pair_read : (u v : ℕ) → are_numbers (tree_of g a) (tree_of g b) ≡ false →
        u ≡ max p.unsigned q.unsigned → v ≡ max p.signed q.signed → r ≡ narrowest u v w →
        r ≡ pair_narrowing (tree_of g a) (tree_of g b)
    pair_read u v other e f is =
        narrowest_read u v _ _ _ other
        (e ∙ ap (λ (k : Reach). max k.unsigned q.unsigned) first
        ∙ ap (λ (k : Reach). max (reach_of (tree_of g a)).unsigned k.unsigned) second)
        (f ∙ ap (λ (k : Reach). max k.signed q.signed) first
        ∙ ap (λ (k : Reach). max (reach_of (tree_of g a)).signed k.signed) second)
        is

    pub binary_read : (op : BinaryOp) (u v : ℕ) → is_settled op (tree_of g a) (tree_of g b) ≡ false →
        u ≡ unsigned_result op p q → v ≡ signed_result op p q → r ≡ narrowest u v w →
        r ≡ binary_narrowing op (tree_of g a) (tree_of g b)
    binary_read op u v other e f is =
        narrowest_read u v _ _ _ other
        (e ∙ ap (λ k. unsigned_result op k q) first
        ∙ ap (λ k. unsigned_result op (reach_of (tree_of g a)) k) second)
        (f ∙ ap (λ k. signed_result op k q) first
        ∙ ap (λ k. signed_result op (reach_of (tree_of g a)) k) second)
        is
