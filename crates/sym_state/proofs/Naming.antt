-- What the node of a term says of it: a number is that number, and any other is none.
use Rattle.std.proofs.Common.{◌≡◌, ◌≢◌, ℕ, zero, suc, ◌-◌, ◌<◌, ◌^◌, List, refl, sym, ap, subst, ◌∙◌, arith}
use Rattle.std.specs.Prelude.{◌==◌, not, None, Some, Result, Ok, Err, IfOk, slice_get}
use Rattle.bv_dag.specs.BitVectors.{BitVector, IsBitVector, bvnot}
use Rattle.bv_dag.specs.Graphs.{Graph, IsDag, number_of, val, width_of}
use Rattle.bv_dag.specs.declared.nodes.Node.{Node}
use Rattle.bv_dag.specs.declared.nodes.Node.TheVariants.{Num, Input, Not, Neg, Binary, Compare, Ite, Extract, Extend, Concat}
use Rattle.bv_dag.proofs.TermLaws.{there, width-val}
use Rattle.term_simplify.specs.Builds.{BuildsNode}
use Rattle.term_simplify.specs.Plain.{tree_number}
use Rattle.term_trees.specs.Trees.{Tree, Constant, IsTerm, node_tree, tree_of, tree_value, tree_width}
use Rattle.rv_spec.specs.Arithmetic.{one_where}
use Rattle.term_trees.proofs.Numbers.{number_fits}
use Rattle.term_trees.proofs.Terms.{is_term}
use Rattle.term_trees.proofs.TreeLaws.{tree_by_cases, value-tree_of, width-tree_of}
use Rattle.sym_state.specs.Values.{GivesTerm, IsUnknown}

-- the number of a node
pub number_is : (g : Graph) (id w v : ℕ) (input : List ℕ) → IsDag g → slice_get g.nodes id ≡ Some (Num w v)
    → number_of g id input ≡ v
number_is g id w v input dag is =
    ap (λ (x : BitVector). x.number)
    (sym (value-tree_of g id input) ∙ ap (tree_value input) (tree_by_cases g id (Num w v) dag is))

-- it is below what its bits can hold
pub number_below : (g : Graph) (id w v k : ℕ) → IsDag g → slice_get g.nodes id ≡ Some (Num w v)
    → width_of g id ≡ k → 0 < k → v < 2 ^ k
number_below g id w v k dag is width some =
    let tree : tree_of g id ≡ Constant w v = tree_by_cases g id (Num w v) dag is in
    let bits : IsBitVector w v = subst (IsTerm g.inputs) tree (is_term g id dag (there g id k width some)) in
    let same : w ≡ k = sym (ap tree_width tree) ∙ width-tree_of g id ∙ width in
    subst (λ n. v < 2 ^ n) same bits.in_range

no_number : (n : Node) (operand : ℕ → Tree) → ((w v : ℕ) → n ≢ Num w v) → tree_number (node_tree operand n) ≡ None
no_number (Num w v) operand other = absurd (other w v refl)
no_number (Input i) operand other = refl
no_number (Not a) operand other = refl
no_number (Neg a) operand other = refl
no_number (Binary op a b) operand other = refl
no_number (Compare op a b) operand other = refl
no_number (Ite c a b) operand other = refl
no_number (Extract high low a) operand other = refl
no_number (Extend by signed a) operand other = refl
no_number (Concat a b) operand other = refl

-- a node that is no number
pub unknown_node : (g : Graph) (id w : ℕ) (n : Node) → IsDag g → slice_get g.nodes id ≡ Some n → width_of g id ≡ w
    → ((v u : ℕ) → n ≢ Num v u) → IsUnknown g w id
unknown_node g id w n dag is width other = record {
  width = width;
  no_number = ap tree_number (tree_by_cases g id n dag is) ∙ no_number n (tree_of g) other;
}

-- the other of one bit
number-not : (x : BitVector) → x.width ≡ 1 → (bvnot x).number ≡ 1 - x.number
unfolding bvnot
number-not x is = ap (λ w. 2 ^ w - 1 - x.number) is

other_bit : (n : ℕ) → n < 2 → 1 - n ≡ one_where (not (n == 1))
other_bit zero small = refl
other_bit (suc zero) small = refl
other_bit (suc (suc n)) small = absurd (omega (arith, small))

pub not_gives : {E : Type 0} (g h : Graph) (id : ℕ) (r : Result ℕ E) → IsTerm g.inputs (tree_of g id)
    → width_of g id ≡ 1 → IfOk r (BuildsNode g h (Not id))
    → IfOk r (λ other. GivesTerm g h 1 other (λ input. one_where (not (number_of g id input == 1))))
not_gives g h id (Err e) term bit builds = tt
not_gives g h id (Ok other) term bit builds = record {
  continues = builds.continues;
  width = builds.width ∙ bit;
  worth = λ input bytes.
      ap (λ (x : BitVector). x.number) (builds.value input bytes) ∙ number-not (val g id input) (width-val g id input ∙ bit)
      ∙ other_bit (number_of g id input) (number_fits g id 1 input term bit bytes);
}

-- one bit is the number that it is
pub number-bit : (v : ℕ) → v < 2 → one_where (v == 1) ≡ v
number-bit zero small = refl
number-bit (suc zero) small = refl
number-bit (suc (suc n)) small = absurd (omega (arith, small))
