-- The rules of tests, as the plans go through them.
use Rattle.std.proofs.Common.{◌≡◌, ◌==◌, ℕ, ◌*◌, ◌%◌, ◌^◌, ◌<◌, Bool, true, false, not, cond, leb, refl, ap, sym, ◌∙◌, Some, None}
use Rattle.std.specs.Prelude.{Option, nat_le, option_map, unwrap_or}
use Rattle.std.proofs.lemmas.Nat.{one_shl}
use Rattle.bv_dag.specs.BitVectors.{BitVector, bit, is_negative}
use Rattle.bv_dag.specs.Graphs.{Graph, width_of}
use Rattle.bv_dag.specs.Nodes.{Fits, widths_of}
use Rattle.bv_dag.specs.declared.nodes.Comparison.{Comparison}
use Rattle.bv_dag.specs.declared.nodes.Comparison.TheVariants.{Ult, Slt, Eq}
use Rattle.bv_dag.specs.declared.nodes.Node.TheVariants.{Compare}
use Rattle.term_trees.specs.Trees.{Tree, Widened, Test, tree_of, tree_width}
use Rattle.term_trees.proofs.TreeLaws.{width-tree_of}
use Rattle.term_simplify.specs.Plans.{Makes, under_zeros}
use Rattle.term_simplify.specs.Plain.{number_tree, complement_of, excludes, bit_under, equality_of, test_first, test_second}
use Rattle.term_simplify.specs.declared.plan.Plan.TheVariants.{Push}

-- a test that stays as it is
pub Makes-plain_test : (g : Graph) (op : Comparison) (a b : ℕ) →
    Fits g.inputs (widths_of g.nodes) (Compare op a b) →
    Makes g (Push (Compare op a b)) (Test op (tree_of g a) (tree_of g b))
Makes-plain_test g op a b fits = record { is = refl; fits = fits }

excludes_under : (t u : Tree) (n : ℕ) → Some u ≡ under_zeros t →
    excludes t n ≡ nat_le (2 ^ tree_width u) n
excludes_under (Widened by false t) u n e = let same : t ≡ u = cc in ap (λ k. nat_le (2 ^ tree_width k) n) same
excludes_under (Widened by true t) u n e = cc
excludes_under t u n e = cc

pub excludes_by_width : (g : Graph) (id k w n : ℕ) (r : Option ℕ) → r ≡ Some k →
    option_map (tree_of g) r ≡ under_zeros (tree_of g id) → w ≡ width_of g k → w < 64 →
    leb (1 * 2 ^ w % 18446744073709551616) n ≡ excludes (tree_of g id) n
excludes_by_width g id k w n r is e wide h =
    ap (λ m. leb m n) (one_shl w 64 h ∙ ap (λ j. 2 ^ j) (wide ∙ sym (width-tree_of g k)))
    ∙ sym (excludes_under (tree_of g id) (tree_of g k) n (sym (ap (option_map (tree_of g)) is) ∙ e))

bit_by_narrow : (t : Tree) →
    bit_under t ≡ cond (tree_width (unwrap_or (under_zeros t) t) == 1) (Some (unwrap_or (under_zeros t) t)) None
bit_by_narrow (Widened by false t) = refl
bit_by_narrow (Widened by true t) = refl
bit_by_narrow t = refl

unwrapped : (f : ℕ → Tree) (r : Option ℕ) (id : ℕ) →
    unwrap_or (option_map f r) (f id) ≡ f (unwrap_or r id)
unwrapped f (Some k) id = refl
unwrapped f None id = refl

pub bit_by_width : (g : Graph) (id k w : ℕ) (r : Option ℕ) →
    option_map (tree_of g) r ≡ under_zeros (tree_of g id) → k ≡ unwrap_or r id →
    w ≡ width_of g k → bit_under (tree_of g id) ≡ cond (w == 1) (Some (tree_of g k)) None
bit_by_width g id k w r e is wide =
    let same : unwrap_or (under_zeros (tree_of g id)) (tree_of g id) ≡ tree_of g k =
    ap (λ u. unwrap_or u (tree_of g id)) (sym e) ∙ unwrapped (tree_of g) r id ∙ ap (tree_of g) (sym is) in
    bit_by_narrow (tree_of g id) ∙ ap (λ u. cond (tree_width u == 1) (Some u) None) same ∙ ap
    (λ j. cond (j == 1) (Some (tree_of g k)) None) (width-tree_of g k ∙ sym wide)

module _ (op : Comparison) (x : BitVector) (n : ℕ) (s t : Tree) (value : n ≡ x.number) where
  pub test_first-ult : (b : Bool) (z : BitVector) → b ≡ excludes t n →
      z ≡ record { width = 1; number = 0 } → op ≡ Ult →
      test_first op x s t ≡ cond b (number_tree z) (Test op s t)
  test_first-ult b z f zero e = rw (e, f, zero, value) refl

  pub test_first-slt : (b negative : Bool) (z : BitVector) → b ≡ excludes t n →
      negative ≡ is_negative x → z ≡ bit negative → op ≡ Slt →
      test_first op x s t ≡ cond b (number_tree z) (Test op s t)
  test_first-slt b negative z f sign is e = rw (e, f, is, sign, value) refl

  pub test_first-eq : op ≡ Eq → test_first op x s t ≡ equality_of t n (Test op s t)
  test_first-eq e = rw (e, value) refl

  pub test_second-ult : (b : Bool) (z o : BitVector) → b ≡ excludes s n →
      z ≡ record { width = 1; number = 0 } → o ≡ record { width = 1; number = 1 } → op ≡ Ult →
      test_second op x s t ≡ cond (n == 0) (number_tree z) (cond b (number_tree o) (Test op s t))
  test_second-ult b z o f zero one e = rw (e, f, zero, one, value) refl

  pub test_second-slt : (b negative : Bool) (z : BitVector) → b ≡ excludes s n →
      negative ≡ is_negative x → z ≡ bit (not negative) → op ≡ Slt →
      test_second op x s t ≡ cond b (number_tree z) (Test op s t)
  test_second-slt b negative z f sign is e = rw (e, f, is, sign, value) refl

  pub test_second-eq : op ≡ Eq → test_second op x s t ≡ equality_of s n (Test op s t)
  test_second-eq e = rw (e, value) refl

-- ---- an equality, step by step
pub equal_excluded : (t : Tree) (n : ℕ) (otherwise : Tree) (z : BitVector) → true ≡ excludes t n →
    z ≡ record { width = 1; number = 0 } → equality_of t n otherwise ≡ number_tree z
equal_excluded t n otherwise z e f = rw (← e, f) refl

pub equal_none : (t : Tree) (n : ℕ) (otherwise : Tree) → false ≡ excludes t n →
    None ≡ bit_under t → equality_of t n otherwise ≡ otherwise
equal_none t n otherwise e f = rw (← e, ← f) refl

pub equal_bit : (t b : Tree) (n : ℕ) (otherwise : Tree) → false ≡ excludes t n →
    Some b ≡ bit_under t → equality_of t n otherwise ≡ cond (n == 1) b (complement_of b)
equal_bit t b n otherwise e f = rw (← e, ← f) refl
