-- Two terms of a graph without a bit in common, as the code finds them.
use Rattle.std.proofs.Common.{◌≡◌, ◌∙◌, ℕ, ◌-◌, ◌<◌, ◌≤◌, true, false, cond, length, Some, None, refl, arith}
use Rattle.std.specs.Prelude.{Option, nat_le, ◌&&◌}
use Rattle.std.specs.List.{slice_get}
use Rattle.std.specs.Option.{IfSome}
use Rattle.bv_dag.specs.Graphs.{Graph, IsDag, width_of}
use Rattle.bv_dag.specs.declared.nodes.Node.{Node}
use Rattle.bv_dag.specs.declared.nodes.Node.TheVariants.{Num, Input, Not, Neg, Binary, Compare, Ite, Extract, Extend, Concat}
use Rattle.term_trees.specs.Trees.{Tree, Joined, tree_of, node_tree, tree_width}
use Rattle.term_trees.proofs.TreeLaws.{tree_by_cases, width-tree_of}
use Rattle.term_simplify.specs.Joints.{joint_by, joint_over, joint_tree, IsJoint}
use Rattle.term_simplify.specs.Narrowing.{is_zero}
use Rattle.term_simplify.specs.Plain.{further, joined_of, tree_number}
use Rattle.term_simplify.specs.Plans.{under_zeros}
use Rattle.term_simplify.proofs.PartTerms.{some_bits}
use Rattle.term_simplify.proofs.Reading.{has_bits, term_at}
use Rattle.term_simplify.proofs.Words.{most_false, most_true}

pub if_some : {A : Type 0} (r : Option A) (P Q : A → Type 0) → IfSome r P → ((x : A) → P x → Q x) → IfSome r Q
if_some (Some x) P Q p f = f x p
if_some None P Q p f = tt

-- nothing that is widened by zeros
none_over : (s otherwise : Tree) → joint_over s None otherwise ≡ otherwise
none_over (Joined u z) otherwise = refl
none_over s otherwise = refl

pub not_widened : (s t otherwise : Tree) → None ≡ under_zeros t → joint_by s t otherwise ≡ otherwise
not_widened s t otherwise e = rw (← e) (none_over s otherwise)

-- nothing above
not_concat : (f : ℕ → Tree) (n : Node) (o : Option Tree) (otherwise : Tree) → ((high low : ℕ) → n ≡ Concat high low → ⊥) →
    joint_over (node_tree f n) o otherwise ≡ otherwise
not_concat f (Concat high low) o otherwise other = absurd (other high low refl)
not_concat f (Num w v) o otherwise other = refl
not_concat f (Input i) o otherwise other = refl
not_concat f (Not a) o otherwise other = refl
not_concat f (Neg a) o otherwise other = refl
not_concat f (Binary op a b) o otherwise other = refl
not_concat f (Compare op a b) o otherwise other = refl
not_concat f (Ite c a b) o otherwise other = refl
not_concat f (Extract high low a) o otherwise other = refl
not_concat f (Extend by signed a) o otherwise other = refl

pub not_joined : (g : Graph) (a : ℕ) (n : Node) (t otherwise : Tree) → IsDag g → slice_get g.nodes a ≡ Some n →
    ((high low : ℕ) → n ≡ Concat high low → ⊥) → joint_by (tree_of g a) t otherwise ≡ otherwise
not_joined g a n t otherwise dag is other = rw (tree_by_cases g a n dag is) (not_concat (tree_of g) n (under_zeros t) otherwise other)

-- ---- a term above another, and one that is widened by zeros
module _ (g : Graph) (dag : IsDag g) (a b high low lower : ℕ) (is : slice_get g.nodes a ≡ Some (Concat high low)) (under : Some (tree_of g lower) ≡ under_zeros (tree_of g b)) where
  over : (otherwise : Tree) → joint_by (tree_of g a) (tree_of g b) otherwise
      ≡ cond (is_zero (tree_number (tree_of g low)) && nat_le (tree_width (tree_of g lower)) (tree_width (tree_of g low)))
      (joined_of (tree_of g high) (further (tree_width (tree_of g low) - tree_width (tree_of g lower)) false (tree_of g lower))) otherwise
  over otherwise = rw (tree_by_cases g a (Concat high low) dag is, ← under) refl

  pub not_zeros : (otherwise : Tree) → is_zero (tree_number (tree_of g low)) ≡ false → joint_by (tree_of g a) (tree_of g b) otherwise ≡ otherwise
  not_zeros otherwise h = over otherwise ∙ rw h refl

  pub too_wide : (otherwise : Tree) → is_zero (tree_number (tree_of g low)) ≡ true → width_of g low < width_of g lower →
      joint_by (tree_of g a) (tree_of g b) otherwise ≡ otherwise
  too_wide otherwise h less =
      let wide = most_false (tree_width (tree_of g lower)) (tree_width (tree_of g low)) (omega (arith, less, width-tree_of g low, width-tree_of g lower)) in
      over otherwise ∙ rw (h, wide) refl

  pub stands_above : (otherwise : Tree) → is_zero (tree_number (tree_of g low)) ≡ true → width_of g lower ≤ width_of g low →
      joint_by (tree_of g a) (tree_of g b) otherwise
      ≡ joint_tree g (record { upper = high; lower = lower; by = width_of g low - width_of g lower })
  stands_above otherwise h fits =
      let few = most_true (tree_width (tree_of g lower)) (tree_width (tree_of g low)) (omega (arith, fits, width-tree_of g low, width-tree_of g lower)) in
      over otherwise ∙ rw (h, few, width-tree_of g low, width-tree_of g lower) refl

  pub has_room : lower < length g.nodes → width_of g lower ≤ width_of g low →
      IsJoint g (record { upper = high; lower = lower; by = width_of g low - width_of g lower })
  has_room there fits =
      let term = term_at g a (Concat high low) dag is in
      record {
        upper = omega (arith, some_bits g.inputs (tree_of g high) term.0, width-tree_of g high);
        lower = (has_bits g lower dag there).0;
        fits = omega (arith, term.2, width-tree_of g high, width-tree_of g low, fits);
      }
