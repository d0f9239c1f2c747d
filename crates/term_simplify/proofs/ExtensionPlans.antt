-- The rules of extensions and joins, as the plans go through them.
use Rattle.std.proofs.Common.{◌≡◌, ℕ, ◌+◌, ◌≤◌, Bool, true, false, refl, ap, sym, ◌∙◌, arith, Some, None}
use Rattle.std.specs.Prelude.{Option}
use Rattle.std.specs.List.{slice_get}
use Rattle.bv_dag.specs.BitVectors.{BitVector, concat}
use Rattle.bv_dag.specs.Graphs.{Graph, IsDag, width_of}
use Rattle.bv_dag.specs.Nodes.{Fits, extend, widths_of}
use Rattle.bv_dag.specs.declared.nodes.Node.{Node}
use Rattle.bv_dag.specs.declared.nodes.Node.TheVariants.{Num, Input, Not, Neg, Binary, Compare, Ite, Extract, Extend, Concat}
use Rattle.term_trees.specs.Trees.{Tree, Widened, Joined, tree_of, tree_width, node_tree}
use Rattle.term_trees.proofs.TreeLaws.{tree_by_cases, width-tree_of}
use Rattle.term_simplify.specs.Plans.{Follows, Makes, plan_tree, stacked, under}
use Rattle.term_simplify.specs.Plain.{tree_number, number_tree, extension_by, further, join_of, joined_of}
use Rattle.term_simplify.specs.declared.plan.Plan.{Plan}
use Rattle.term_simplify.specs.declared.recipe.Above.{Above}
use Rattle.term_simplify.proofs.JoinTerms.{width-join_of}
use Rattle.term_simplify.proofs.Reading.{IsOperand, Makes-same, extended_width, operand, term_at}
use Rattle.term_simplify.proofs.Words.{tests_equal, tests_unequal}

extension_read : (f : ℕ → Tree) (n : Node) (by : ℕ) (signed : Bool) →
    ((w v : ℕ) → n ≡ Num w v → ⊥) →
    ((inner : ℕ) (fill : Bool) (a : ℕ) → n ≡ Extend inner fill a → ⊥) →
    extension_by by signed (node_tree f n) ≡ Widened by signed (node_tree f n)
unfolding extension_by
extension_read f (Num w v) by signed x y = absurd (x w v refl)
extension_read f (Extend inner fill a) by signed x y = absurd (y inner fill a refl)
extension_read f (Input i) by signed x y = refl
extension_read f (Not a) by signed x y = refl
extension_read f (Neg a) by signed x y = refl
extension_read f (Binary op a b) by signed x y = refl
extension_read f (Compare op a b) by signed x y = refl
extension_read f (Ite c a b) by signed x y = refl
extension_read f (Extract high low a) by signed x y = refl
extension_read f (Concat a b) by signed x y = refl

module _ (g : Graph) (id by : ℕ) (signed : Bool) (dag : IsDag g) where
  pub extension_plain : (n : Node) → slice_get g.nodes id ≡ Some n →
      ((w v : ℕ) → n ≡ Num w v → ⊥) →
      ((inner : ℕ) (fill : Bool) (a : ℕ) → n ≡ Extend inner fill a → ⊥) →
      Widened by signed (tree_of g id) ≡ extension_by by signed (tree_of g id)
  extension_plain n is x y = rw (tree_by_cases g id n dag is) (sym (extension_read (tree_of g) n by signed x y))

  pub extension_number : (w v : ℕ) (x y : BitVector) → slice_get g.nodes id ≡ Some (Num w v) →
      x ≡ record { width = w; number = v } → y ≡ extend signed by x →
      extension_by by signed (tree_of g id) ≡ number_tree y
  unfolding extension_by
  extension_number w v x y is e f = ap (extension_by by signed)
      (tree_by_cases g id (Num w v) dag is) ∙ ap number_tree (sym (f ∙ ap (extend signed by) e))

  module _ (inner : ℕ) (fill : Bool) (a : ℕ) (is : slice_get g.nodes id ≡ Some
      (Extend inner fill a)) (fits : Fits g.inputs (widths_of g.nodes) (Extend by signed id)) where
    inner_operand : IsOperand g id a
    inner_operand = operand g id a _ dag is (dag.all_fit id (Extend inner fill a) is).0

    pub inner_sum : inner + by ≤ 64
    inner_sum = omega (arith, extended_width g id inner fill a dag is, fits.2)

    pub inner_fits : Fits g.inputs (widths_of g.nodes) (Extend (inner + by) fill a)
    inner_fits = (inner_operand.wide, omega (arith, fits.1), omega (arith, extended_width g id inner fill a dag is, fits.2))

  zeros_over_signs : (inner : ℕ) (fill : Bool) (t : Tree) → fill ≡ true → signed ≡ false →
      Widened by signed (Widened inner fill t) ≡ extension_by by signed (Widened inner fill t)
  unfolding extension_by
  zeros_over_signs inner fill t e f = rw (e, f) refl

  pub extension_stays : (inner : ℕ) (fill : Bool) (a : ℕ) →
      slice_get g.nodes id ≡ Some (Extend inner fill a) → fill ≡ true → signed ≡ false →
      Widened by signed (tree_of g id) ≡ extension_by by signed (tree_of g id)
  extension_stays inner fill a is e f = rw (tree_by_cases g id _ dag is) (zeros_over_signs inner fill (tree_of g a) e f)

  zeros_under : (inner : ℕ) (fill : Bool) (t : Tree) → fill ≡ false →
      Widened (inner + by) fill t ≡ extension_by by signed (Widened inner fill t)
  unfolding extension_by
  zeros_under inner fill t e = rw e refl

  pub extension_of_zeros : (inner : ℕ) (fill : Bool) (a : ℕ) →
      slice_get g.nodes id ≡ Some (Extend inner fill a) → fill ≡ false →
      Widened (inner + by) fill (tree_of g a) ≡ extension_by by signed (tree_of g id)
  extension_of_zeros inner fill a is e = zeros_under inner fill (tree_of g a) e ∙ ap
      (extension_by by signed) (sym (tree_by_cases g id _ dag is))

  signs_under : (inner : ℕ) (fill : Bool) (t : Tree) → fill ≡ true → signed ≡ true →
      Widened (inner + by) fill t ≡ extension_by by signed (Widened inner fill t)
  unfolding extension_by
  signs_under inner fill t e f = rw (e, f) refl

  pub extension_of_signs : (inner : ℕ) (fill : Bool) (a : ℕ) →
      slice_get g.nodes id ≡ Some (Extend inner fill a) → fill ≡ true → signed ≡ true →
      Widened (inner + by) fill (tree_of g a) ≡ extension_by by signed (tree_of g id)
  extension_of_signs inner fill a is e f = signs_under inner fill (tree_of g a) e f ∙ ap
      (extension_by by signed) (sym (tree_by_cases g id _ dag is))

-- ---- joins
module _ (s t : Tree) (p q : Option BitVector) (e : p ≡ tree_number s) (f : q ≡ tree_number t) where
  pub join_numbers : (x y z : BitVector) → p ≡ Some x → q ≡ Some y → z ≡ concat x y →
      join_of s t ≡ number_tree z
  join_numbers x y z is is' g = rw (← e, ← f, is, is', g) refl

  pub join_zero : (x : BitVector) (n w : ℕ) → p ≡ Some x → q ≡ None → n ≡ x.number → n ≡ 0 →
      w ≡ x.width → join_of s t ≡ extension_by w false t
  join_zero x n w is is' value zero wide = rw (← e, ← f, is, is', wide, tests_equal x.number 0 (sym value ∙ zero)) refl

  pub join_other : (x : BitVector) (n : ℕ) → p ≡ Some x → q ≡ None → n ≡ x.number → (n ≡ 0 → ⊥) →
      join_of s t ≡ Joined s t
  join_other x n is is' value other = rw (← e, ← f, is, is', tests_unequal x.number 0 (λ same. other (value ∙ same))) refl

  pub join_none : p ≡ None → join_of s t ≡ Joined s t
  join_none is = rw (← e, is) refl

-- ---- further bits above the first
joined_read : (f : ℕ → Tree) (n : Node) (t : Tree) →
    ((by : ℕ) (signed : Bool) (a : ℕ) → n ≡ Extend by signed a → ⊥) →
    joined_of (node_tree f n) t ≡ join_of (node_tree f n) t
unfolding joined_of
joined_read f (Extend by signed a) t other = absurd (other by signed a refl)
joined_read f (Num w v) t other = refl
joined_read f (Input i) t other = refl
joined_read f (Not a) t other = refl
joined_read f (Neg a) t other = refl
joined_read f (Binary op a b) t other = refl
joined_read f (Compare op a b) t other = refl
joined_read f (Ite c a b) t other = refl
joined_read f (Extract high low a) t other = refl
joined_read f (Concat a b) t other = refl

joined_under : (by : ℕ) (signed : Bool) (s t : Tree) → joined_of (Widened by signed s) t ≡ extension_by by signed (join_of s t)
unfolding joined_of
joined_under by signed s t = refl

-- no bits above, before those that are widened by
abbrev bare_top : Above
bare_top = record { signs = 0; zeros = 0 }

stacked_alone : (by : ℕ) (signed : Bool) (t : Tree) → 1 ≤ by → under (stacked bare_top by signed) t ≡ extension_by by signed t
stacked_alone by true t some =
    let count : 0 + by ≡ by = omega arith in
    ap (λ k. further k true t) count ∙ rw (tests_unequal by 0 (λ z. omega (arith, z, some))) refl
stacked_alone by false t some =
    let count : 0 + by + 0 ≡ by = omega arith in
    ap (λ k. further k false t) count ∙ rw (tests_unequal by 0 (λ z. omega (arith, z, some))) refl

stacked_count : (by : ℕ) (signed : Bool) → (stacked bare_top by signed).signs + (stacked bare_top by signed).zeros ≡ by
stacked_count by true = omega arith
stacked_count by false = omega arith

module _ (g : Graph) (dag : IsDag g) (high low : ℕ) (fits : Fits g.inputs (widths_of g.nodes) (Concat high low)) where
  pub joined_plain : (n : Node) (plan : Plan) → slice_get g.nodes high ≡ Some n →
      ((by : ℕ) (signed : Bool) (a : ℕ) → n ≡ Extend by signed a → ⊥) →
      Makes g plan (join_of (tree_of g high) (tree_of g low)) → Makes g plan (joined_of (tree_of g high) (tree_of g low))
  joined_plain n plan is other makes = Makes-same g plan _ _ makes
      (rw (tree_by_cases g high n dag is) (joined_read (tree_of g) n (tree_of g low) other))

  module _ (by : ℕ) (signed : Bool) (k : ℕ) (is : slice_get g.nodes high ≡ Some (Extend by signed k)) where
    high_width : width_of g high ≡ width_of g k + by
    high_width = extended_width g high by signed k dag is

    pub room_above : 0 + by + 0 ≤ 64
    room_above = omega (arith, high_width, fits.2)

    pub join_fits : Fits g.inputs (widths_of g.nodes) (Concat k low)
    join_fits =
        ((operand g high k _ dag is (dag.all_fit high (Extend by signed k) is).0).wide, fits.1, omega (arith, high_width, fits.2))

    pub bits_on_top : (plan : Plan) (above : Above) → above ≡ stacked bare_top by signed →
        Makes g plan (join_of (tree_of g k) (tree_of g low)) →
        Follows g (record { core = plan; above = above }) (joined_of (tree_of g high) (tree_of g low))
    bits_on_top plan above e makes =
        let bits : tree_width (plan_tree g plan) ≡ width_of g k + width_of g low =
        ap tree_width makes.is ∙ width-join_of (tree_of g k) (tree_of g low) ∙ omega (arith, width-tree_of g k, width-tree_of g low) in
        let count : above.signs + above.zeros ≡ by = ap (λ (a : Above). a.signs + a.zeros) e ∙ stacked_count by signed in
        record {
          is =
              ap (λ a. under a (plan_tree g plan)) e ∙ stacked_alone by signed (plan_tree g plan) (term_at g high _ dag is).1
              ∙ ap (extension_by by signed) makes.is ∙ sym (joined_under by signed (tree_of g k) (tree_of g low))
              ∙ ap (λ s. joined_of s (tree_of g low)) (sym (tree_by_cases g high _ dag is));
          fits = record {
            core = makes.fits;
            room = λ _. (omega (arith, bits, fits.1), omega (arith, bits, count, high_width, fits.2));
          };
        }
