-- What stands at a place of a graph: its node, its tree, the number that it is, and its operands.
use Rattle.std.proofs.Common.{◌≡◌, ℕ, ◌+◌, ◌<◌, ◌≤◌, Bool, true, false, get_or, length, take, refl, ap, sym, subst, ◌∙◌, arith, Some, None}
use Rattle.std.proofs.lemmas.Option.{slice_get_within}
use Rattle.std.specs.Prelude.{Option}
use Rattle.std.specs.List.{slice_get}
use Rattle.bv_dag.specs.BitVectors.{BitVector, bvnot, bvneg}
use Rattle.bv_dag.specs.Graphs.{Graph, IsDag, width_of}
use Rattle.bv_dag.specs.Nodes.{IsBits, widths_of}
use Rattle.bv_dag.specs.declared.nodes.Node.{Node}
use Rattle.bv_dag.specs.declared.nodes.Node.TheVariants.{Num, Input, Not, Neg, Binary, Compare, Ite, Extract, Extend, Concat}
use Rattle.bv_dag.proofs.Fitting.{has_place, width_in_bounds}
use Rattle.term_trees.specs.Trees.{Tree, Complement, Negated, tree_of, node_tree, tree_width, IsTerm}
use Rattle.term_trees.proofs.Terms.{is_term, before}
use Rattle.term_trees.proofs.TreeLaws.{tree_by_cases, width-tree_of}
use Rattle.term_simplify.specs.Plans.{Makes, node_number, AreAsWide, under_signs, under_zeros}
use Rattle.term_simplify.specs.Plain.{tree_number, number_tree, complement_of, plain_negative}
use Rattle.term_simplify.specs.declared.plan.Plan.{Plan}
use Rattle.term_simplify.proofs.Words.{number_width}

pub Makes-same : (g : Graph) (p : Plan) (s t : Tree) → Makes g p s → t ≡ s → Makes g p t
Makes-same g p s t m e = record { is = m.is ∙ sym e; fits = m.fits }

-- what has bits is there
pub has_term : (g : Graph) (a : ℕ) → IsBits (widths_of g.nodes) a → a < length g.nodes
has_term g a wide = has_place g.nodes a wide

pub has_second_term : (g : Graph) (a b : ℕ) → IsBits (widths_of g.nodes) a →
    get_or (widths_of g.nodes) a 0 ≡ get_or (widths_of g.nodes) b 0 → b < length g.nodes
has_second_term g a b wide same = has_place g.nodes b (omega (arith, wide, same))

pub has_bits : (g : Graph) (a : ℕ) → IsDag g → a < length g.nodes →
    (0 < width_of g a) × (width_of g a ≤ 64)
has_bits g a dag there = width_in_bounds g.inputs g.nodes dag.all_fit a there

number_node_tree : (operand : ℕ → Tree) (n : Node) →
    node_number n ≡ tree_number (node_tree operand n)
number_node_tree operand (Num w v) = refl
number_node_tree operand (Input i) = refl
number_node_tree operand (Not a) = refl
number_node_tree operand (Neg a) = refl
number_node_tree operand (Binary op a b) = refl
number_node_tree operand (Compare op a b) = refl
number_node_tree operand (Ite c a b) = refl
number_node_tree operand (Extract high low a) = refl
number_node_tree operand (Extend by signed a) = refl
number_node_tree operand (Concat a b) = refl

-- the number that a node is, as that of its tree
pub number_read : (g : Graph) (id : ℕ) (n : Node) (x : Option BitVector) → IsDag g →
    slice_get g.nodes id ≡ Some n → x ≡ node_number n → x ≡ tree_number (tree_of g id)
number_read g id n x dag is e = e ∙ number_node_tree (tree_of g) n ∙ ap tree_number (sym (tree_by_cases g id n dag is))

pub wide_number : (g : Graph) (a : ℕ) (x : BitVector) → Some x ≡ tree_number (tree_of g a) →
    x.width ≡ width_of g a
wide_number g a x e = number_width (tree_of g a) x (sym e) ∙ width-tree_of g a

-- operands that are numbers are as wide
pub as_wide : (g : Graph) (a b : ℕ) (x y : Option BitVector) → x ≡ tree_number (tree_of g a) →
    y ≡ tree_number (tree_of g b) → width_of g a ≡ width_of g b → AreAsWide x y
as_wide g a b (Some x) (Some y) e f same = wide_number g a x e ∙ same ∙ sym (wide_number g b y f)
as_wide g a b (Some x) None e f same = tt
as_wide g a b None y e f same = tt

-- ---- the operands of a node
pub record IsOperand (g : Graph) (id a : ℕ) : Type 0 where
  pub earlier : a < id
  pub there : a < length g.nodes
  pub wide : IsBits (widths_of g.nodes) a

pub operand : (g : Graph) (id a : ℕ) (n : Node) → IsDag g → slice_get g.nodes id ≡ Some n →
    IsBits (widths_of (take id g.nodes)) a → IsOperand g id a
operand g id a n dag is wide =
    let within : id < length g.nodes = slice_get_within g.nodes id n is in
    let earlier : a < id = before g id a (omega (arith, within)) wide in
    let there : a < length g.nodes = omega (arith, within, earlier) in
    record { earlier = earlier; there = there; wide = (has_bits g a dag there).0 }

pub term_at : (g : Graph) (id : ℕ) (n : Node) → IsDag g → slice_get g.nodes id ≡ Some n →
    IsTerm g.inputs (node_tree (tree_of g) n)
term_at g id n dag is = subst (IsTerm g.inputs) (tree_by_cases g id n dag is) (is_term g id dag (slice_get_within g.nodes id n is))

pub width_at : (g : Graph) (id : ℕ) (n : Node) → IsDag g → slice_get g.nodes id ≡ Some n →
    width_of g id ≡ tree_width (node_tree (tree_of g) n)
width_at g id n dag is = sym (width-tree_of g id) ∙ ap tree_width (tree_by_cases g id n dag is)

-- ---- widened
pub extended_width : (g : Graph) (id by : ℕ) (signed : Bool) (a : ℕ) → IsDag g →
    slice_get g.nodes id ≡ Some (Extend by signed a) → width_of g id ≡ width_of g a + by
extended_width g id by signed a dag is = omega (arith, width_at g id (Extend by signed a) dag is, width-tree_of g a)

-- ---- widened by zeros
pub extended_below_64 : (g : Graph) (id by : ℕ) (signed : Bool) (a : ℕ) → IsDag g →
    slice_get g.nodes id ≡ Some (Extend by signed a) → width_of g a < 64
extended_below_64 g id by signed a dag is = omega (arith, (term_at g id _ dag is).1, (term_at g id _ dag is).2, width-tree_of g a)

pub extended_narrower : (g : Graph) (id by : ℕ) (signed : Bool) (a : ℕ) → IsDag g →
    slice_get g.nodes id ≡ Some (Extend by signed a) → width_of g a < width_of g id
extended_narrower g id by signed a dag is = omega (arith, (term_at g id _ dag is).1, extended_width g id by signed a dag is)

zeros_read : (f : ℕ → Tree) (n : Node) →
    ((by : ℕ) (signed : Bool) (a : ℕ) → n ≡ Extend by signed a → ⊥) →
    None ≡ under_zeros (node_tree f n)
zeros_read f (Extend by signed a) other = absurd (other by signed a refl)
zeros_read f (Num w v) other = refl
zeros_read f (Input i) other = refl
zeros_read f (Not a) other = refl
zeros_read f (Neg a) other = refl
zeros_read f (Binary op a b) other = refl
zeros_read f (Compare op a b) other = refl
zeros_read f (Ite c a b) other = refl
zeros_read f (Extract high low a) other = refl
zeros_read f (Concat a b) other = refl

pub not_extended : (g : Graph) (id : ℕ) (n : Node) → IsDag g → slice_get g.nodes id ≡ Some n →
    ((by : ℕ) (signed : Bool) (a : ℕ) → n ≡ Extend by signed a → ⊥) →
    None ≡ under_zeros (tree_of g id)
not_extended g id n dag is other = zeros_read (tree_of g) n other ∙ ap under_zeros (sym (tree_by_cases g id n dag is))

pub extended_signed : (g : Graph) (id by : ℕ) (signed : Bool) (a : ℕ) → IsDag g →
    slice_get g.nodes id ≡ Some (Extend by signed a) → signed ≡ true →
    None ≡ under_zeros (tree_of g id)
extended_signed g id by true a dag is e = ap under_zeros (sym (tree_by_cases g id _ dag is))
extended_signed g id by false a dag is e = cc

pub extended_zeros : (g : Graph) (id by : ℕ) (signed : Bool) (a : ℕ) → IsDag g →
    slice_get g.nodes id ≡ Some (Extend by signed a) → signed ≡ false →
    Some (tree_of g a) ≡ under_zeros (tree_of g id)
extended_zeros g id by false a dag is e = ap under_zeros (sym (tree_by_cases g id _ dag is))
extended_zeros g id by true a dag is e = cc

-- ---- the same of signs
signs_read : (f : ℕ → Tree) (n : Node) →
    ((by : ℕ) (signed : Bool) (a : ℕ) → n ≡ Extend by signed a → ⊥) →
    None ≡ under_signs (node_tree f n)
signs_read f (Extend by signed a) other = absurd (other by signed a refl)
signs_read f (Num w v) other = refl
signs_read f (Input i) other = refl
signs_read f (Not a) other = refl
signs_read f (Neg a) other = refl
signs_read f (Binary op a b) other = refl
signs_read f (Compare op a b) other = refl
signs_read f (Ite c a b) other = refl
signs_read f (Extract high low a) other = refl
signs_read f (Concat a b) other = refl

pub unextended_signs : (g : Graph) (id : ℕ) (n : Node) → IsDag g → slice_get g.nodes id ≡ Some n →
    ((by : ℕ) (signed : Bool) (a : ℕ) → n ≡ Extend by signed a → ⊥) →
    None ≡ under_signs (tree_of g id)
unextended_signs g id n dag is other = signs_read (tree_of g) n other ∙ ap under_signs (sym (tree_by_cases g id n dag is))

pub extended_by_signs : (g : Graph) (id by : ℕ) (signed : Bool) (a : ℕ) → IsDag g →
    slice_get g.nodes id ≡ Some (Extend by signed a) → signed ≡ true →
    Some (tree_of g a) ≡ under_signs (tree_of g id)
extended_by_signs g id by true a dag is e = ap under_signs (sym (tree_by_cases g id _ dag is))
extended_by_signs g id by false a dag is e = cc

pub extended_by_zeros : (g : Graph) (id by : ℕ) (signed : Bool) (a : ℕ) → IsDag g →
    slice_get g.nodes id ≡ Some (Extend by signed a) → signed ≡ false →
    None ≡ under_signs (tree_of g id)
extended_by_zeros g id by false a dag is e = ap under_signs (sym (tree_by_cases g id _ dag is))
extended_by_zeros g id by true a dag is e = cc

-- ---- complements and negatives
complement_read : (f : ℕ → Tree) (n : Node) → ((w v : ℕ) → n ≡ Num w v → ⊥) →
    ((a : ℕ) → n ≡ Not a → ⊥) → complement_of (node_tree f n) ≡ Complement (node_tree f n)
unfolding complement_of
complement_read f (Num w v) x y = absurd (x w v refl)
complement_read f (Not a) x y = absurd (y a refl)
complement_read f (Input i) x y = refl
complement_read f (Neg a) x y = refl
complement_read f (Binary op a b) x y = refl
complement_read f (Compare op a b) x y = refl
complement_read f (Ite c a b) x y = refl
complement_read f (Extract high low a) x y = refl
complement_read f (Extend by signed a) x y = refl
complement_read f (Concat a b) x y = refl

negative_read : (f : ℕ → Tree) (n : Node) → ((w v : ℕ) → n ≡ Num w v → ⊥) →
    ((a : ℕ) → n ≡ Neg a → ⊥) → plain_negative (node_tree f n) ≡ Negated (node_tree f n)
unfolding plain_negative
negative_read f (Num w v) x y = absurd (x w v refl)
negative_read f (Neg a) x y = absurd (y a refl)
negative_read f (Input i) x y = refl
negative_read f (Not a) x y = refl
negative_read f (Binary op a b) x y = refl
negative_read f (Compare op a b) x y = refl
negative_read f (Ite c a b) x y = refl
negative_read f (Extract high low a) x y = refl
negative_read f (Extend by signed a) x y = refl
negative_read f (Concat a b) x y = refl

module _ (g : Graph) (id : ℕ) (dag : IsDag g) where
  pub complement_at : (n : Node) → slice_get g.nodes id ≡ Some n → ((w v : ℕ) → n ≡ Num w v → ⊥) →
      ((a : ℕ) → n ≡ Not a → ⊥) → complement_of (tree_of g id) ≡ Complement (tree_of g id)
  complement_at n is x y = rw (tree_by_cases g id n dag is) (complement_read (tree_of g) n x y)

  pub negative_at : (n : Node) → slice_get g.nodes id ≡ Some n → ((w v : ℕ) → n ≡ Num w v → ⊥) →
      ((a : ℕ) → n ≡ Neg a → ⊥) → plain_negative (tree_of g id) ≡ Negated (tree_of g id)
  negative_at n is x y = rw (tree_by_cases g id n dag is) (negative_read (tree_of g) n x y)

  pub complement_number : (w v : ℕ) (x y : BitVector) → slice_get g.nodes id ≡ Some (Num w v) →
      x ≡ record { width = w; number = v } → y ≡ bvnot x →
      complement_of (tree_of g id) ≡ number_tree y
  unfolding complement_of
  complement_number w v x y is e f = ap complement_of (tree_by_cases g id (Num w v) dag is) ∙ ap number_tree (sym (f ∙ ap bvnot e))

  pub negative_number : (w v : ℕ) (x y : BitVector) → slice_get g.nodes id ≡ Some (Num w v) →
      x ≡ record { width = w; number = v } → y ≡ bvneg x →
      plain_negative (tree_of g id) ≡ number_tree y
  unfolding plain_negative
  negative_number w v x y is e f = ap plain_negative (tree_by_cases g id (Num w v) dag is) ∙ ap number_tree (sym (f ∙ ap bvneg e))

  pub complement_twice : (a : ℕ) → slice_get g.nodes id ≡ Some (Not a) →
      complement_of (tree_of g id) ≡ tree_of g a
  unfolding complement_of
  complement_twice a is = ap complement_of (tree_by_cases g id (Not a) dag is)

  pub negative_twice : (a : ℕ) → slice_get g.nodes id ≡ Some (Neg a) →
      plain_negative (tree_of g id) ≡ tree_of g a
  unfolding plain_negative
  negative_twice a is = ap plain_negative (tree_by_cases g id (Neg a) dag is)

pub ruleset placing = (has_term, has_second_term)
