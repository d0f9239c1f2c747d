-- The terms of a cone, copied to a graph of their own.
use Rattle.std.proofs.Common.{◌≡◌, ℕ, ◌+◌, ◌<◌, ◌≤◌, List, [], ◌∷◌, ◌++◌, length, map, get_or, take, refl, sym, ap, ◌∙◌, arith, subst, Some}
use Rattle.std.specs.Prelude.{All, Contains}
use Rattle.std.specs.List.{slice_get}
use Rattle.std.specs.List.Sorted.{IsStrictlyIncreasing}
use Rattle.std.proofs.lemmas.List.{get_or-map, get_or-take, take_more, map-append, length-map, length-take-le}
use Rattle.std.proofs.lemmas.List.Elements.{All-contains, All-head, All-tail}
use Rattle.std.proofs.lemmas.Option.{slice_get_within}
use Rattle.bv_dag.specs.Graphs.{Graph, IsDag, with_node}
use Rattle.bv_dag.specs.Nodes.{Fits, map_in_turn, widths_of}
use Rattle.bv_dag.specs.declared.nodes.Node.{Node}
use Rattle.term_trees.specs.Trees.{Constant, node_tree, tree_at, tree_of, tree_width, trees}
use Rattle.bv_dag.proofs.TermLaws.{IsDag-with_node}
use Rattle.term_trees.proofs.Terms.{before-width}
use Rattle.term_trees.proofs.TreeLaws.{tree_by_cases, length-trees, trees-push, width-tree_of}
use Rattle.query_pick.specs.Operands.{operands, renamed}
use Rattle.query_pick.proofs.Lists.{earlier}
use Rattle.query_pick.proofs.Naming.{Fits-renamed, node_tree-renamed, node_tree-same, operand_renamed}
use Rattle.query_pick.proofs.Searching.{operand_before}

-- the place of a number
abbrev pub place_of : List ℕ → ℕ → ℕ
place_of places k = get_or places k 0

-- the tree of a term that was copied
pub tree-copied : (table copy : Graph) (places : List ℕ) (i k : ℕ) → trees copy.nodes ≡ map (tree_of table) (take i places) → k < i → i ≤ length places → tree_of copy k ≡ tree_of table (place_of places k)
tree-copied table copy places i k same before within =
    ap (λ ts. tree_at ts k) same
    ∙ get_or-map (tree_of table) (take i places) k 0 (Constant 0 0) (omega (arith, length-take-le i places within, before))
    ∙ ap (tree_of table) (get_or-take i places k 0 before)

pub trees_of_none : trees [] ≡ []
unfolding trees map_in_turn
trees_of_none = refl

-- how far the copy has come
pub record IsCopied (table copy : Graph) (places : List ℕ) (index : ℕ) : Type 0 where
  pub inputs : copy.inputs ≡ table.inputs
  pub dag : IsDag copy
  pub same : trees copy.nodes ≡ map (tree_of table) (take index places)

-- one more is copied
module _ (table copy : Graph) (places : List ℕ) (i id : ℕ) (m n : Node) (dag : IsDag table) (up : IsStrictlyIncreasing places)
    (within : i < length places) (here : id ≡ place_of places i) (is : slice_get table.nodes id ≡ Some n)
    (named : renamed (place_of places) m ≡ n) (there : All (λ k. k < length places) (operands m))
    (so_far : IsCopied table copy places i) where
  place_before : (k : ℕ) → Contains (operands m) k → place_of places k < id
  place_before k h = operand_before table id (place_of places k) n dag is (operand_renamed (place_of places) m n k named h)

  number_before : (k : ℕ) → Contains (operands m) k → k < i
  number_before k h = earlier places k i up (All-contains (λ j. j < length places) (operands m) k there h) (rw (sym here) (place_before k h))

  same_tree : (k : ℕ) → Contains (operands m) k → tree_of copy k ≡ tree_of table (place_of places k)
  same_tree k h = tree-copied table copy places i k so_far.same (number_before k h) (omega (arith, within))

  same_width : (k : ℕ) → Contains (operands m) k → get_or (widths_of copy.nodes) k 0 ≡ get_or (widths_of (take id table.nodes)) (place_of places k) 0
  same_width k h =
      sym (width-tree_of copy k) ∙ ap tree_width (same_tree k h)
      ∙ sym (before-width table id (place_of places k) (omega (arith, slice_get_within table.nodes id n is)) (place_before k h))

  pub Fits-copied : Fits copy.inputs (widths_of copy.nodes) m
  Fits-copied =
      rw so_far.inputs (Fits-renamed table.inputs (widths_of (take id table.nodes)) (widths_of copy.nodes) (place_of places) m same_width
      (subst (Fits table.inputs (widths_of (take id table.nodes))) (sym named) (dag.all_fit id n is)))

  own_tree : node_tree (tree_of copy) m ≡ tree_of table id
  own_tree =
      node_tree-same (tree_of copy) (λ k. tree_of table (place_of places k)) m same_tree
      ∙ node_tree-renamed (tree_of table) (place_of places) m
      ∙ ap (node_tree (tree_of table)) named
      ∙ sym (tree_by_cases table id n dag is)

  trees-copied : trees (copy.nodes ++ m ∷ []) ≡ map (tree_of table) (take (i + 1) places)
  trees-copied =
      trees-push copy.nodes m
      ∙ ap (λ t. trees copy.nodes ++ t ∷ []) (own_tree ∙ ap (tree_of table) here)
      ∙ ap (λ ts. ts ++ tree_of table (place_of places i) ∷ []) so_far.same
      ∙ sym (map-append (tree_of table) (take i places) (place_of places i ∷ []))
      ∙ ap (map (tree_of table)) (sym (take_more places i 0 within))

  pub copied_more : IsCopied table (with_node copy m) places (i + 1)
  copied_more = record {
    inputs = so_far.inputs;
    dag = IsDag-with_node copy m so_far.dag Fits-copied;
    same = trees-copied;
  }

-- The terms that are asked for, in the copy.
module _ (table copy : Graph) (places : List ℕ) (same : trees copy.nodes ≡ map (tree_of table) places) where
  tree-of_number : (k : ℕ) → k < length places → tree_of copy k ≡ tree_of table (place_of places k)
  tree-of_number k there = ap (λ ts. tree_at ts k) same ∙ get_or-map (tree_of table) places k 0 (Constant 0 0) there

  trees-of_numbers : (numbers : List ℕ) → All (λ k. k < length places) numbers → map (tree_of copy) numbers ≡ map (tree_of table) (map (place_of places) numbers)
  trees-of_numbers [] there = refl
  trees-of_numbers (k ∷ numbers) there =
      cc (tree-of_number k (All-head (λ j. j < length places) k numbers there), trees-of_numbers numbers (All-tail (λ j. j < length places) k numbers there))

  -- they are the trees that were asked for
  pub trees-asked : (numbers conditions : List ℕ) → All (λ k. k < length places) numbers → map (place_of places) numbers ≡ conditions → map (tree_of copy) numbers ≡ map (tree_of table) conditions
  trees-asked numbers conditions there are = trees-of_numbers numbers there ∙ ap (map (tree_of table)) are

  as_many : length places ≡ length copy.nodes
  as_many = sym (length-map places (tree_of table)) ∙ sym (ap length same) ∙ length-trees copy.nodes

  -- each has its place
  pub numbers_there : (numbers : List ℕ) → All (λ k. k < length places) numbers → All (λ k. k < length copy.nodes) numbers
  numbers_there numbers there k d within = omega (arith, there k d within, as_many)
