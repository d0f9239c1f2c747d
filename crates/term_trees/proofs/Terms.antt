-- The trees of a graph are terms.
use Rattle.std.proofs.Common.{◌≡◌, ℕ, zero, suc, ◌<◌, ◌≤◌, get_or, length, take, sym, ◌∙◌, arith, Some}
use Rattle.std.proofs.lemmas.List.{length-take-le}
use Rattle.std.specs.List.{slice_get}
use Rattle.bv_dag.specs.Nodes.{Fits, widths_of}
use Rattle.bv_dag.specs.Graphs.{Graph, IsDag}
use Rattle.bv_dag.specs.declared.nodes.Node.{Node}
use Rattle.bv_dag.specs.declared.nodes.Node.TheVariants.{Num, Input, Not, Neg, Binary, Compare, Ite, Extract, Extend, Concat}
use Rattle.bv_dag.proofs.InTurn.{get_or-map_in_turn-take}
use Rattle.bv_dag.proofs.Fitting.{some_at, has_place}
use Rattle.term_trees.specs.Trees.{node_tree, tree_of, tree_width, IsTerm}
use Rattle.term_trees.proofs.TreeLaws.{tree_by_cases, width-tree_of}

-- the width of a node's operand, among those of the nodes before it
pub before-width : (g : Graph) (id k : ℕ) → id ≤ length g.nodes → k < id → get_or (widths_of (take id g.nodes)) k 0 ≡ tree_width (tree_of g k)
unfolding widths_of
before-width g id k l h = get_or-map_in_turn-take _ g.nodes id k 0 h l ∙ sym (width-tree_of g k)

-- an operand stands before its node
pub before : (g : Graph) (id k : ℕ) → id ≤ length g.nodes → 0 < get_or (widths_of (take id g.nodes)) k 0 → k < id
before g id k l h = omega (arith, l, has_place (take id g.nodes) k h, length-take-le id g.nodes l)

is_term_node : (g : Graph) (id : ℕ) (n : Node) → id ≤ length g.nodes → ((k : ℕ) → k < id → IsTerm g.inputs (tree_of g k)) → Fits g.inputs (widths_of (take id g.nodes)) n → IsTerm g.inputs (node_tree (tree_of g) n)
is_term_node g id (Num w v) l all fits = fits
is_term_node g id (Input i) l all fits = fits
is_term_node g id (Not a) l all fits = all a (before g id a l fits)
is_term_node g id (Neg a) l all fits = all a (before g id a l fits)
is_term_node g id (Binary op a b) l all fits =
    let at_a : a < id = before g id a l fits.0 in
    let at_b : b < id = before g id b l (omega (arith, fits.0, fits.1)) in
    (all a at_a, all b at_b, sym (before-width g id a l at_a) ∙ fits.1 ∙ before-width g id b l at_b)
is_term_node g id (Compare op a b) l all fits =
    let at_a : a < id = before g id a l fits.0 in
    let at_b : b < id = before g id b l (omega (arith, fits.0, fits.1)) in
    (all a at_a, all b at_b, sym (before-width g id a l at_a) ∙ fits.1 ∙ before-width g id b l at_b)
is_term_node g id (Ite c a b) l all fits =
    let at_c : c < id = before g id c l (omega (arith, fits.0)) in
    let at_a : a < id = before g id a l fits.1 in
    let at_b : b < id = before g id b l (omega (arith, fits.1, fits.2)) in
    (all c at_c, all a at_a, all b at_b, sym (before-width g id c l at_c) ∙ fits.0, sym (before-width g id a l at_a) ∙ fits.2 ∙ before-width g id b l at_b)
is_term_node g id (Extract high low a) l all fits =
    let at_a : a < id = before g id a l (omega (arith, fits.1)) in
    (all a at_a, fits.0, omega (arith, fits.1, before-width g id a l at_a))
is_term_node g id (Extend by signed a) l all fits =
    let at_a : a < id = before g id a l fits.0 in
    (all a at_a, fits.1, omega (arith, fits.2, before-width g id a l at_a))
is_term_node g id (Concat a b) l all fits =
    let at_a : a < id = before g id a l fits.0 in
    let at_b : b < id = before g id b l fits.1 in
    (all a at_a, all b at_b, omega (arith, fits.2, before-width g id a l at_a, before-width g id b l at_b))

is_term_below : (g : Graph) → IsDag g → (bound id : ℕ) → id < bound → id < length g.nodes → IsTerm g.inputs (tree_of g id)
is_term_below g dag zero id h there = absurd (omega arith)
is_term_below g dag (suc bound) id h there =
    let here : (n : Node) × (slice_get g.nodes id ≡ Some n) = some_at g.nodes id there in
    rw (tree_by_cases g id here.0 dag here.1)
    (is_term_node g id here.0 (omega (arith, there)) (λ k l. is_term_below g dag bound k (omega (arith, h, l)) (omega (arith, there, l))) (dag.all_fit id here.0 here.1))

-- the tree of each node is a term
pub is_term : (g : Graph) (id : ℕ) → IsDag g → id < length g.nodes → IsTerm g.inputs (tree_of g id)
is_term g id dag there = is_term_below g dag (suc id) id (omega arith) there
