-- What holds of the trees of every graph.
use Rattle.std.proofs.Common.{◌≡◌, ℕ, ◌+◌, ◌<◌, ◌≤◌, List, [], ◌∷◌, ◌++◌, map, get_or, length, take, refl, ap, sym, ◌∙◌, arith, Some}
use Rattle.std.proofs.lemmas.List.{map-append, length-take-le, length-take}
use Rattle.std.proofs.lemmas.List.Folds.{fold_along}
use Rattle.std.proofs.lemmas.Option.{get_or_from_slice_get, slice_get_within}
use Rattle.std.proofs.Math.ListN as lists
use Rattle.std.proofs.Math.Seq.{get_or-append_seam}
use Rattle.std.specs.List.{slice_get}
use Rattle.bv_dag.specs.BitVectors.{BitVector, bvnot, bvneg, extract}
use Rattle.bv_dag.specs.Nodes.{Fits, node_value, node_width, extend, values, widths_of, vector_at, map_in_turn}
use Rattle.bv_dag.specs.Graphs.{Graph, IsDag, val, width_of, with_node}
use Rattle.bv_dag.specs.declared.nodes.Node.{Node}
use Rattle.bv_dag.specs.declared.nodes.Node.TheVariants.{Num, Input, Not, Neg, Binary, Compare, Ite, Extract, Extend, Concat}
use Rattle.bv_dag.proofs.InTurn.{map_in_turn-push, length-map_in_turn, get_or-map_in_turn, get_or-map_in_turn-append, get_or-map_in_turn-take}
use Rattle.bv_dag.proofs.Fitting.{has_place, length-widths_of}
use Rattle.term_trees.specs.Trees.{Tree, Constant, Complement, Negated, node_tree, tree_at, trees, tree_of, tree_width, tree_value}
use Rattle.term_trees.specs.Growth.{Continues}

pub length-trees : (nodes : List Node) → length (trees nodes) ≡ length nodes
unfolding trees
length-trees nodes = length-map_in_turn _ nodes

-- the trees of nodes with one more behind them
pub trees-push : (nodes : List Node) (n : Node) → trees (nodes ++ n ∷ []) ≡ trees nodes ++ node_tree (tree_at (trees nodes)) n ∷ []
unfolding trees
trees-push nodes n = map_in_turn-push (λ before m. node_tree (tree_at before) m) nodes n

-- a node behind the others changes no tree
pub tree_of-with_node : (g : Graph) (n : Node) (id : ℕ) → id < length g.nodes → tree_of (with_node g n) id ≡ tree_of g id
unfolding trees
tree_of-with_node g n id h = get_or-map_in_turn-append _ g.nodes (n ∷ []) id _ h

-- the new node's tree is as its case says
pub tree_of-new : (g : Graph) (n : Node) → tree_of (with_node g n) (length g.nodes) ≡ node_tree (tree_of g) n
tree_of-new g n =
    ap (λ (ts : List Tree). tree_at ts (length g.nodes)) (trees-push g.nodes n)
    ∙ ap (λ k. tree_at (trees g.nodes ++ node_tree (tree_of g) n ∷ []) k) (sym (length-trees g.nodes))
    ∙ get_or-append_seam (trees g.nodes) (node_tree (tree_of g) n) [] _

-- a node's tree rests on its operands alone
same_operands : (inputs : ℕ) (before : List ℕ) (f g : ℕ → Tree) (n : Node) → ((k : ℕ) → k < length before → f k ≡ g k) → ((k : ℕ) → 0 < get_or before k 0 → k < length before) → Fits inputs before n → node_tree f n ≡ node_tree g n
same_operands inputs before f g (Num w v) same there fits = refl
same_operands inputs before f g (Input i) same there fits = refl
same_operands inputs before f g (Not a) same there fits = ap Complement (same a (there a fits))
same_operands inputs before f g (Neg a) same there fits = ap Negated (same a (there a fits))
same_operands inputs before f g (Binary op a b) same there fits =
    cc (same a (there a fits.0), same b (there b (omega (arith, fits.0, fits.1))))
same_operands inputs before f g (Compare op a b) same there fits =
    cc (same a (there a fits.0), same b (there b (omega (arith, fits.0, fits.1))))
same_operands inputs before f g (Ite c a b) same there fits =
    cc (same c (there c (omega (arith, fits.0))), same a (there a fits.1), same b (there b (omega (arith, fits.1, fits.2))))
same_operands inputs before f g (Extract high low a) same there fits = cc (same a (there a (omega (arith, fits.1))))
same_operands inputs before f g (Extend by signed a) same there fits = cc (same a (there a fits.0))
same_operands inputs before f g (Concat a b) same there fits = cc (same a (there a fits.0), same b (there b fits.1))

-- the tree of a node is by its case, from the trees of its operands
pub tree_by_cases : (g : Graph) (id : ℕ) (n : Node) → IsDag g → slice_get g.nodes id ≡ Some n → tree_of g id ≡ node_tree (tree_of g) n
unfolding trees
tree_by_cases g id n dag h =
    let there : id < length g.nodes = slice_get_within g.nodes id n h in
    get_or-map_in_turn _ g.nodes id n _ there
    ∙ ap (λ m. node_tree (tree_at (trees (take id g.nodes))) m) (get_or_from_slice_get g.nodes id n n h)
    ∙ same_operands g.inputs (widths_of (take id g.nodes)) (tree_at (trees (take id g.nodes))) (tree_of g) n
    (λ k within. get_or-map_in_turn-take _ g.nodes id k _ (omega (arith, within, length-widths_of (take id g.nodes), length-take-le id g.nodes (omega (arith, there)))) (omega (arith, there)))
    (λ k wide. omega (arith, has_place (take id g.nodes) k wide, length-widths_of (take id g.nodes)))
    (dag.all_fit id n h)

width-tree_at : (ts : List Tree) (k : ℕ) → tree_width (tree_at ts k) ≡ get_or (map tree_width ts) k 0
width-tree_at ts k = sym (lists.get_or-map tree_width ts k (Constant 0 0))

width-node_tree : (ts : List Tree) (n : Node) → tree_width (node_tree (tree_at ts) n) ≡ node_width (map tree_width ts) n
width-node_tree ts (Num w v) = refl
width-node_tree ts (Input i) = refl
width-node_tree ts (Not a) = width-tree_at ts a
width-node_tree ts (Neg a) = width-tree_at ts a
width-node_tree ts (Binary op a b) = width-tree_at ts a
width-node_tree ts (Compare op a b) = refl
width-node_tree ts (Ite c a b) = width-tree_at ts a
width-node_tree ts (Extract high low a) = refl
width-node_tree ts (Extend by signed a) = ap (λ k. k + by) (width-tree_at ts a)
width-node_tree ts (Concat a b) =
    ap (λ k. k + tree_width (tree_at ts b)) (width-tree_at ts a) ∙ ap (λ k. get_or (map tree_width ts) a 0 + k) (width-tree_at ts b)

one_more_width : (ts : List Tree) (ws : List ℕ) (n : Node) → map tree_width ts ≡ ws → map tree_width (ts ++ node_tree (tree_at ts) n ∷ []) ≡ ws ++ node_width ws n ∷ []
one_more_width ts ws n e =
    map-append tree_width ts (node_tree (tree_at ts) n ∷ [])
    ∙ ap (λ k. map tree_width ts ++ k ∷ []) (width-node_tree ts n)
    ∙ ap (λ vs. vs ++ node_width vs n ∷ []) e

map-width-trees : (nodes : List Node) → map tree_width (trees nodes) ≡ widths_of nodes
unfolding trees widths_of map_in_turn
map-width-trees nodes =
    fold_along (λ before n. before ++ node_tree (tree_at before) n ∷ []) (λ before n. before ++ node_width before n ∷ [])
    (λ ts ws. map tree_width ts ≡ ws) (λ ts ws n e. one_more_width ts ws n e) [] [] nodes refl

-- a tree is as wide as its node
pub width-tree_of : (g : Graph) (id : ℕ) → tree_width (tree_of g id) ≡ width_of g id
width-tree_of g id = width-tree_at (trees g.nodes) id ∙ ap (λ (ws : List ℕ). get_or ws id 0) (map-width-trees g.nodes)

value-tree_at : (input : List ℕ) (ts : List Tree) (k : ℕ) → tree_value input (tree_at ts k) ≡ vector_at (map (tree_value input) ts) k
value-tree_at input ts k = sym (lists.get_or-map (tree_value input) ts k (Constant 0 0))

value-node_tree : (input : List ℕ) (ts : List Tree) (n : Node) → tree_value input (node_tree (tree_at ts) n) ≡ node_value input (vector_at (map (tree_value input) ts)) n
value-node_tree input ts (Num w v) = refl
value-node_tree input ts (Input i) = refl
value-node_tree input ts (Not a) = ap bvnot (value-tree_at input ts a)
value-node_tree input ts (Neg a) = ap bvneg (value-tree_at input ts a)
value-node_tree input ts (Binary op a b) = cc (value-tree_at input ts a, value-tree_at input ts b)
value-node_tree input ts (Compare op a b) = cc (value-tree_at input ts a, value-tree_at input ts b)
value-node_tree input ts (Ite c a b) = cc (value-tree_at input ts c, value-tree_at input ts a, value-tree_at input ts b)
value-node_tree input ts (Extract high low a) = ap (extract high low) (value-tree_at input ts a)
value-node_tree input ts (Extend by signed a) = ap (extend signed by) (value-tree_at input ts a)
value-node_tree input ts (Concat a b) = cc (value-tree_at input ts a, value-tree_at input ts b)

one_more_value : (input : List ℕ) (ts : List Tree) (words : List BitVector) (n : Node) → map (tree_value input) ts ≡ words → map (tree_value input) (ts ++ node_tree (tree_at ts) n ∷ []) ≡ words ++ node_value input (vector_at words) n ∷ []
one_more_value input ts words n e =
    map-append (tree_value input) ts (node_tree (tree_at ts) n ∷ [])
    ∙ ap (λ k. map (tree_value input) ts ++ k ∷ []) (value-node_tree input ts n)
    ∙ ap (λ vs. vs ++ node_value input (vector_at vs) n ∷ []) e

map-value-trees : (input : List ℕ) (nodes : List Node) → map (tree_value input) (trees nodes) ≡ values input nodes
unfolding trees values map_in_turn
map-value-trees input nodes =
    fold_along (λ before n. before ++ node_tree (tree_at before) n ∷ []) (λ before n. before ++ node_value input (vector_at before) n ∷ [])
    (λ ts words. map (tree_value input) ts ≡ words) (λ ts words n e. one_more_value input ts words n e) [] [] nodes refl

-- a tree is worth what its node is worth
pub value-tree_of : (g : Graph) (id : ℕ) (input : List ℕ) → tree_value input (tree_of g id) ≡ val g id input
value-tree_of g id input = value-tree_at input (trees g.nodes) id ∙ ap (λ (words : List BitVector). vector_at words id) (map-value-trees input g.nodes)

-- ---- what stands in front of a graph that has grown
front_place : (old new : Graph) (id : ℕ) → Continues old new → id < length old.nodes → (length old.nodes ≤ length new.nodes)
front_place old new id grown there = omega (arith, ap length grown.front, there, length-take (length old.nodes) new.nodes)

pub tree-grown : (old new : Graph) (id : ℕ) → Continues old new → id < length old.nodes → tree_of new id ≡ tree_of old id
unfolding trees
tree-grown old new id grown there =
    sym (get_or-map_in_turn-take _ new.nodes (length old.nodes) id _ there (front_place old new id grown there))
    ∙ ap (λ (ns : List Node). tree_at (trees ns) id) grown.front

pub value-grown : (old new : Graph) (id : ℕ) (input : List ℕ) → Continues old new → id < length old.nodes → val new id input ≡ val old id input
value-grown old new id input grown there = sym (value-tree_of new id input) ∙ ap (tree_value input) (tree-grown old new id grown there) ∙ value-tree_of old id input

pub width-grown : (old new : Graph) (id : ℕ) → Continues old new → id < length old.nodes → width_of new id ≡ width_of old id
width-grown old new id grown there = sym (width-tree_of new id) ∙ ap tree_width (tree-grown old new id grown there) ∙ width-tree_of old id

-- terms of one tree are worth the same
pub value-same : (g h : Graph) (a b : ℕ) (input : List ℕ) → tree_of g a ≡ tree_of h b → val g a input ≡ val h b input
value-same g h a b input e = sym (value-tree_of g a input) ∙ ap (tree_value input) e ∙ value-tree_of h b input
