-- What crates above may cite of terms. The other modules here are bv_dag's own.
use Rattle.std.proofs.Common.{◌≡◌, ℕ, ◌<◌, List, [], ◌∷◌, ◌++◌, get_or, length, refl, sym, ap, ◌∙◌, arith}
use Rattle.std.proofs.lemmas.List.{get_or_append_left}
use Rattle.std.proofs.Math.Seq.{get_or-append_seam}
use Rattle.bv_dag.specs.BitVectors.{BitVector}
use Rattle.bv_dag.specs.Graphs.{Graph, IsDag, with_node, val, number_of, width_of}
use Rattle.bv_dag.specs.Nodes.{Fits, node_value, node_width, values, widths_of, vector_at}
use Rattle.bv_dag.specs.declared.nodes.Node.{Node}
use Rattle.bv_dag.proofs.Fitting as fitting
use Rattle.bv_dag.proofs.InTurn.{map_in_turn-push}
use Rattle.bv_dag.proofs.Meaning as meaning
use Rattle.bv_dag.proofs.Values.{width-vector_at, map-width-values}

-- no nodes are a graph
pub IsDag-none : (inputs : ℕ) → IsDag (record { inputs = inputs; nodes = [] })
IsDag-none inputs = fitting.IsDag-none inputs

-- a graph with a fitting node pushed is one
pub IsDag-with_node : (g : Graph) (n : Node) → IsDag g → Fits g.inputs (widths_of g.nodes) n → IsDag (with_node g n)
IsDag-with_node g n dag fits = fitting.IsDag-push g.inputs g.nodes (g.nodes ++ n ∷ []) n dag fits refl

-- a push keeps the widths of what is there
pub width_of-with_node : (g : Graph) (n : Node) (id : ℕ) → id < length g.nodes → width_of (with_node g n) id ≡ width_of g id
width_of-with_node g n id there =
    ap (λ (ws : List ℕ). get_or ws id 0) (fitting.widths_of-push g.nodes n)
    ∙ get_or_append_left (widths_of g.nodes) (node_width (widths_of g.nodes) n ∷ []) 0 id (omega (arith, fitting.length-widths_of g.nodes))

-- a push keeps the numbers of what is there
pub number_of-with_node : (g : Graph) (n : Node) (id : ℕ) (input : List ℕ) → id < length g.nodes → number_of (with_node g n) id input ≡ number_of g id input
number_of-with_node g n id input there = ap (λ (s : BitVector). s.number) (meaning.val-with_node g n input id there)

-- the new node is as wide as its case says
pub width_of-new : (g : Graph) (n : Node) → width_of (with_node g n) (length g.nodes) ≡ node_width (widths_of g.nodes) n
width_of-new g n =
    ap (λ (ws : List ℕ). get_or ws (length g.nodes) 0) (fitting.widths_of-push g.nodes n)
    ∙ ap (λ k. get_or (widths_of g.nodes ++ node_width (widths_of g.nodes) n ∷ []) k 0) (sym (fitting.length-widths_of g.nodes))
    ∙ get_or-append_seam (widths_of g.nodes) (node_width (widths_of g.nodes) n) [] 0

-- the new node is worth what its case says
pub val-new : (g : Graph) (n : Node) (input : List ℕ) → val (with_node g n) (length g.nodes) input ≡ node_value input (λ k. val g k input) n
unfolding values
val-new g n input =
    ap (λ (vs : List BitVector). vector_at vs (length g.nodes)) (map_in_turn-push (λ before m. node_value input (vector_at before) m) g.nodes n)
    ∙ ap (λ k. vector_at (values input g.nodes ++ node_value input (λ j. val g j input) n ∷ []) k) (sym (fitting.length-values input g.nodes))
    ∙ get_or-append_seam (values input g.nodes) (node_value input (λ j. val g j input) n) [] _

-- a value is as wide as its node
pub width-val : (g : Graph) (id : ℕ) (input : List ℕ) → (val g id input).width ≡ width_of g id
width-val g id input = width-vector_at (values input g.nodes) id ∙ ap (λ (ws : List ℕ). get_or ws id 0) (map-width-values input g.nodes)

-- what has a width is there
pub there : (g : Graph) (id w : ℕ) → width_of g id ≡ w → 0 < w → id < length g.nodes
there g id w is some = fitting.has_place g.nodes id (omega (arith, is, some))
