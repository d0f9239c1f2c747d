-- The value of the next term, from those of the terms before it.
use Rattle.std.proofs.Common.{◌≡◌, ℕ, ◌+◌, ◌<◌, List, [], ◌∷◌, ◌++◌, length, map, take, sym, ap, ◌∙◌, arith, Some}
use Rattle.std.specs.List.{slice_get}
use Rattle.std.proofs.lemmas.List.{get_or_push, length-take-le, nil_from_length}
use Rattle.std.proofs.lemmas.Option.{get_or_from_slice_get, slice_get_within}
use Rattle.bv_dag.specs.BitVectors.{BitVector}
use Rattle.bv_dag.specs.Graphs.{AllFit}
use Rattle.bv_dag.specs.Nodes.{Fits, node_value, values, width, vector_at}
use Rattle.bv_dag.specs.declared.nodes.Node.{Node}
use Rattle.bv_dag.proofs.Fitting.{Fits-values, length-values, value_read, values_more}

-- a node fits the values of those before it
pub fits_values : (inputs : ℕ) (input : List ℕ) (nodes : List Node) (words : List BitVector) (id : ℕ) (n : Node) →
    AllFit inputs nodes → slice_get nodes id ≡ Some n → words ≡ values input (take id nodes) →
    Fits inputs (map width words) n
fits_values inputs input nodes words id n all read each = rw each (Fits-values inputs input nodes id n all read)

-- no terms have no values
pub values-none : (input : List ℕ) → values input [] ≡ []
values-none input = nil_from_length (values input []) (length-values input [])

-- the values with one more
pub values_next : (input : List ℕ) (nodes : List Node) (words : List BitVector) (id : ℕ) (n : Node) →
    slice_get nodes id ≡ Some n → words ≡ values input (take id nodes) →
    words ++ node_value input (vector_at words) n ∷ [] ≡ values input (take (id + 1) nodes)
values_next input nodes words id n read each =
    rw each (
    ap (λ (m : Node). values input (take id nodes) ++ node_value input (vector_at (values input (take id nodes))) m ∷ []) (sym (get_or_from_slice_get nodes id n n read))
    ∙ sym (values_more input nodes id n (slice_get_within nodes id n read))
    )

-- the value of the next term is its value among all
pub value_of_next : (input : List ℕ) (nodes : List Node) (words : List BitVector) (id : ℕ) (n : Node) →
    slice_get nodes id ≡ Some n → words ≡ values input (take id nodes) →
    node_value input (vector_at words) n ≡ vector_at (values input nodes) id
value_of_next input nodes words id n read each =
    let there : id < length nodes = slice_get_within nodes id n read in
    let so_many : length words ≡ id = ap length each ∙ length-values input (take id nodes) ∙ length-take-le id nodes (omega (arith, there)) in
    value_read input nodes (words ++ node_value input (vector_at words) n ∷ []) id (node_value input (vector_at words) n) there
    (values_next input nodes words id n read each)
    (sym (get_or_push words (node_value input (vector_at words) n) (node_value input (vector_at words) n) id so_many))
