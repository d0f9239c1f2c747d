-- An answer to a slice, put into bytes that meet the other terms.
use Rattle.std.specs.Prelude.{ℕ, ◌==◌, Bool, List, [], Option, None, Some, length, map, if◌then◌else◌, slice_get, slice_index}
use Rattle.std.specs.List.{flat_map, list_any, range_with_len}
use Rattle.bv_dag.specs.Inputs.{node_inputs}
use Rattle.bv_dag.specs.declared.nodes.Node.{Node}

-- whether a place is among these
abbrev pub is_among : List ℕ → ℕ → Bool
is_among places i = list_any (λ k. k == i) places

-- the answer's byte at each place that is among these, and the sample's at the others
unfoldable pub merged : (under sample answer : List ℕ) → List ℕ
merged under sample answer =
    map (λ i. if is_among under i then slice_index answer i else slice_index sample i)
    (range_with_len 0 (length sample))

-- the input byte that a node is, if it is one
abbrev pub own_input : Option Node → List ℕ
own_input (Some n) = node_inputs (λ k. []) n
own_input None = []

-- those that the nodes at some places are
abbrev pub own_inputs : List Node → List ℕ → List ℕ
own_inputs nodes ids = flat_map (λ id. own_input (slice_get nodes id)) ids
