-- How far a reading has come at each place, and what holds of all that was read so far.
use Rattle.std.specs.Prelude.{◌≡◌, ℕ, ◌^◌, ◌<◌, All, List, [], length}
use Rattle.bv_dag.specs.Graphs.{AllFit, Graph}
use Rattle.bv_dag.specs.Queries.{AreBits}
use Rattle.fork_spec.specs.Leaves.{AreBytes, IsByteStatus, IsSmallStep}
use Rattle.tree_core.specs.Choices.{IsSmallChoice}
use Rattle.fork_spec.specs.declared.end.LeafEnd.{LeafEnd}
use Rattle.smt_text.specs.Grammar.{Reading, graph_of}
use Rattle.smt_text.specs.declared.spot.Spot.{Spot}
use Rattle.smt_text.specs.declared.spot.Spot.TheVariants.{AmongInputs, AtBase, AmongNodes, AtStatus, AmongOutputs, AmongAssertions, AtExit, Closed}

-- of what is announced there is none yet, a part, or all
pub data Phase : Type 0 where
  none : Phase
  part : Phase
  all : Phase

abbrev pub Amount : Phase → (so_far announced : ℕ) → Type 0
Amount none k n = k ≡ 0
Amount part k n = k < n
Amount all k n = k ≡ n

abbrev pub inputs_phase : Spot → Phase
inputs_phase AmongInputs = part
inputs_phase AtBase = all
inputs_phase AmongNodes = all
inputs_phase AtStatus = all
inputs_phase AmongOutputs = all
inputs_phase AmongAssertions = all
inputs_phase AtExit = all
inputs_phase Closed = all
inputs_phase _ = none

abbrev pub nodes_at : Spot → Phase
nodes_at AmongNodes = part
nodes_at AtStatus = all
nodes_at AmongOutputs = all
nodes_at AmongAssertions = all
nodes_at AtExit = all
nodes_at Closed = all
nodes_at _ = none

abbrev pub outputs_at : Spot → Phase
outputs_at AmongOutputs = part
outputs_at AmongAssertions = all
outputs_at AtExit = all
outputs_at Closed = all
outputs_at _ = none

-- assertions stand behind everything else
abbrev pub AssertedAt : Spot → List ℕ → Type 0
AssertedAt AmongAssertions ids = Unit {0}
AssertedAt AtExit ids = Unit {0}
AssertedAt Closed ids = Unit {0}
AssertedAt _ ids = ids ≡ []

-- the status is a byte, behind its line
abbrev pub StatusAt : Spot → Graph → LeafEnd → Type 0
StatusAt AmongOutputs graph end = IsByteStatus graph end
StatusAt AmongAssertions graph end = IsByteStatus graph end
StatusAt AtExit graph end = IsByteStatus graph end
StatusAt Closed graph end = IsByteStatus graph end
StatusAt _ graph end = Unit {0}

abbrev pub Counted : Spot → Reading → Type 0
Counted place r =
    Amount (inputs_phase place) r.declared r.inputs
    × Amount (nodes_at place) (length r.nodes) r.node_count
    × Amount (outputs_at place) (length r.outputs) r.output_count
    × AssertedAt place r.asserted
    × StatusAt place (graph_of r) r.end

-- what was read is within its bounds, and the terms fit
abbrev pub IsInBounds : Reading → Type 0
IsInBounds r =
    All IsSmallChoice r.choices
    × All IsSmallStep r.path
    × (r.steps < 2 ^ 32)
    × (r.inputs < 2 ^ 32)
    × (r.node_count < 2 ^ 64)
    × (r.output_count < 2 ^ 32)
    × AllFit r.inputs r.nodes
    × AreBytes (graph_of r) r.outputs
    × AreBits (graph_of r) r.asserted

-- so it is of each reading of lines that may stand
abbrev pub IsSoundReading : Reading → Type 0
IsSoundReading r = IsInBounds r × Counted r.place r
