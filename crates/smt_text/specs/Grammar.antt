-- The grammar of leaf texts, line by line: which line may stand after given lines.
use Rattle.std.specs.Prelude.{◌≡◌, ℕ, ◌+◌, ◌^◌, Bool, true, false, List, [], ◌∷◌, ◌++◌, ◌==◌, ◌&&◌, if◌then◌else◌, nat_lt, length, Option, Some, None, option_and_then}
use Rattle.std.specs.List.{list_all}
use Rattle.bv_dag.specs.Graphs.{Graph, width_of}
use Rattle.bv_dag.specs.Nodes.{node_width, widths_of}
use Rattle.bv_dag.specs.declared.nodes.Node.{Node}
use Rattle.rv_decode.specs.declared.ends.PathStep.{PathStep}
use Rattle.rv_decode.specs.declared.ends.PathStep.TheVariants.{Target}
use Rattle.tree_core.specs.declared.cause.Cause.TheVariants.{Steps}
use Rattle.tree_core.specs.declared.choice.Choice.{Choice}
use Rattle.tree_core.specs.declared.choice.Choice.TheVariants.{Value}
use Rattle.fork_spec.specs.Leaves.{Leaf}
use Rattle.smt_text.specs.Lines.{LeafLine, FormatLine, KindLine, ChoicesLine, PathLine, StepsLine, EndLine, InputsLine, NodesLine, OutputsLine, LogicLine, InputLine, BaseLine, NodeLine, StatusLine, OutputLine, AssertLine, CheckLine, ExitLine, lines_text}
use Rattle.text_parts.specs.Names.{Kind, finished, cut, EndWord, exit, trap, running}
use Rattle.smt_text.specs.NodeFits.{fits}
use Rattle.smt_text.specs.declared.spot.Spot.{Spot}
use Rattle.smt_text.specs.declared.spot.Spot.TheVariants.{AtFormat, AtKind, AtChoices, AtPath, AtSteps, AtEnd, AtInputs, AtNodes, AtOutputs, AtLogic, AmongInputs, AtBase, AmongNodes, AtStatus, AmongOutputs, AmongAssertions, AtExit, Closed}
use Rattle.fork_spec.specs.declared.end.LeafEnd.{LeafEnd}
use Rattle.fork_spec.specs.declared.end.LeafEnd.TheVariants.{Exits, Traps, Cut}

-- What the lines so far say.
pub record Reading : Type 0 where
  pub place : Spot
  pub kind : Kind
  pub choices : List Choice
  pub path : List PathStep
  pub steps : ℕ
  -- the status is 0 until its line
  pub end : LeafEnd
  -- how many inputs, nodes and outputs are announced
  pub inputs : ℕ
  pub node_count : ℕ
  pub output_count : ℕ
  -- how many inputs were declared
  pub declared : ℕ
  pub nodes : List Node
  pub outputs : List ℕ
  pub asserted : List ℕ

-- before the first line
abbrev pub start : Reading
start = record {
  place = AtFormat;
  kind = finished;
  choices = [];
  path = [];
  steps = 0;
  end = Exits 0;
  inputs = 0;
  node_count = 0;
  output_count = 0;
  declared = 0;
  nodes = [];
  outputs = [];
  asserted = [];
}

abbrev pub graph_of : Reading → Graph
graph_of r = record { inputs = r.inputs; nodes = r.nodes }

-- the leaf that was read
abbrev pub leaf_of : Reading → Leaf
leaf_of r = record {
  choices = r.choices;
  path = r.path;
  steps = r.steps;
  end = r.end;
  condition = record { graph = graph_of r; asserted = r.asserted };
  outputs = r.outputs;
}

-- a number that texts may have
abbrev pub is_small : ℕ → Bool
is_small n = nat_lt n (2 ^ 32)

-- a count of terms that texts may have
abbrev pub is_count : ℕ → Bool
is_count n = nat_lt n (2 ^ 64)

-- a choice whose value texts may have
abbrev pub is_small_choice : Choice → Bool
is_small_choice (Value v) = is_small v
is_small_choice _ = true

-- an entry of a path whose target texts may have
abbrev pub is_small_step : PathStep → Bool
is_small_step (Target address) = is_small address
is_small_step _ = true

-- runs that are finished exit or trap, others are still running
abbrev pub agree : Kind → EndWord → Bool
agree finished exit = true
agree finished (trap t) = true
agree finished running = false
agree (cut cause) exit = false
agree (cut cause) (trap t) = false
agree (cut cause) running = true

-- the end that a kind and a word stand for; of an exit the status is still to come
abbrev pub end_by : Kind → EndWord → LeafEnd
end_by kind exit = Exits 0
end_by kind (trap t) = Traps t
end_by (cut cause) running = Cut cause
end_by finished running = Cut Steps

abbrev pub exits : LeafEnd → Bool
exits (Exits status) = true
exits (Traps t) = false
exits (Cut cause) = false

-- what is to come when so many inputs, nodes or outputs were read: one more, or what stands behind
-- them
abbrev pub behind_inputs : Reading → Spot
behind_inputs r = if r.declared == r.inputs then AtBase else AmongInputs

abbrev pub behind_outputs : Reading → Spot
behind_outputs r = if length r.outputs == r.output_count then AmongAssertions else AmongOutputs

abbrev pub behind_nodes : Reading → Spot
behind_nodes r =
    if length r.nodes == r.node_count then (if exits r.end then AtStatus else behind_outputs r)
    else AmongNodes

-- the term is that wide
abbrev pub is_wide : Reading → ℕ → ℕ → Bool
is_wide r id width = width_of (graph_of r) id == width

-- the node is the next, it fits, and this is its width
abbrev pub is_next_node : Reading → ℕ → ℕ → Node → Bool
is_next_node r id width node =
    (id == length r.nodes) && fits r.inputs (widths_of r.nodes) node
    && (width == node_width (widths_of r.nodes) node)

-- Whether the line may stand at this place, after what was read.
abbrev pub stands : Spot → Reading → LeafLine → Bool
stands AtFormat r FormatLine = true
stands AtKind r (KindLine kind) = true
stands AtChoices r (ChoicesLine choices) = list_all is_small_choice choices
stands AtPath r (PathLine path) = list_all is_small_step path
stands AtSteps r (StepsLine steps) = is_small steps
stands AtEnd r (EndLine word) = agree r.kind word
stands AtInputs r (InputsLine inputs) = is_small inputs
stands AtNodes r (NodesLine nodes) = is_count nodes
stands AtOutputs r (OutputsLine outputs) = is_small outputs
stands AtLogic r LogicLine = true
stands AmongInputs r (InputLine i) = i == r.declared
stands AtBase r BaseLine = true
stands AmongNodes r (NodeLine id width node) = is_next_node r id width node
stands AtStatus r (StatusLine id) = is_wide r id 8
stands AmongOutputs r (OutputLine i id) = (i == length r.outputs) && is_wide r id 8
stands AmongAssertions r (AssertLine id) = is_wide r id 1
stands AmongAssertions r CheckLine = true
stands AtExit r ExitLine = true
stands place r line = false

-- the reading at the place behind its inputs, its nodes or its outputs
abbrev pub past_input : Reading → Reading
past_input r = record r { place = behind_inputs r }

abbrev pub past_node : Reading → Reading
past_node r = record r { place = behind_nodes r }

abbrev pub past_output : Reading → Reading
past_output r = record r { place = behind_outputs r }

-- what is read after a line that may stand
abbrev pub with_line : Reading → LeafLine → Reading
with_line r FormatLine = record r { place = AtKind }
with_line r (KindLine kind) = record r { place = AtChoices; kind = kind }
with_line r (ChoicesLine choices) = record r { place = AtPath; choices = choices }
with_line r (PathLine path) = record r { place = AtSteps; path = path }
with_line r (StepsLine steps) = record r { place = AtEnd; steps = steps }
with_line r (EndLine word) = record r { place = AtInputs; end = end_by r.kind word }
with_line r (InputsLine inputs) = record r { place = AtNodes; inputs = inputs }
with_line r (NodesLine nodes) = record r { place = AtOutputs; node_count = nodes }
with_line r (OutputsLine outputs) = record r { place = AtLogic; output_count = outputs }
with_line r LogicLine = past_input r
with_line r (InputLine i) = past_input (record r { declared = r.declared + 1 })
with_line r BaseLine = past_node r
with_line r (NodeLine id width node) = past_node (record r { nodes = r.nodes ++ node ∷ [] })
with_line r (StatusLine id) = past_output (record r { end = Exits id })
with_line r (OutputLine i id) = past_output (record r { outputs = r.outputs ++ id ∷ [] })
with_line r (AssertLine id) = record r { asserted = r.asserted ++ id ∷ [] }
with_line r CheckLine = record r { place = AtExit }
with_line r ExitLine = record r { place = Closed }

-- the reading after one more line, and none where it may not stand
unfoldable pub next_state : Reading → LeafLine → Option Reading
next_state r line = if stands r.place r line then Some (with_line r line) else None

-- the reading after more lines, and none from the first on that may not stand
unfoldable pub read_lines : Reading → List LeafLine → Option Reading
read_lines r [] = Some r
read_lines r (line ∷ lines) = option_and_then (λ next. read_lines next lines) (next_state r line)

-- the lines may each stand after those before it, the last is `(exit)`, and this is the leaf that
-- they say
pub record ReadAs (lines : List LeafLine) (leaf : Leaf) : Type 0 where
  pub reading : Reading
  pub all_stand : read_lines start lines ≡ Some reading
  pub to_the_end : reading.place ≡ Closed
  pub same : leaf_of reading ≡ leaf

-- the text is that of such lines
pub record IsTextOf (text : List ℕ) (leaf : Leaf) : Type 0 where
  pub lines : List LeafLine
  pub read_as : ReadAs lines leaf
  pub is_theirs : text ≡ lines_text lines

-- all of the text was read as lines that may stand, up to the exit
pub record IsWhole (text : List ℕ) (reading : Reading) : Type 0 where
  pub lines : List LeafLine
  pub all_stand : read_lines start lines ≡ Some reading
  pub is_theirs : text ≡ lines_text lines
  pub to_the_end : reading.place ≡ Closed
