-- The lines that a leaf's text has, in their order, and those of a condition alone.
use Rattle.std.specs.Prelude.{ℕ, suc, zero, ◌+◌, List, [], ◌∷◌, ◌++◌, length, map}
use Rattle.std.specs.List.{enumerate_from}
use Rattle.bv_dag.specs.Graphs.{Graph, width_of}
use Rattle.bv_dag.specs.Queries.{Condition}
use Rattle.fork_spec.specs.Leaves.{Leaf}
use Rattle.smt_text.specs.Lines.{LeafLine, FormatLine, KindLine, ChoicesLine, PathLine, StepsLine, EndLine, InputsLine, NodesLine, OutputsLine, LogicLine, InputLine, BaseLine, NodeLine, StatusLine, OutputLine, AssertLine, CheckLine, ExitLine, lines_text}
use Rattle.rv_decode.specs.declared.ends.PathStep.{PathStep}
use Rattle.tree_core.specs.declared.choice.Choice.{Choice}
use Rattle.smt_text.specs.Ends.{kind_of, end_word}
use Rattle.fork_spec.specs.declared.end.LeafEnd.{LeafEnd}
use Rattle.fork_spec.specs.declared.end.LeafEnd.TheVariants.{Exits, Traps, Cut}

-- so many inputs, from one on
abbrev pub input_lines : ℕ → ℕ → List LeafLine
input_lines i zero = []
input_lines i (suc more) = InputLine i ∷ input_lines (i + 1) more

-- each node by its place
abbrev pub node_lines : Graph → List LeafLine
node_lines graph =
    map (λ (id, node). NodeLine id (width_of graph id) node) (enumerate_from 0 graph.nodes)

-- the status, where the runs exit
abbrev pub status_lines : LeafEnd → List LeafLine
status_lines (Exits status) = StatusLine status ∷ []
status_lines (Traps t) = []
status_lines (Cut cause) = []

-- each byte of the output by its place
abbrev pub output_lines : List ℕ → List LeafLine
output_lines outputs = map (λ (i, id). OutputLine i id) (enumerate_from 0 outputs)

-- what runs a leaf is about
abbrev pub runs_heading : List Choice → List PathStep → (steps : ℕ) → LeafEnd → List LeafLine
runs_heading choices path steps end =
    FormatLine
    ∷ KindLine (kind_of end)
    ∷ ChoicesLine choices
    ∷ PathLine path
    ∷ StepsLine steps
    ∷ EndLine (end_word end)
    ∷ []

-- how many inputs, terms and bytes of the output follow
abbrev pub counts_heading : (inputs nodes outputs : ℕ) → List LeafLine
counts_heading inputs nodes outputs = InputsLine inputs ∷ NodesLine nodes ∷ OutputsLine outputs ∷ []

abbrev pub heading : Leaf → List LeafLine
heading leaf =
    runs_heading leaf.choices leaf.path leaf.steps leaf.end
    ++ counts_heading leaf.condition.graph.inputs (length leaf.condition.graph.nodes)
    (length leaf.outputs)

-- the inputs, and the terms over them
abbrev pub term_lines : Graph → List LeafLine
term_lines graph = LogicLine ∷ input_lines 0 graph.inputs ++ (BaseLine ∷ node_lines graph)

-- the terms, and those of them that the status and the bytes of the output are
abbrev pub definitions : Graph → LeafEnd → (outputs : List ℕ) → List LeafLine
definitions graph end outputs = term_lines graph ++ status_lines end ++ output_lines outputs

-- what a condition asserts
abbrev pub assertions : Condition → List LeafLine
assertions q = map AssertLine q.asserted

-- all of them
unfoldable pub leaf_lines : Leaf → List LeafLine
leaf_lines leaf =
    heading leaf ++ definitions leaf.condition.graph leaf.end leaf.outputs
    ++ assertions leaf.condition ++ (CheckLine ∷ ExitLine ∷ [])

-- those of a condition alone, from the logic on: no heading, no status and no output
unfoldable pub query_lines : Condition → List LeafLine
query_lines q = term_lines q.graph ++ assertions q ++ (CheckLine ∷ ExitLine ∷ [])

-- the texts
unfoldable pub leaf_text : Leaf → List ℕ
leaf_text leaf = lines_text (leaf_lines leaf)

unfoldable pub query_text : Condition → List ℕ
query_text q = lines_text (query_lines q)
