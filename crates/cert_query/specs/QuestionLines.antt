-- The lines by which a certificate gives a question, in their order.
use Rattle.std.specs.Prelude.{ℕ, suc, zero, ◌+◌, List, [], ◌∷◌, ◌++◌, length, map}
use Rattle.std.specs.List.{enumerate_from}
use Rattle.bv_dag.specs.Graphs.{Graph, width_of}
use Rattle.bv_dag.specs.Queries.{Condition}
use Rattle.bv_dag.specs.declared.nodes.Node as dag
use Rattle.cert_form.specs.declared.line.CertLine.{CertLine}
use Rattle.cert_form.specs.declared.line.CertLine.TheVariants.{Inputs, Nodes, Logic, Input, Base, Node, Assert, Check, Exit}

-- so many inputs, from one on
abbrev pub input_lines : ℕ → ℕ → List CertLine
input_lines i zero = []
input_lines i (suc more) = Input i ∷ input_lines (i + 1) more

-- how many inputs and nodes there are, and the inputs
abbrev pub heading_lines : (inputs nodes : ℕ) → List CertLine
heading_lines inputs nodes =
    Inputs inputs ∷ Nodes nodes ∷ Logic ∷ input_lines 0 inputs ++ (Base ∷ [])

-- a node by its place
abbrev pub node_line : Graph → ℕ × dag.Node → CertLine
node_line graph (id, node) = Node (record { id = id; width = width_of graph id; node = node })

abbrev pub node_lines : Graph → List CertLine
node_lines graph = map (node_line graph) (enumerate_from 0 graph.nodes)

-- the nodes that are to be 1, and the end
abbrev pub assertion_lines : List ℕ → List CertLine
assertion_lines asserted = map Assert asserted ++ (Check ∷ Exit ∷ [])

-- all behind the heading
abbrev pub body_lines : Condition → List CertLine
body_lines q = node_lines q.graph ++ assertion_lines q.asserted

-- all of them
unfoldable pub question_lines : Condition → List CertLine
question_lines q = heading_lines q.graph.inputs (length q.graph.nodes) ++ body_lines q
