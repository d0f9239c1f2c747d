-- Lines that don't give a question: the first of them that may not stand, and why. It is Text where a question isn't as its own
-- numbers say, and Place where another kind of line must stand.
use Rattle.std.specs.Prelude.{◌≡◌, ◌≢◌, ℕ, ◌<◌, Bool, true, false, List, [], ◌∷◌, length, map}
use Rattle.bv_dag.specs.Graphs.{Graph, IsDag, width_of, with_node}
use Rattle.bv_dag.specs.Nodes.{Fits, widths_of}
use Rattle.bv_dag.specs.Queries.{AreBits}
use Rattle.cert_form.specs.declared.line.CertLine.{CertLine}
use Rattle.cert_form.specs.declared.line.CertLine.TheVariants.{Inputs, Nodes, Logic, Input, Base, Node, Assert, Check, Exit}
use Rattle.cert_form.specs.declared.node_line.DefinedNode.{DefinedNode}
use Rattle.cert_query.specs.Faults.{IsFaultBehind, fault_at}
use Rattle.cert_query.specs.QuestionLines.{heading_lines, input_lines, node_lines}
use Rattle.cert_query.specs.declared.fault.Fault.{Fault}
use Rattle.cert_query.specs.declared.fault.Reason.{Reason}
use Rattle.cert_query.specs.declared.fault.Reason.TheVariants.{Place, Text}

-- ---- The heading.

-- it begins with how many inputs and nodes there are, and the logic
abbrev pub IsCountsFault : List CertLine → Fault → Type 0
IsCountsFault (Inputs inputs ∷ Nodes nodes ∷ Logic ∷ lines) fault = ⊥
IsCountsFault (Inputs inputs ∷ Nodes nodes ∷ lines) fault = fault ≡ fault_at lines Place
IsCountsFault (Inputs inputs ∷ lines) fault = fault ≡ fault_at lines Place
IsCountsFault lines fault = fault ≡ fault_at lines Place

-- the input of this number comes next
abbrev pub IsInputFault : ℕ → List CertLine → Fault → Type 0
IsInputFault number (Input found ∷ lines) fault =
    (found ≢ number) × (fault ≡ fault_at (Input found ∷ lines) Text)
IsInputFault number lines fault = fault ≡ fault_at lines Place

-- so many inputs come next
pub record IsInputsFault (count : ℕ) (lines : List CertLine) (fault : Fault) : Type 0 where
  pub number : ℕ
  pub few : number < count
  pub refused : IsFaultBehind (input_lines 0 number) lines (IsInputFault number) fault

-- the function that the inputs are of comes next
abbrev pub IsBaseFault : List CertLine → Fault → Type 0
IsBaseFault (Base ∷ lines) fault = ⊥
IsBaseFault lines fault = fault ≡ fault_at lines Place

-- the lines before the nodes
pub data IsHeadingFault (lines : List CertLine) (fault : Fault) : Type 0 where
  in_counts : IsCountsFault lines fault → IsHeadingFault lines fault
  in_inputs : (inputs nodes : ℕ)
      → IsFaultBehind (Inputs inputs ∷ Nodes nodes ∷ Logic ∷ []) lines (IsInputsFault inputs) fault
      → IsHeadingFault lines fault
  in_base : (inputs nodes : ℕ)
      → IsFaultBehind (Inputs inputs ∷ Nodes nodes ∷ Logic ∷ input_lines 0 inputs) lines IsBaseFault
      fault
      → IsHeadingFault lines fault

-- ---- The nodes.

-- a node fits behind the others, and its number and its width are its own
pub record IsNext (graph : Graph) (defined : DefinedNode) : Type 0 where
  pub place : defined.id ≡ length graph.nodes
  pub fits : Fits graph.inputs (widths_of graph.nodes) defined.node
  pub wide : defined.width ≡ width_of (with_node graph defined.node) (length graph.nodes)

-- why no node may stand where one more must: there are fewer than was said, or the line is no line of a question
abbrev pub reason_for_no_node : List CertLine → Reason
reason_for_no_node (Assert id ∷ lines) = Text
reason_for_no_node (Check ∷ lines) = Text
reason_for_no_node lines = Place

-- one more node comes next
abbrev pub IsNodeFault : Graph → List CertLine → Fault → Type 0
IsNodeFault graph (Node defined ∷ lines) fault =
    (IsNext graph defined → ⊥) × (fault ≡ fault_at (Node defined ∷ lines) Text)
IsNodeFault graph lines fault = fault ≡ fault_at lines (reason_for_no_node lines)

-- so many nodes over so many inputs come next
pub record IsNodesFault (inputs count : ℕ) (lines : List CertLine) (fault : Fault) : Type 0 where
  pub graph : Graph
  pub over : graph.inputs ≡ inputs
  pub dag : IsDag graph
  pub few : length graph.nodes < count
  pub refused : IsFaultBehind (node_lines graph) lines (IsNodeFault graph) fault

-- ---- The nodes that are to be 1, and the end.

abbrev pub begins_with_assert : List CertLine → Bool
begins_with_assert (Assert id ∷ lines) = true
begins_with_assert lines = false

-- why the question may not end: there are more nodes than was said, or the line is no line of a question
abbrev pub reason_for_no_end : List CertLine → Reason
reason_for_no_end (Node defined ∷ lines) = Text
reason_for_no_end lines = Place

-- one more node of one bit is asserted, or the question ends
abbrev pub IsAssertionFault : Graph → List CertLine → Fault → Type 0
IsAssertionFault graph (Assert id ∷ lines) fault =
    (width_of graph id ≢ 1) × (fault ≡ fault_at (Assert id ∷ lines) Text)
IsAssertionFault graph (Check ∷ Exit ∷ lines) fault = ⊥
IsAssertionFault graph (Check ∷ lines) fault = fault ≡ fault_at lines Place
IsAssertionFault graph lines fault = fault ≡ fault_at lines (reason_for_no_end lines)

-- nodes of one bit are asserted, and then the question ends
pub record IsAssertedFault (graph : Graph) (lines : List CertLine) (fault : Fault) : Type 0 where
  pub asserted : List ℕ
  pub bits : AreBits graph asserted
  pub refused : IsFaultBehind (map Assert asserted) lines (IsAssertionFault graph) fault

-- ---- All of it.

-- the lines behind the heading
pub data IsBodyFault (inputs nodes : ℕ) (lines : List CertLine) (fault : Fault) : Type 0 where
  in_nodes : IsNodesFault inputs nodes lines fault → IsBodyFault inputs nodes lines fault
  in_asserted : (graph : Graph) → graph.inputs ≡ inputs → length graph.nodes ≡ nodes → IsDag graph
      → IsFaultBehind (node_lines graph) lines (IsAssertedFault graph) fault
      → IsBodyFault inputs nodes lines fault

pub data IsQuestionFault (lines : List CertLine) (fault : Fault) : Type 0 where
  in_heading : IsHeadingFault lines fault → IsQuestionFault lines fault
  in_body : (inputs nodes : ℕ)
      → IsFaultBehind (heading_lines inputs nodes) lines (IsBodyFault inputs nodes) fault
      → IsQuestionFault lines fault
