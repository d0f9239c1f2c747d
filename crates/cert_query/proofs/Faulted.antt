-- Lines at fault in a part of a question, as lines of the whole of it.
use Rattle.std.proofs.Common.{◌≡◌, ◌∙◌, ℕ, ◌≤◌, List, [], ◌∷◌, ◌++◌, length, refl, ap, sym, subst, arith}
use Rattle.std.proofs.lemmas.List.{get_or_past}
use Rattle.bv_dag.specs.Graphs.{AllFit, Graph, IsDag, width_of}
use Rattle.bv_dag.specs.Nodes.{widths_of}
use Rattle.bv_dag.specs.declared.nodes.Node.{Node}
use Rattle.bv_dag.proofs.Fitting.{IsDag-push, length-widths_of}
use Rattle.cert_form.specs.declared.line.CertLine.{CertLine}
use Rattle.cert_form.specs.declared.line.CertLine.TheVariants.{Inputs, Nodes, Logic}
use Rattle.cert_query.specs.QuestionFaults.{IsAssertedFault, IsBaseFault, IsBodyFault, IsHeadingFault, IsInputsFault, IsQuestionFault, in_asserted, in_base, in_body, in_inputs}
use Rattle.cert_query.specs.QuestionLines.{heading_lines, input_lines, node_lines}
use Rattle.cert_query.specs.Terms.{IsTakenNode}
use Rattle.cert_query.specs.declared.fault.Fault.{Fault}

-- no node has a width past the end
pub no_width_past : (graph : Graph) (id : ℕ) → length graph.nodes ≤ id → width_of graph id ≡ 0
no_width_past graph id past = get_or_past (widths_of graph.nodes) id 0 (omega (arith, length-widths_of graph.nodes, past))

-- ---- the heading

pub fault_in_inputs : (lines rest : List CertLine) (inputs nodes : ℕ) (fault : Fault) → lines ≡ Inputs inputs ∷ Nodes nodes ∷ Logic ∷ rest →
    IsInputsFault inputs rest fault → IsHeadingFault lines fault
fault_in_inputs lines rest inputs nodes fault counts refused = in_inputs inputs nodes (record { rest = rest; split = counts; here = refused })

pub fault_in_base : (lines rest more : List CertLine) (inputs nodes : ℕ) (fault : Fault) → lines ≡ Inputs inputs ∷ Nodes nodes ∷ Logic ∷ rest →
    rest ≡ input_lines 0 inputs ++ more → IsBaseFault more fault → IsHeadingFault lines fault
fault_in_base lines rest more inputs nodes fault counts passed refused = in_base inputs nodes (record {
  rest = more;
  split = counts ∙ ap (λ (ls : List CertLine). Inputs inputs ∷ Nodes nodes ∷ Logic ∷ ls) passed;
  here = refused;
})

-- ---- the nodes

-- a graph of no node
pub no_node_is_dag : (graph : Graph) → graph.nodes ≡ [] → IsDag graph
no_node_is_dag graph none = record { all_fit = subst (λ (ns : List Node). AllFit graph.inputs ns) (sym none) (λ id n at. cc) }

pub one_more_is_dag : (old new : Graph) (rest more : List CertLine) → IsDag old → IsTakenNode old new rest more → IsDag new
one_more_is_dag old new rest more dag taken =
    subst IsDag (sym taken.pushed.put) (IsDag-push old.inputs old.nodes (old.nodes ++ taken.defined.node ∷ []) taken.defined.node dag taken.pushed.fits refl)

-- ---- what is asserted

pub fault_in_asserted : (inputs nodes : ℕ) (graph : Graph) (lines rest : List CertLine) (fault : Fault) → graph.inputs ≡ inputs → length graph.nodes ≡ nodes → IsDag graph →
    lines ≡ node_lines graph ++ rest → IsAssertedFault graph rest fault → IsBodyFault inputs nodes lines fault
fault_in_asserted inputs nodes graph lines rest fault over count dag passed refused = in_asserted graph over count dag (record { rest = rest; split = passed; here = refused })

pub fault_in_body : (inputs nodes : ℕ) (lines rest : List CertLine) (fault : Fault) → lines ≡ heading_lines inputs nodes ++ rest → IsBodyFault inputs nodes rest fault →
    IsQuestionFault lines fault
fault_in_body inputs nodes lines rest fault passed refused = in_body inputs nodes (record { rest = rest; split = passed; here = refused })
