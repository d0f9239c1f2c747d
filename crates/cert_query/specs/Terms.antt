-- One more node of a question. Only private functions speak of this.
use Rattle.std.specs.Prelude.{◌≡◌, List, ◌∷◌, length}
use Rattle.bv_dag.specs.Graphs.{Graph, width_of, with_node}
use Rattle.bv_dag.specs.Nodes.{Fits, widths_of}
use Rattle.cert_form.specs.declared.line.CertLine.{CertLine}
use Rattle.cert_form.specs.declared.line.CertLine.TheVariants.{Node}
use Rattle.cert_form.specs.declared.node_line.DefinedNode.{DefinedNode}

-- the node is put behind the others, and its number and its width are its own
pub record IsPushed (old new : Graph) (defined : DefinedNode) : Type 0 where
  pub put : new ≡ with_node old defined.node
  pub fits : Fits old.inputs (widths_of old.nodes) defined.node
  pub place : defined.id ≡ length old.nodes
  pub wide : defined.width ≡ width_of new (length old.nodes)

-- the first line was its line
pub record IsTakenNode (old new : Graph) (lines rest : List CertLine) : Type 0 where
  pub defined : DefinedNode
  pub pushed : IsPushed old new defined
  pub split : lines ≡ Node defined ∷ rest
