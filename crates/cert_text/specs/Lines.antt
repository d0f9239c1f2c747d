-- The lines of a certificate's walk.
use Rattle.std.specs.Prelude.{ℕ, List, ◌++◌, codes}
use Rattle.cert_form.specs.declared.line.CertLine.{CertLine}
use Rattle.cert_form.specs.declared.line.CertLine.TheVariants.{One, Split, Tried, Inputs, Nodes, Logic, Input, Base, Node, Assert, Check, Exit, Clause, Value, Witness, End, CutSteps, CutNodes}
use Rattle.cert_form.specs.declared.node_line.DefinedNode.{DefinedNode}
use Rattle.hex.specs.Hex.{encode_lower}
use Rattle.smt_text.specs.Lines.{LeafLine, InputsLine, NodesLine, LogicLine, InputLine, BaseLine, NodeLine, AssertLine, CheckLine, ExitLine}
use Rattle.smt_text.specs.Lines as leaf
use Rattle.spent_text.specs.FoundLine.{found_text}
use Rattle.spent_text.specs.LearntLine.{learnt_line}
use Rattle.spent_text.specs.Sides.{sides_text}
use Rattle.text_parts.specs.Names.{choice_text}

-- the bytes of an assignment behind a word
abbrev pub input_text : (word input : List ℕ) → List ℕ
input_text word input = word ++ encode_lower input ++ codes "\n"

-- the line that defines a node
abbrev pub line_defining : DefinedNode → LeafLine
line_defining defined = NodeLine defined.id defined.width defined.node

-- a line, with its line feed
abbrev pub line_text : CertLine → List ℕ
line_text (One choice) = codes "one " ++ choice_text choice ++ codes "\n"
line_text (Split sides) = codes "split" ++ sides_text sides ++ codes "\n"
line_text Tried = codes "tried\n"
line_text (Inputs inputs) = leaf.line_text (InputsLine inputs)
line_text (Nodes nodes) = leaf.line_text (NodesLine nodes)
line_text Logic = leaf.line_text LogicLine
line_text (Input i) = leaf.line_text (InputLine i)
line_text Base = leaf.line_text BaseLine
line_text (Node defined) = leaf.line_text (line_defining defined)
line_text (Assert id) = leaf.line_text (AssertLine id)
line_text Check = leaf.line_text CheckLine
line_text Exit = leaf.line_text ExitLine
line_text (Clause step) = learnt_line step
line_text (Value found) = found_text found
line_text (Witness input) = input_text (codes "w ") input
line_text (End input) = input_text (codes "end ") input
line_text (CutSteps input) = input_text (codes "cut steps ") input
line_text CutNodes = codes "cut nodes\n"
