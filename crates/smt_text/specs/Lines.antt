-- The lines of a leaf's text, in SMT-LIB's logic QF_ABV (theories FixedSizeBitVectors and
-- ArraysEx).
use Rattle.std.specs.Prelude.{ℕ, List, ◌++◌, codes, decimal}
use Rattle.std.specs.List.{flat_map}
use Rattle.bv_dag.specs.declared.nodes.Node.{Node}
use Rattle.rv_decode.specs.declared.ends.PathStep.{PathStep}
use Rattle.tree_core.specs.declared.choice.Choice.{Choice}
use Rattle.text_parts.specs.Names.{Kind, EndWord, kind_text, word_text, path_text, choices_text}
use Rattle.smt_text.specs.NodeText.{node_text}

-- One case for each kind of line. The first nine are comments, the others commands.
pub data LeafLine : Type 0 where
  FormatLine : LeafLine
  KindLine : Kind → LeafLine
  ChoicesLine : List Choice → LeafLine
  PathLine : List PathStep → LeafLine
  StepsLine : ℕ → LeafLine
  EndLine : EndWord → LeafLine
  -- how many inputs, nodes and outputs follow
  InputsLine : ℕ → LeafLine
  NodesLine : ℕ → LeafLine
  OutputsLine : ℕ → LeafLine
  LogicLine : LeafLine
  -- an input, by its number
  InputLine : ℕ → LeafLine
  BaseLine : LeafLine
  -- a node, by its number and its width
  NodeLine : ℕ → ℕ → Node → LeafLine
  -- the node that the exit status is
  StatusLine : ℕ → LeafLine
  -- a byte of the output, by its number, and the node that it is
  OutputLine : ℕ → ℕ → LeafLine
  -- a node that is to be 1
  AssertLine : ℕ → LeafLine
  CheckLine : LeafLine
  ExitLine : LeafLine

-- a line, with its line feed
abbrev pub line_text : LeafLine → List ℕ
line_text FormatLine = codes "; rvklee leaf 1\n"
line_text (KindLine kind) = codes "; kind " ++ kind_text kind ++ codes "\n"
line_text (ChoicesLine choices) = codes "; choices " ++ choices_text choices ++ codes ".\n"
line_text (PathLine path) = codes "; path " ++ path_text path ++ codes ".\n"
line_text (StepsLine steps) = codes "; steps " ++ decimal steps ++ codes "\n"
line_text (EndLine word) = codes "; end " ++ word_text word ++ codes "\n"
line_text (InputsLine inputs) = codes "; inputs " ++ decimal inputs ++ codes "\n"
line_text (NodesLine nodes) = codes "; nodes " ++ decimal nodes ++ codes "\n"
line_text (OutputsLine outputs) = codes "; outputs " ++ decimal outputs ++ codes "\n"
line_text LogicLine = codes "(set-logic QF_ABV)\n"
line_text (InputLine i) = codes "(declare-fun b" ++ decimal i ++ codes " () (_ BitVec 8))\n"
line_text BaseLine = codes "(declare-fun base () (Array (_ BitVec 8) (_ BitVec 8)))\n"
line_text (NodeLine id width node) =
    codes "(define-fun n" ++ decimal id ++ codes " () (_ BitVec " ++ decimal width ++ codes ") "
    ++ node_text node ++ codes ")\n"
line_text (StatusLine id) =
    codes "(define-fun status () (_ BitVec 8) n" ++ decimal id ++ codes ")\n"
line_text (OutputLine i id) =
    codes "(define-fun out" ++ decimal i ++ codes " () (_ BitVec 8) n" ++ decimal id ++ codes ")\n"
line_text (AssertLine id) = codes "(assert (= n" ++ decimal id ++ codes " (_ bv1 1)))\n"
line_text CheckLine = codes "(check-sat)\n"
line_text ExitLine = codes "(exit)\n"

-- lines one behind the other
unfoldable pub lines_text : List LeafLine → List ℕ
lines_text lines = flat_map line_text lines
