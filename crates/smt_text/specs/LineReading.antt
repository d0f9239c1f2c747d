-- The line that a text begins with, at each place of a leaf's text. It may stand there where the grammar
-- says so.
use Rattle.std.specs.Prelude.{ℕ, ◌^◌, true, false, nat_lt, if◌then◌else◌, List, [], ◌∷◌, Option, None, Some, codes, option_map, option_and_then}
use Rattle.std.specs.Option.{option_or}
use Rattle.bv_dag.specs.declared.nodes.BinaryOp.TheVariants.{Add, Sub, Mul, Udiv, Urem, And, Or, Xor, Shl, Lshr, Ashr}
use Rattle.bv_dag.specs.declared.nodes.Comparison.TheVariants.{Ult, Slt, Eq}
use Rattle.bv_dag.specs.declared.nodes.Node.{Node}
use Rattle.bv_dag.specs.declared.nodes.Node.TheVariants.{Num, Input, Not, Neg, Binary, Compare, Ite, Extract, Extend, Concat}
use Rattle.rv_decode.specs.declared.ends.Trap.TheVariants.{Illegal, FetchMisaligned, FetchAccess, LoadMisaligned, LoadAccess, StoreMisaligned, StoreAccess, Break, Call}
use Rattle.tree_core.specs.declared.cause.Cause.{Cause}
use Rattle.tree_core.specs.declared.cause.Cause.TheVariants.{Steps, Targets, Conflicts, Nodes}
use Rattle.fork_spec.specs.declared.end.LeafEnd.{LeafEnd}
use Rattle.smt_text.specs.Grammar.{Reading, agree, end_by, next_state}
use Rattle.smt_text.specs.Lines.{LeafLine, FormatLine, KindLine, ChoicesLine, PathLine, StepsLine, EndLine, InputsLine, NodesLine, OutputsLine, LogicLine, InputLine, BaseLine, NodeLine, StatusLine, OutputLine, AssertLine, CheckLine, ExitLine, line_text}
use Rattle.text_parts.specs.Names.{Kind, finished, cut, EndWord, exit, trap, running}
use Rattle.text_parts.specs.Items.{all_choices, all_steps}
use Rattle.text_parts.specs.Pieces.{Reader, before, behind, made, named, number, one, three, two}
use Rattle.smt_text.specs.declared.ending.Ending.{Ending}
use Rattle.smt_text.specs.declared.ending.Ending.TheVariants as ending
use Rattle.smt_text.specs.declared.head.Head.{Head}
use Rattle.smt_text.specs.declared.head.Head.TheVariants as head
use Rattle.smt_text.specs.declared.spot.Spot.{Spot}
use Rattle.smt_text.specs.declared.spot.Spot.TheVariants.{AtFormat, AtKind, AtChoices, AtPath, AtSteps, AtEnd, AtInputs, AtNodes, AtOutputs, AtLogic, AmongInputs, AtBase, AmongNodes, AtStatus, AmongOutputs, AmongAssertions, AtExit, Closed}

-- ---- the heading

-- the words of kinds and of ends, each with the end of its line; a kind is the budget that was spent,
-- where one was
abbrev pub kinds : List (List ℕ × Option Cause)
kinds =
    (codes "finished\n", None)
    ∷ (codes "steps\n", Some Steps)
    ∷ (codes "targets\n", Some Targets)
    ∷ (codes "conflicts\n", Some Conflicts)
    ∷ (codes "nodes\n", Some Nodes)
    ∷ []

abbrev pub kind_word : Reader (Option Cause)
kind_word text = named kinds text

abbrev pub kind_said : Option Cause → Kind
kind_said None = finished
kind_said (Some cause) = cut cause

abbrev pub endings : List (List ℕ × Ending)
endings =
    (codes "exit\n", ending.Exit)
    ∷ (codes "running\n", ending.Running)
    ∷ (codes "Illegal\n", ending.Trapped Illegal)
    ∷ (codes "FetchMisaligned\n", ending.Trapped FetchMisaligned)
    ∷ (codes "FetchAccess\n", ending.Trapped FetchAccess)
    ∷ (codes "LoadMisaligned\n", ending.Trapped LoadMisaligned)
    ∷ (codes "LoadAccess\n", ending.Trapped LoadAccess)
    ∷ (codes "StoreMisaligned\n", ending.Trapped StoreMisaligned)
    ∷ (codes "StoreAccess\n", ending.Trapped StoreAccess)
    ∷ (codes "Break\n", ending.Trapped Break)
    ∷ (codes "Call\n", ending.Trapped Call)
    ∷ []

abbrev pub end_word : Reader Ending
end_word text = named endings text

abbrev pub word_said : Ending → EndWord
word_said ending.Exit = exit
word_said (ending.Trapped t) = trap t
word_said ending.Running = running

-- the end that a kind and a word stand for, where they agree
abbrev pub end_said : Option Cause → Ending → Option LeafEnd
end_said kind said =
    if agree (kind_said kind) (word_said said) then Some (end_by (kind_said kind) (word_said said))
    else None

-- ---- terms

abbrev pub heads : List (List ℕ × Head)
heads =
    (codes "(_ bv", head.Num)
    ∷ (codes "b", head.Input)
    ∷ (codes "(bvnot n", head.Not)
    ∷ (codes "(bvneg n", head.Neg)
    ∷ (codes "(bvadd n", head.Binary Add)
    ∷ (codes "(bvsub n", head.Binary Sub)
    ∷ (codes "(bvmul n", head.Binary Mul)
    ∷ (codes "(bvudiv n", head.Binary Udiv)
    ∷ (codes "(bvurem n", head.Binary Urem)
    ∷ (codes "(bvand n", head.Binary And)
    ∷ (codes "(bvor n", head.Binary Or)
    ∷ (codes "(bvxor n", head.Binary Xor)
    ∷ (codes "(bvshl n", head.Binary Shl)
    ∷ (codes "(bvlshr n", head.Binary Lshr)
    ∷ (codes "(bvashr n", head.Binary Ashr)
    ∷ (codes "(ite (bvult n", head.Test Ult)
    ∷ (codes "(ite (bvslt n", head.Test Slt)
    ∷ (codes "(ite (= n", head.Equal)
    ∷ (codes "((_ extract ", head.Extract)
    ∷ (codes "((_ sign_extend ", head.Extend true)
    ∷ (codes "((_ zero_extend ", head.Extend false)
    ∷ (codes "(concat n", head.Concat)
    ∷ []

-- a number of 32 bits
abbrev pub if_word : {X : Type 0} → ℕ → Option X → Option X
if_word n found = if nat_lt n (2 ^ 32) then found else None

-- what a test answers: the bits 1 and 0
abbrev pub answers : List ℕ
answers = codes ") (_ bv1 1) (_ bv0 1))"

abbrev pub term_head : Reader Head
term_head text = named heads text

-- two terms, of which it is asked whether they are equal
abbrev pub equal_operands : Reader Node
equal_operands text = made (λ (a, b). Compare Eq a b) (two (codes " n") answers text)

-- the condition and the two sides of a choice
abbrev pub ite_operands : Reader Node
ite_operands text =
    made (λ (c, a, b). Ite c a b) (three (codes " (_ bv1 1)) n") (codes " n") (codes ")") text)

-- what stands behind the head of a term
unfoldable pub read_operands : Head → Reader Node
read_operands head.Num text =
    option_and_then (λ ((value, width), rest). if_word width (Some (Num width value, rest)))
    (two (codes " ") (codes ")") text)
read_operands head.Input text = made Input (number text)
read_operands head.Not text = made Not (one (codes ")") text)
read_operands head.Neg text = made Neg (one (codes ")") text)
read_operands (head.Binary op) text =
    made (λ (a, b). Binary op a b) (two (codes " n") (codes ")") text)
read_operands (head.Test op) text = made (λ (a, b). Compare op a b) (two (codes " n") answers text)
read_operands head.Equal text = option_or (equal_operands text) (ite_operands text)
read_operands head.Extract text =
    option_and_then (λ ((high, low, a), rest). if_word high
    (if_word low (Some (Extract high low a, rest))))
    (three (codes " ") (codes ") n") (codes ")") text)
read_operands (head.Extend signed) text =
    option_and_then (λ ((by, a), rest). if_word by (Some (Extend by signed a, rest)))
    (two (codes ") n") (codes ")") text)
read_operands head.Concat text = made (λ (a, b). Concat a b) (two (codes " n") (codes ")") text)

unfoldable pub term : Reader Node
term text = option_and_then (λ (head, rest). read_operands head rest) (term_head text)

unfoldable pub node_line : Reader LeafLine
node_line text =
    option_and_then (λ ((id, width), rest). made (NodeLine id width)
    (before term (codes ")\n") rest))
    (option_and_then (two (codes " () (_ BitVec ") (codes ") "))
    (behind (codes "(define-fun n") text))

-- the line of a byte of output: its number, and that of its term
abbrev pub output_said : Reader (ℕ × ℕ)
output_said text =
    option_and_then (two (codes " () (_ BitVec 8) n") (codes ")\n"))
    (behind (codes "(define-fun out") text)

-- the line of an assertion: the number of its term
abbrev pub assertion_said : Reader ℕ
assertion_said text =
    option_and_then (one (codes " (_ bv1 1)))\n")) (behind (codes "(assert (= n") text)

-- a number below 2 ^ 32 before the end of its line
abbrev pub count_to_end : Reader ℕ
count_to_end text = option_and_then (λ (n, rest). if_word n (Some (n, rest)))
    (one (codes "\n") text)

-- ---- all lines

-- a line that says nothing of its own
abbrev pub fixed : LeafLine → Reader LeafLine
fixed line text = option_map (λ rest. (line, rest)) (behind (line_text line) text)

-- the line that the text begins with, at this place
abbrev pub line_at : Spot → Reader LeafLine
line_at AtFormat text = fixed FormatLine text
line_at AtKind text =
    made (λ cause. KindLine (kind_said cause))
    (option_and_then kind_word (behind (codes "; kind ") text))
line_at AtChoices text =
    made ChoicesLine (option_and_then all_choices (behind (codes "; choices ") text))
line_at AtPath text =
    made PathLine (option_and_then all_steps (behind (codes "; path ") text))
line_at AtSteps text =
    made StepsLine (option_and_then (one (codes "\n")) (behind (codes "; steps ") text))
line_at AtEnd text =
    made (λ said. EndLine (word_said said))
    (option_and_then end_word (behind (codes "; end ") text))
line_at AtInputs text =
    made InputsLine (option_and_then (one (codes "\n")) (behind (codes "; inputs ") text))
line_at AtNodes text =
    made NodesLine (option_and_then (one (codes "\n")) (behind (codes "; nodes ") text))
line_at AtOutputs text =
    made OutputsLine (option_and_then (one (codes "\n")) (behind (codes "; outputs ") text))
line_at AtLogic text = fixed LogicLine text
line_at AmongInputs text =
    made InputLine (option_and_then (one (codes " () (_ BitVec 8))\n"))
    (behind (codes "(declare-fun b") text))
line_at AtBase text = fixed BaseLine text
line_at AmongNodes text = node_line text
line_at AtStatus text =
    made StatusLine (option_and_then (one (codes ")\n"))
    (behind (codes "(define-fun status () (_ BitVec 8) n") text))
line_at AmongOutputs text =
    made (λ (i, id). OutputLine i id) (output_said text)
line_at AmongAssertions text =
    option_or (made AssertLine (assertion_said text)) (fixed CheckLine text)
line_at AtExit text = fixed ExitLine text
line_at Closed text = None

-- what is read with the line that the text begins with, where it may stand, and what is behind it
unfoldable pub next_line : Reading → Reader Reading
next_line r text =
    option_and_then (λ (line, rest). option_map (λ next. (next, rest)) (next_state r line))
    (line_at r.place text)
