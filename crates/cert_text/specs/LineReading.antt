-- The line that a text begins with, at each place of a certificate's text.
use Rattle.std.specs.Prelude.{ℕ, zero, suc, ◌+◌, ◌-◌, ◌*◌, ◌&&◌, nat_le, if◌then◌else◌, List, [], ◌∷◌, Option, None, Some, codes, length, option_map, option_and_then}
use Rattle.std.specs.Option.{option_or}
use Rattle.cert_form.specs.declared.cert.Limits.{Limits}
use Rattle.cert_form.specs.declared.line.CertLine.{CertLine}
use Rattle.cert_form.specs.declared.line.CertLine.TheVariants.{One, Split, Tried, Inputs, Nodes, Logic, Input, Base, Node, Assert, Check, Exit, Clause, Value, Witness, End, CutSteps, CutNodes}
use Rattle.cert_form.specs.declared.node_line.DefinedNode.{DefinedNode}
use Rattle.cnf_form.specs.Clauses.{rise_above}
use Rattle.cnf_form.specs.Literals.{Literal}
use Rattle.cnf_form.specs.Refutations.{Step}
use Rattle.elf_load.specs.declared.region.Region.{Region}
use Rattle.fork_spec.specs.Evidence.{Found}
use Rattle.smt_text.specs.LineReading.{assertion_said, count_to_end, if_word, node_line}
use Rattle.smt_text.specs.Lines.{LeafLine, NodeLine}
use Rattle.spent_text.specs.LineReading.{hint, literal, side}
use Rattle.text_parts.specs.Items.{choice}
use Rattle.text_parts.specs.Pieces.{Reader, before, behind, eight, made, named, number, one, three}
use Rattle.cert_text.specs.Texts.{TextLine, FormatLine, RegionsLine, BudgetsLine, WalkLine, text_of}
use Rattle.cert_text.specs.Lines.{line_text}
use Rattle.cert_text.specs.declared.kind.LineKind.{LineKind}
use Rattle.cert_text.specs.declared.kind.LineKind.TheVariants as kind

-- ---- lists

-- items with nothing between, up to what ends them; no more than are said
unfoldable pub listed : {X : Type 0} → Reader X → (end : List ℕ) → (most : ℕ) → Reader (List X)
listed read end zero text = None
listed read end (suc more) text =
    option_or (option_map (λ rest. ([], rest)) (behind end text))
    (option_and_then (λ (x, rest). made (λ xs. x ∷ xs) (listed read end more rest)) (read text))

-- all of them; each takes a byte or more
abbrev pub all : {X : Type 0} → Reader X → (end : List ℕ) → Reader (List X)
all read end text = listed read end (suc (length text)) text

-- ---- bytes

-- what a digit is worth: 0 (48) to 9 (57), and a (97) to f (102)
abbrev pub digit_worth : ℕ → Option ℕ
digit_worth c =
    if nat_le 48 c && nat_le c 57 then Some (c - 48) else
    if nat_le 97 c && nat_le c 102 then Some (c - 87) else
    None

-- a byte in two digits
unfoldable pub byte : Reader ℕ
byte (high ∷ low ∷ rest) =
    option_and_then (λ h. option_map (λ l. (h * 16 + l, rest)) (digit_worth low)) (digit_worth high)
byte _ = None

-- the bytes of an assignment up to the end of the line
abbrev pub input_to_end : Reader (List ℕ)
input_to_end text = all byte (codes "\n") text

-- ---- what stands behind the words of lines

-- a node with its number and its width
abbrev pub defined_in : LeafLine → Option DefinedNode
defined_in (NodeLine id width node) = Some (record { id = id; width = width; node = node })
defined_in _ = None

abbrev pub node_read : Reader DefinedNode
node_read text =
    option_and_then (λ (line, rest). option_map (λ defined. (defined, rest)) (defined_in line))
    (node_line text)

-- the hints behind the literals of a clause, which is one if its variables are from 1 on and increase
abbrev pub hints_read : List Literal → Reader Step
hints_read literals text =
    if rise_above 0 literals
    then made (λ hints. record { clause = literals; hints = hints }) (all hint (codes " 0\n") text)
    else None

abbrev pub clause_read : Reader Step
clause_read text =
    option_and_then (λ (literals, rest). hints_read literals rest) (all literal (codes " 0") text)

-- a value up to its assignment
abbrev pub value_read : Reader ℕ
value_read text = option_and_then (before eight (codes " ")) (behind (codes "v ") text)

-- the assignment behind a value
abbrev pub found_from : ℕ → Reader Found
found_from value text = made (λ input. record { value = value; input = input }) (input_to_end text)

-- the assignment behind a word
abbrev pub worded_input : (word : List ℕ) → Reader (List ℕ)
worded_input word text = option_and_then input_to_end (behind word text)

-- ---- lines of the walk

-- what the lines begin with
abbrev pub words : List (List ℕ × LineKind)
words =
    (codes "(define-fun n", kind.Node)
    ∷ (codes "c ", kind.Clause)
    ∷ (codes "v ", kind.Value)
    ∷ (codes "one ", kind.One)
    ∷ (codes "split", kind.Split)
    ∷ (codes "tried\n", kind.Tried)
    ∷ (codes "end ", kind.End)
    ∷ (codes "w ", kind.Witness)
    ∷ (codes "cut steps ", kind.CutSteps)
    ∷ (codes "cut nodes\n", kind.CutNodes)
    ∷ (codes "(assert (= n", kind.Assert)
    ∷ (codes "(declare-fun b", kind.Declare)
    ∷ (codes "; inputs ", kind.Inputs)
    ∷ (codes "; nodes ", kind.Nodes)
    ∷ (codes "(set-logic QF_ABV)\n", kind.Logic)
    ∷ (codes "(check-sat)\n", kind.Check)
    ∷ (codes "(exit)\n", kind.Exit)
    ∷ []

-- what kind of line the text begins with
abbrev pub kind_at : List ℕ → Option LineKind
kind_at text = option_map (λ (kind, rest). kind) (named words text)

-- a line that says nothing of its own
abbrev pub fixed_line : CertLine → Reader CertLine
fixed_line line text = option_map (λ rest. (line, rest)) (behind (line_text line) text)

-- an input
abbrev pub input_line : Reader CertLine
input_line text =
    made Input (option_and_then (one (codes " () (_ BitVec 8))\n"))
    (behind (codes "(declare-fun b") text))

-- a line of this kind
unfoldable pub line_of : LineKind → Reader CertLine
line_of kind.One text =
    made One (option_and_then (before choice (codes "\n")) (behind (codes "one ") text))
line_of kind.Split text =
    made Split (option_and_then (all side (codes "\n")) (behind (codes "split") text))
line_of kind.Tried text = fixed_line Tried text
line_of kind.Inputs text =
    made Inputs (option_and_then count_to_end (behind (codes "; inputs ") text))
line_of kind.Nodes text =
    made Nodes (option_and_then (one (codes "\n")) (behind (codes "; nodes ") text))
line_of kind.Logic text = fixed_line Logic text
line_of kind.Declare text = option_or (input_line text) (fixed_line Base text)
line_of kind.Node text = made Node (node_read text)
line_of kind.Assert text = made Assert (assertion_said text)
line_of kind.Check text = fixed_line Check text
line_of kind.Exit text = fixed_line Exit text
line_of kind.Clause text = made Clause (option_and_then clause_read (behind (codes "c") text))
line_of kind.Value text =
    made Value (option_and_then (λ (value, rest). found_from value rest) (value_read text))
line_of kind.Witness text = made Witness (worded_input (codes "w ") text)
line_of kind.End text = made End (worded_input (codes "end ") text)
line_of kind.CutSteps text = made CutSteps (worded_input (codes "cut steps ") text)
line_of kind.CutNodes text = fixed_line CutNodes text

unfoldable pub walk_line : Reader CertLine
walk_line text = option_and_then (λ kind. line_of kind text) (kind_at text)

-- ---- the heading

-- a region behind a blank: eight digits, a colon, and a number of 32 bits
abbrev pub region_from : ℕ → Reader Region
region_from start text =
    option_and_then (λ (count, rest).
    if_word count (Some (record { start = start; count = count }, rest))) (number text)

unfoldable pub region : Reader Region
region text =
    option_and_then (λ (start, rest). option_and_then (region_from start) (behind (codes ":") rest))
    (option_and_then eight (behind (codes " ") text))

abbrev pub regions_line : Reader (List Region)
regions_line text = option_and_then (all region (codes "\n")) (behind (codes "regions") text)

-- budgets of these numbers, if they have 32 bits
abbrev pub budgets_of : (steps targets conflicts nodes : ℕ) → Option Limits
budgets_of steps targets conflicts nodes =
    if_word steps (if_word targets (if_word conflicts (if_word nodes (Some (record {
      steps = steps;
      targets = targets;
      conflicts = conflicts;
      nodes = nodes;
    })))))

abbrev pub budgets_read : Reader Limits
budgets_read text =
    option_and_then (λ ((steps, targets, conflicts), rest). option_and_then (λ (nodes, more).
    option_map (λ budgets. (budgets, more)) (budgets_of steps targets conflicts nodes))
    (one (codes "\n") rest))
    (three (codes " ") (codes " ") (codes " ") text)

abbrev pub budgets_line : Reader Limits
budgets_line text = option_and_then budgets_read (behind (codes "budgets ") text)

-- ---- all lines

-- the line that the text begins with behind so many others
abbrev pub line_behind : (before : ℕ) → Reader TextLine
line_behind zero text = option_map (λ rest. (FormatLine, rest)) (behind (text_of FormatLine) text)
line_behind (suc zero) text = made RegionsLine (regions_line text)
line_behind (suc (suc zero)) text = made BudgetsLine (budgets_line text)
line_behind (suc (suc (suc before))) text = made WalkLine (walk_line text)
