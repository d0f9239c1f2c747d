-- Each line is read back from its text.
use Rattle.std.proofs.Common.{◌≡◌, ◌∙◌, ℕ, zero, suc, ◌<◌, ◌≤◌, ◌^◌, Bool, true, false, nat_lt, List, [], ◌∷◌, ◌++◌, None, Some, refl, ap, arith, codes, decimal, append_assoc}
use Rattle.std.specs.Prelude.{All, if◌then◌else◌, option_and_then}
use Rattle.std.specs.List.{flat_map, list_all}
use Rattle.std.proofs.lemmas.Bool.Decides.{nat_tests}
use Rattle.std.proofs.lemmas.List.Elements.{All-head, All-tail}
use Rattle.cert_form.specs.declared.cert.Limits.{Limits}
use Rattle.cert_form.specs.declared.line.CertLine.{CertLine}
use Rattle.cert_form.specs.declared.line.CertLine.TheVariants.{One, Split, Tried, Inputs, Nodes, Logic, Input, Base, Node, Assert, Check, Exit, Clause, Value, Witness, End, CutSteps, CutNodes}
use Rattle.cnf_form.specs.Clauses.{IsClause, rise_above}
use Rattle.cnf_form.specs.Literals.{Literal}
use Rattle.cnf_form.specs.Refutations.{Step}
use Rattle.hex.specs.Hex.{encode_lower}
use Rattle.smt_text.proofs.LinesBack.{node_line_back}
use Rattle.spent_text.specs.LearntLine.{hint_text, learnt_line, literal_text}
use Rattle.spent_text.specs.Legible.{HasSmallNumbers}
use Rattle.spent_text.specs.Sides.{sides_text}
use Rattle.spent_text.proofs.ClauseBack.{IsLiteral, behind_literals, hints_spaced}
use Rattle.text_parts.specs.Names.{choice_text, eight_digits}
use Rattle.text_parts.specs.Pieces.{behind, made, named, number, one, plain_number}
use Rattle.text_parts.proofs.ItemsBack.{choice_back, eight_back}
use Rattle.text_parts.proofs.Joined.{five_pieces, three_pieces}
use Rattle.text_parts.proofs.Words.{behind_word, one_back, starts_plain, three_back}
use Rattle.cert_text.specs.Texts.{TextLine, FormatLine, RegionsLine, BudgetsLine, WalkLine, blank_region, text_of}
use Rattle.cert_text.specs.Legible.{AreInput, AreSmallLimits, IsLegibleLine, MayStand}
use Rattle.cert_text.specs.LineReading.{budgets_line, clause_read, input_line, kind_at, line_behind, line_of, walk_line, worded_input}
use Rattle.cert_text.specs.Lines.{input_text, line_text}
use Rattle.cert_text.specs.declared.kind.LineKind.{LineKind}
use Rattle.cert_text.specs.declared.kind.LineKind.TheVariants as kind
use Rattle.cert_text.proofs.BytesBack.{input_back}
use Rattle.cert_text.proofs.ItemsBack.{hints_back, literals_back, regions_back, sides_back, word_true}

-- ---- kinds

kind_of : CertLine → LineKind
kind_of (One choice) = kind.One
kind_of (Split sides) = kind.Split
kind_of Tried = kind.Tried
kind_of (Inputs inputs) = kind.Inputs
kind_of (Nodes nodes) = kind.Nodes
kind_of Logic = kind.Logic
kind_of (Input i) = kind.Declare
kind_of Base = kind.Declare
kind_of (Node defined) = kind.Node
kind_of (Assert id) = kind.Assert
kind_of Check = kind.Check
kind_of Exit = kind.Exit
kind_of (Clause step) = kind.Clause
kind_of (Value found) = kind.Value
kind_of (Witness input) = kind.Witness
kind_of (End input) = kind.End
kind_of (CutSteps input) = kind.CutSteps
kind_of CutNodes = kind.CutNodes

clause_named : (clause : List Literal) (rest : List ℕ) → kind_at (codes "c" ++ (flat_map literal_text clause ++ (codes " 0" ++ rest))) ≡ Some kind.Clause
unfolding named behind
clause_named [] rest = refl
clause_named (l ∷ clause) rest = go l.positive
  where
    go : (b : Bool) → kind_at (codes "c" ++ ((((if b then codes " " else codes " -") ++ decimal l.variable) ++ flat_map literal_text clause) ++ (codes " 0" ++ rest))) ≡ Some kind.Clause
    go true = refl
    go false = refl

pub clause_pieces : (step : Step) (rest : List ℕ) →
    learnt_line step ++ rest ≡ codes "c" ++ (flat_map literal_text step.clause ++ (codes " 0" ++ (behind_literals step rest)))
clause_pieces step rest = five_pieces (codes "c") (flat_map literal_text step.clause) (codes " 0") (flat_map hint_text step.hints) (codes " 0\n") rest

kind_named : (line : CertLine) (rest : List ℕ) → kind_at (line_text line ++ rest) ≡ Some (kind_of line)
unfolding named behind kind_of
kind_named (One choice) rest = refl
kind_named (Split sides) rest = refl
kind_named Tried rest = refl
kind_named (Inputs inputs) rest = refl
kind_named (Nodes nodes) rest = refl
kind_named Logic rest = refl
kind_named (Input i) rest = refl
kind_named Base rest = refl
kind_named (Node defined) rest = refl
kind_named (Assert id) rest = refl
kind_named Check rest = refl
kind_named Exit rest = refl
kind_named (Clause step) rest = ap kind_at (clause_pieces step rest) ∙ clause_named step.clause (behind_literals step rest)
kind_named (Value found) rest = refl
kind_named (Witness input) rest = refl
kind_named (End input) rest = refl
kind_named (CutSteps input) rest = refl
kind_named CutNodes rest = refl

-- ---- lines of each kind

numbered_back : {X : Type 0} (make : ℕ → X) (word end : List ℕ) (n : ℕ) (rest : List ℕ) → n < 2 ^ 64 → starts_plain (end ++ rest) ≡ true →
    made make (option_and_then (one end) (behind word (((word ++ decimal n) ++ end) ++ rest))) ≡ Some (make n, rest)
numbered_back make word end n rest small plain =
    rw (three_pieces word (decimal n) end rest, behind_word word (decimal n ++ (end ++ rest)), one_back end n rest small plain) refl

all_above_0 : (ls : List Literal) → All (λ (l : Literal). 1 ≤ l.variable) ls → list_all (λ (l : Literal). nat_lt 0 l.variable) ls ≡ true
all_above_0 [] from_one = refl
all_above_0 (l ∷ ls) from_one =
    let some : 1 ≤ l.variable = All-head (λ (k : Literal). 1 ≤ k.variable) l ls from_one in
    rw (above some) (all_above_0 ls (All-tail (λ (k : Literal). 1 ≤ k.variable) l ls from_one))
  where
    above : 1 ≤ l.variable → nat_lt 0 l.variable ≡ true
    above some = grind (arith, nat_tests)

rises : (ls : List Literal) → IsClause ls → rise_above 0 ls ≡ true
rises ls is = rw (all_above_0 ls is.from_one) is.increasing

each_literal : (step : Step) → IsClause step.clause → HasSmallNumbers step → All IsLiteral step.clause
each_literal step clause numbers k l within = (clause.from_one k l within, numbers.variables k l within)

clause_back : (step : Step) (rest : List ℕ) → IsClause step.clause → HasSmallNumbers step →
    clause_read (flat_map literal_text step.clause ++ (codes " 0" ++ behind_literals step rest)) ≡ Some (step, rest)
clause_back step rest clause numbers =
    rw (
      literals_back step.clause (behind_literals step rest) (each_literal step clause numbers) (hints_spaced step rest),
      rises step.clause clause,
      hints_back step.hints rest numbers.hints,
    ) refl

worded_back : (word input rest : List ℕ) → AreInput input → worded_input word (input_text word input ++ rest) ≡ Some (input, rest)
worded_back word input rest bytes =
    ap (worded_input word) (three_pieces word (encode_lower input) (codes "\n") rest)
    ∙ rw (behind_word word (encode_lower input ++ (codes "\n" ++ rest)), input_back input rest bytes) refl

no_input : (rest : List ℕ) → input_line (line_text Base ++ rest) ≡ None
unfolding behind one number plain_number
no_input rest = refl

of_kind : (line : CertLine) (rest : List ℕ) → IsLegibleLine line → line_of (kind_of line) (line_text line ++ rest) ≡ Some (line, rest)
unfolding line_of kind_of
of_kind (One choice) rest small =
    ap (line_of kind.One) (three_pieces (codes "one ") (choice_text choice) (codes "\n") rest)
    ∙ rw (behind_word (codes "one ") (choice_text choice ++ (codes "\n" ++ rest)), choice_back choice (codes "\n" ++ rest) small, behind_word (codes "\n") rest) refl
of_kind (Split sides) rest small =
    ap (line_of kind.Split) (three_pieces (codes "split") (sides_text sides) (codes "\n") rest)
    ∙ rw (behind_word (codes "split") (sides_text sides ++ (codes "\n" ++ rest)), sides_back sides rest small) refl
of_kind Tried rest small = rw (behind_word (line_text Tried) rest) refl
of_kind (Inputs n) rest small =
    ap (line_of kind.Inputs) (three_pieces (codes "; inputs ") (decimal n) (codes "\n") rest)
    ∙ rw (behind_word (codes "; inputs ") (decimal n ++ (codes "\n" ++ rest)), one_back (codes "\n") n rest (omega (arith, small)) refl, word_true n small) refl
of_kind (Nodes n) rest small = numbered_back Nodes (codes "; nodes ") (codes "\n") n rest small refl
of_kind Logic rest small = rw (behind_word (line_text Logic) rest) refl
of_kind (Input i) rest small =
    rw (numbered_back Input (codes "(declare-fun b") (codes " () (_ BitVec 8))\n") i rest small refl) refl
of_kind Base rest small = rw (no_input rest, behind_word (line_text Base) rest) refl
of_kind (Node defined) rest small =
    rw (node_line_back defined.id defined.width defined.node rest small.0 small.1 small.2) refl
of_kind (Assert id) rest small =
    numbered_back Assert (codes "(assert (= n") (codes " (_ bv1 1)))\n") id rest small refl
of_kind Check rest small = rw (behind_word (line_text Check) rest) refl
of_kind Exit rest small = rw (behind_word (line_text Exit) rest) refl
of_kind (Clause step) rest small =
    ap (line_of kind.Clause) (clause_pieces step rest)
    ∙ rw (behind_word (codes "c") (flat_map literal_text step.clause ++ (codes " 0" ++ behind_literals step rest)), clause_back step rest small.0 small.1) refl
of_kind (Value found) rest small =
    ap (line_of kind.Value) (five_pieces (codes "v ") (eight_digits found.value) (codes " ") (encode_lower found.input) (codes "\n") rest)
    ∙ rw (
      behind_word (codes "v ") (eight_digits found.value ++ (codes " " ++ (encode_lower found.input ++ (codes "\n" ++ rest)))),
      eight_back found.value (codes " " ++ (encode_lower found.input ++ (codes "\n" ++ rest))) small.0,
      behind_word (codes " ") (encode_lower found.input ++ (codes "\n" ++ rest)),
      input_back found.input rest small.1,
    ) refl
of_kind (Witness input) rest small = rw (worded_back (codes "w ") input rest small) refl
of_kind (End input) rest small = rw (worded_back (codes "end ") input rest small) refl
of_kind (CutSteps input) rest small = rw (worded_back (codes "cut steps ") input rest small) refl
of_kind CutNodes rest small = rw (behind_word (line_text CutNodes) rest) refl

pub walk_back : (line : CertLine) (rest : List ℕ) → IsLegibleLine line → walk_line (line_text line ++ rest) ≡ Some (line, rest)
unfolding walk_line
walk_back line rest legible = rw (kind_named line rest) (of_kind line rest legible)

-- ---- the heading

pub budget_pieces : (w s b t c n e rest : List ℕ) →
    ((((((((w ++ s) ++ b) ++ t) ++ b) ++ c) ++ b) ++ n) ++ e) ++ rest ≡ w ++ (s ++ (b ++ (t ++ (b ++ (c ++ (b ++ (n ++ (e ++ rest))))))))
budget_pieces w s b t c n e rest = simp append_assoc

budgets_back : (budgets : Limits) (rest : List ℕ) → AreSmallLimits budgets → budgets_line (text_of (BudgetsLine budgets) ++ rest) ≡ Some (budgets, rest)
budgets_back budgets rest small =
    let blank : List ℕ = codes " " in
    let nodes : List ℕ = decimal budgets.nodes ++ (codes "\n" ++ rest) in
    ap budgets_line (budget_pieces (codes "budgets ") (decimal budgets.steps) blank (decimal budgets.targets) (decimal budgets.conflicts) (decimal budgets.nodes) (codes "\n") rest)
    ∙ rw (
      behind_word (codes "budgets ") (decimal budgets.steps ++ (blank ++ (decimal budgets.targets ++ (blank ++ (decimal budgets.conflicts ++ (blank ++ nodes)))))),
      three_back blank blank blank budgets.steps budgets.targets budgets.conflicts nodes (omega (arith, small.steps)) (omega (arith, small.targets)) (omega (arith, small.conflicts)) refl refl refl,
      one_back (codes "\n") budgets.nodes rest (omega (arith, small.nodes)) refl,
      word_true budgets.steps small.steps,
      word_true budgets.targets small.targets,
      word_true budgets.conflicts small.conflicts,
      word_true budgets.nodes small.nodes,
    ) refl

pub line_back : (before : ℕ) (line : TextLine) (rest : List ℕ) → MayStand before line → line_behind before (text_of line ++ rest) ≡ Some (line, rest)
line_back zero FormatLine rest may = rw (behind_word (text_of FormatLine) rest) refl
line_back (suc zero) (RegionsLine regions) rest may =
    ap (line_behind 1) (three_pieces (codes "regions") (flat_map blank_region regions) (codes "\n") rest)
    ∙ rw (behind_word (codes "regions") (flat_map blank_region regions ++ (codes "\n" ++ rest)), regions_back regions rest may) refl
line_back (suc (suc zero)) (BudgetsLine budgets) rest may = rw (budgets_back budgets rest may) refl
line_back (suc (suc (suc before))) (WalkLine line) rest may = rw (walk_back line rest may) refl
line_back _ _ rest may = elim may [ ]
