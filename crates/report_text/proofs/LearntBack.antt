-- A question and the clauses that were learnt for it are told by their text.
use Rattle.std.proofs.Common.{◌≡◌, ◌∙◌, ℕ, List, ◌++◌, Some, append_assoc, ap, arith, codes, decimal, length, refl, sym}
use Rattle.std.specs.Prelude.{All}
use Rattle.std.specs.List.{flat_map}
use Rattle.std.proofs.lemmas.List.{append_cancel_left}
use Rattle.std.proofs.lemmas.Option.{same_Some}
use Rattle.fork_spec.specs.Evidence.{Learnt}
use Rattle.smt_text.specs.LeafLines.{query_text}
use Rattle.text_parts.specs.Pieces.{three}
use Rattle.smt_text.proofs.OneReading.{question_before}
use Rattle.text_parts.proofs.Words.{three_back}
use Rattle.spent_text.proofs.ListsBack.{lines_told}
use Rattle.spent_text.specs.LearntLine.{learnt_line}
use Rattle.spent_text.proofs.ClauseBack.{IsLegibleStep, some_step, step_told}
use Rattle.report_text.specs.Learnt.{conflicts_text, learnt_heading}
use Rattle.report_text.specs.Legible.{IsLegibleLearnt}

-- ---- all of it

heading_pieces : (h a n p b q c rest : List ℕ) →
    ((((((((h ++ a) ++ n) ++ p) ++ b) ++ n) ++ q) ++ c) ++ n) ++ rest ≡ h ++ (a ++ ((n ++ p) ++ (b ++ ((n ++ q) ++ (c ++ (n ++ rest))))))
heading_pieces h a n p b q c rest = simp append_assoc

-- the question, and the lines of the clauses
abbrev behind_heading : Learnt → List ℕ
behind_heading learnt = query_text learnt.question ++ flat_map learnt_line learnt.log

-- the text behind its first word
abbrev behind_first : Learnt → List ℕ
behind_first learnt =
    decimal (length learnt.log) ++ (codes "\n; inputs " ++ (decimal learnt.question.graph.inputs
    ++ (codes "\n; nodes " ++ (decimal (length learnt.question.graph.nodes) ++ (codes "\n" ++ behind_heading learnt)))))

in_order : (learnt : Learnt) → conflicts_text learnt ≡ codes "; spent conflicts " ++ behind_first learnt
unfolding conflicts_text
in_order learnt =
    append_assoc (learnt_heading learnt) (query_text learnt.question) (flat_map learnt_line learnt.log)
    ∙ heading_pieces (codes "; spent conflicts ") (decimal (length learnt.log)) (codes "\n") (codes "; inputs ") (decimal learnt.question.graph.inputs)
    (codes "; nodes ") (decimal (length learnt.question.graph.nodes)) (behind_heading learnt)

-- how many clauses, inputs and terms
abbrev counts_of : Learnt → ℕ × ℕ × ℕ
counts_of learnt = (length learnt.log, learnt.question.graph.inputs, length learnt.question.graph.nodes)

heading_back : (learnt : Learnt) → IsLegibleLearnt learnt →
    three (codes "\n; inputs ") (codes "\n; nodes ") (codes "\n") (behind_first learnt) ≡ Some (counts_of learnt, behind_heading learnt)
heading_back learnt legible =
    three_back (codes "\n; inputs ") (codes "\n; nodes ") (codes "\n") (length learnt.log) learnt.question.graph.inputs (length learnt.question.graph.nodes)
    (behind_heading learnt) (omega (arith, legible.few_clauses)) (omega (arith, legible.question.few_inputs)) legible.question.few_nodes refl refl refl

legible_steps : (learnt : Learnt) → IsLegibleLearnt learnt → All IsLegibleStep learnt.log
legible_steps learnt legible i d within =
    let clause = legible.clauses i d within in
    let numbers = legible.numbers i d within in
    record { literals = λ k l inside. (clause.from_one k l inside, numbers.variables k l inside); hints = numbers.hints }

-- a question and clauses of one text are the same
pub learnt_told : (learnt other : Learnt) → IsLegibleLearnt learnt → IsLegibleLearnt other → conflicts_text learnt ≡ conflicts_text other → learnt ≡ other
learnt_told learnt other legible also e =
    let text : behind_first learnt ≡ behind_first other =
    append_cancel_left (codes "; spent conflicts ") (behind_first learnt) (behind_first other) (sym (in_order learnt) ∙ e ∙ in_order other) in
    let both : Some (counts_of learnt, behind_heading learnt) ≡ Some (counts_of other, behind_heading other) =
    sym (heading_back learnt legible) ∙ ap (three (codes "\n; inputs ") (codes "\n; nodes ") (codes "\n")) text ∙ heading_back other also in
    let pair = same_Some (counts_of learnt, behind_heading learnt) (counts_of other, behind_heading other) both in
    let inputs : learnt.question.graph.inputs ≡ other.question.graph.inputs = ap (λ (p : (ℕ × ℕ × ℕ) × List ℕ). p.0.1) pair in
    let nodes : length learnt.question.graph.nodes ≡ length other.question.graph.nodes = ap (λ (p : (ℕ × ℕ × ℕ) × List ℕ). p.0.2) pair in
    let asked = question_before learnt.question other.question (flat_map learnt_line learnt.log) (flat_map learnt_line other.log)
    legible.question also.question inputs nodes (ap (λ (p : (ℕ × ℕ × ℕ) × List ℕ). p.1) pair) in
    let question : learnt.question ≡ other.question = asked.0 in
    let log : learnt.log ≡ other.log =
    lines_told learnt_line IsLegibleStep step_told some_step learnt.log other.log (legible_steps learnt legible) (legible_steps other also) asked.1 in
    λ k. record { question = question k; log = log k }
