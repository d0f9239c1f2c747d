-- Lines that name no leaf.
use Rattle.std.proofs.Common.{◌≡◌, ℕ, zero, suc, ◌+◌, ◌<◌, List, [], ◌∷◌, ◌++◌, length, map, refl, ap, ◌∙◌, sym, arith, length-append}
use Rattle.std.specs.Prelude.{All, Option, None}
use Rattle.std.specs.List.{enumerate_from}
use Rattle.std.proofs.lemmas.List.Elements.{All-nil, All-cons, All-append, All-head, All-tail}
use Rattle.bv_dag.specs.Graphs.{Graph}
use Rattle.bv_dag.specs.Queries.{Condition}
use Rattle.bv_dag.specs.declared.nodes.Node as dag
use Rattle.cert_form.specs.declared.line.CertLine.{CertLine}
use Rattle.cert_form.specs.declared.line.CertLine.TheVariants.{Inputs, Nodes, Logic, Input, Base, Assert, Check, Exit, Clause}
use Rattle.cert_query.specs.QuestionLines.{assertion_lines, body_lines, input_lines, node_line, node_lines, question_lines}
use Rattle.cnf_form.specs.Refutations.{Step}
use Rattle.tree_core.specs.declared.cause.Cause.{Cause}
use Rattle.cert_audit.specs.Names.{Ahead, Named, ahead_behind, asked_there, named_by, named_from, still_ahead}

-- it names no leaf and parts nothing, whatever comes next
pub record IsQuiet (line : CertLine) : Type 0 where
  pub names : (a : Ahead) → named_by a line ≡ []
  pub keeps : (a : Ahead) → ahead_behind a line ≡ a ∷ []

none_named : (lines : List CertLine) → named_from [] lines ≡ []
unfolding named_from
none_named [] = refl
none_named (line ∷ lines) = refl

-- what comes next stays so behind such a line
pub quiet_there : (a : Ahead) (ahead : List Ahead) (line : CertLine) (lines : List CertLine) → named_by a line ≡ [] → ahead_behind a line ≡ a ∷ []
    → named_from (a ∷ ahead) (line ∷ lines) ≡ named_from (a ∷ ahead) lines
unfolding named_from
quiet_there a ahead line lines names keeps =
    ap (λ (found : List Named). found ++ named_from (ahead_behind a line ++ ahead) lines) names
    ∙ ap (λ (next : List Ahead). named_from (next ++ ahead) lines) keeps

pub quiet_line : (ahead : List Ahead) (line : CertLine) (lines : List CertLine) → IsQuiet line
    → named_from ahead (line ∷ lines) ≡ named_from ahead lines
quiet_line [] line lines is = none_named (line ∷ lines) ∙ sym (none_named lines)
quiet_line (a ∷ ahead) line lines is = quiet_there a ahead line lines (is.names a) (is.keeps a)

pub quiet_lines : (ahead : List Ahead) (before rest : List CertLine) → All IsQuiet before
    → named_from ahead (before ++ rest) ≡ named_from ahead rest
quiet_lines ahead [] rest all = refl
quiet_lines ahead (line ∷ lines) rest all =
    quiet_line ahead line (lines ++ rest) (All-head IsQuiet line lines all) ∙ quiet_lines ahead lines rest (All-tail IsQuiet line lines all)

-- ---- The lines of a question.
inputs_quiet : (i more : ℕ) → All IsQuiet (input_lines i more)
inputs_quiet i zero = All-nil IsQuiet
inputs_quiet i (suc more) =
    All-cons IsQuiet (Input i) (input_lines (i + 1) more) (record { names = λ a. refl; keeps = λ a. refl }) (inputs_quiet (i + 1) more)

pub mapped_quiet : {X : Type 0} (line : X → CertLine) (xs : List X) → ((x : X) → IsQuiet (line x)) → All IsQuiet (map line xs)
mapped_quiet line [] each = All-nil IsQuiet
mapped_quiet line (x ∷ xs) each = All-cons IsQuiet (line x) (map line xs) (each x) (mapped_quiet line xs each)

node_quiet : (g : Graph) (n : ℕ × dag.Node) → IsQuiet (node_line g n)
node_quiet g n = record { names = λ a. refl; keeps = λ a. refl }

end_quiet : All IsQuiet (Check ∷ Exit ∷ [])
end_quiet =
    All-cons IsQuiet Check (Exit ∷ []) (record { names = λ a. refl; keeps = λ a. refl })
    (All-cons IsQuiet Exit [] (record { names = λ a. refl; keeps = λ a. refl }) (All-nil IsQuiet))

body_quiet : (q : Condition) → All IsQuiet (body_lines q)
body_quiet q =
    All-append IsQuiet (node_lines q.graph) (assertion_lines q.asserted) (mapped_quiet (node_line q.graph) (enumerate_from 0 q.graph.nodes) (node_quiet q.graph))
    (All-append IsQuiet (map Assert q.asserted) (Check ∷ Exit ∷ []) (mapped_quiet Assert q.asserted (λ id. record { names = λ a. refl; keeps = λ a. refl })) end_quiet)

-- all but the first
abbrev pub behind_inputs : Condition → List CertLine
behind_inputs q = Nodes (length q.graph.nodes) ∷ Logic ∷ (input_lines 0 q.graph.inputs ++ (Base ∷ [])) ++ body_lines q

pub behind_quiet : (q : Condition) → All IsQuiet (behind_inputs q)
behind_quiet q =
    let inputs = input_lines 0 q.graph.inputs ++ (Base ∷ []) in
    All-cons IsQuiet (Nodes (length q.graph.nodes)) (Logic ∷ inputs ++ body_lines q) (record { names = λ a. refl; keeps = λ a. refl })
    (All-cons IsQuiet Logic (inputs ++ body_lines q) (record { names = λ a. refl; keeps = λ a. refl })
    (All-append IsQuiet inputs (body_lines q)
    (All-append IsQuiet (input_lines 0 q.graph.inputs) (Base ∷ []) (inputs_quiet 0 q.graph.inputs)
    (All-cons IsQuiet Base [] (record { names = λ a. refl; keeps = λ a. refl }) (All-nil IsQuiet)))
    (body_quiet q)))

pub question_first : (q : Condition) (rest : List CertLine)
    → question_lines q ++ rest ≡ Inputs q.graph.inputs ∷ (behind_inputs q ++ rest)
unfolding question_lines
question_first q rest = refl

-- behind its first line a question's lines name nothing
pub behind_passed : (ahead : List Ahead) (q : Condition) (rest : List CertLine)
    → named_from ahead (behind_inputs q ++ rest) ≡ named_from ahead rest
behind_passed ahead q rest = quiet_lines ahead (behind_inputs q) rest (behind_quiet q)

asks_none : (a : Ahead) (cut : Option Cause) → cut ≡ None → asked_there a cut ≡ []
asks_none a cut is = ap (asked_there a) is

-- nor does the first where no cut side comes next
pub question_passed : (a : Ahead) (ahead : List Ahead) (q : Condition) (rest : List CertLine) → a.cut ≡ None
    → named_from (a ∷ ahead) (question_lines q ++ rest) ≡ named_from (a ∷ ahead) rest
question_passed a ahead q rest is =
    ap (named_from (a ∷ ahead)) (question_first q rest)
    ∙ quiet_there a ahead (Inputs q.graph.inputs) (behind_inputs q ++ rest) (asks_none a a.cut is)
    (ap (still_ahead a) (asks_none a a.cut is))
    ∙ behind_passed (a ∷ ahead) q rest

-- clauses name nothing
pub clauses_passed : (ahead : List Ahead) (log : List Step) (rest : List CertLine)
    → named_from ahead (map Clause log ++ rest) ≡ named_from ahead rest
clauses_passed ahead log rest = quiet_lines ahead (map Clause log) rest (mapped_quiet Clause log (λ step. record { names = λ a. refl; keeps = λ a. refl }))

-- a question's lines are some
pub question_long : (q : Condition) (rest : List CertLine) → length rest < length (question_lines q ++ rest)
question_long q rest = omega (arith, ap length (question_first q rest), length-append (behind_inputs q) rest)
