-- The leaves of sides that are cut, as lines name them.
use Rattle.std.proofs.Common.{◌≡◌, ℕ, ◌<◌, List, ◌∷◌, ◌++◌, length, map, ap, ◌∙◌, refl, arith}
use Rattle.std.specs.Prelude.{Option, None, Some}
use Rattle.std.proofs.lemmas.List.{length-append}
use Rattle.bv_dag.specs.Queries.{Condition}
use Rattle.cert_form.specs.declared.line.CertLine.{CertLine}
use Rattle.cert_form.specs.declared.line.CertLine.TheVariants.{Inputs, Clause, Value, Witness}
use Rattle.cert_query.specs.QuestionLines.{question_lines}
use Rattle.cnf_form.specs.Refutations.{Step}
use Rattle.fork_spec.specs.Evidence.{Found}
use Rattle.fork_spec.specs.Histories.{cause_of}
use Rattle.fork_spec.specs.Parts.{Part}
use Rattle.tree_core.specs.declared.cause.Cause.{Cause}
use Rattle.tree_core.specs.declared.cause.Cause.TheVariants.{Conflicts, Targets}
use Rattle.tree_core.specs.declared.choice.Choice.{Choice}
use Rattle.cert_audit.specs.Names.{Ahead, named_from}
use Rattle.cert_audit.specs.Steps.{named_as}
use Rattle.cert_audit.proofs.Quiet.{behind_inputs, behind_passed, clauses_passed, mapped_quiet, question_first, question_long, quiet_lines}

-- a leaf's name
pub named_is : (part : Part) (choices : List Choice) (cut : Option Cause) (sample : Option (List ℕ)) → part.leaf.choices ≡ choices
    → cause_of part.leaf.end ≡ cut → part.sample ≡ sample → named_as part ≡ record { choices = choices; cut = cut; sample = sample }
named_is part choices cut sample one two three =
    ap (λ cs. record { choices = cs; cut = cause_of part.leaf.end; sample = part.sample }) one
    ∙ ap (λ c. record { choices = choices; cut = c; sample = part.sample }) two
    ∙ ap (λ s. record { choices = choices; cut = cut; sample = s }) three

-- ---- A side that is cut by conflicts: the first line of its question names it.
asked_first : (choices : List Choice) (ahead : List Ahead) (n : ℕ) (lines : List CertLine)
    → named_from (record { choices = choices; cut = Some Conflicts } ∷ ahead) (Inputs n ∷ lines)
    ≡ record { choices = choices; cut = Some Conflicts; sample = None } ∷ named_from ahead lines
unfolding named_from
asked_first choices ahead n lines = refl

pub named_asked : (choices : List Choice) (q : Condition) (log : List Step) (rest : List CertLine) (ahead : List Ahead)
    → named_from (record { choices = choices; cut = Some Conflicts } ∷ ahead) (question_lines q ++ (map Clause log ++ rest))
    ≡ record { choices = choices; cut = Some Conflicts; sample = None } ∷ named_from ahead rest
named_asked choices q log rest ahead =
    ap (named_from (record { choices = choices; cut = Some Conflicts } ∷ ahead)) (question_first q (map Clause log ++ rest))
    ∙ asked_first choices ahead q.graph.inputs (behind_inputs q ++ (map Clause log ++ rest))
    ∙ ap (λ more. record { choices = choices; cut = Some Conflicts; sample = None } ∷ more)
    (behind_passed ahead q (map Clause log ++ rest) ∙ clauses_passed ahead log rest)

pub shorter_asked : (q : Condition) (log : List Step) (rest lines : List CertLine) → lines ≡ question_lines q ++ (map Clause log ++ rest)
    → length rest < length lines
shorter_asked q log rest lines is =
    omega (arith, ap length is, question_long q (map Clause log ++ rest), length-append (map Clause log) rest)

-- ---- A side that is cut by targets: the line behind its values names it.
witness_first : (choices : List Choice) (ahead : List Ahead) (input : List ℕ) (lines : List CertLine)
    → named_from (record { choices = choices; cut = Some Targets } ∷ ahead) (Witness input ∷ lines)
    ≡ record { choices = choices; cut = Some Targets; sample = Some input } ∷ named_from ahead lines
unfolding named_from
witness_first choices ahead input lines = refl

pub named_valued : (choices : List Choice) (found : List Found) (input : List ℕ) (rest : List CertLine) (ahead : List Ahead)
    → named_from (record { choices = choices; cut = Some Targets } ∷ ahead) (map Value found ++ Witness input ∷ rest)
    ≡ record { choices = choices; cut = Some Targets; sample = Some input } ∷ named_from ahead rest
named_valued choices found input rest ahead =
    quiet_lines (record { choices = choices; cut = Some Targets } ∷ ahead) (map Value found) (Witness input ∷ rest)
    (mapped_quiet Value found (λ f. record { names = λ a. refl; keeps = λ a. refl }))
    ∙ witness_first choices ahead input rest

pub shorter_valued : (found : List Found) (input : List ℕ) (rest lines : List CertLine) → lines ≡ map Value found ++ Witness input ∷ rest
    → length rest < length lines
shorter_valued found input rest lines is =
    let whole = ap length is ∙ length-append (map Value found) (Witness input ∷ rest) in
    omega (arith, whole)
