-- Lines that were passed, one after the other.
use Rattle.std.proofs.Common.{◌≡◌, ℕ, List, [], ◌∷◌, ◌++◌, length, map, refl, sym, ap, subst, ◌∙◌, append_assoc}
use Rattle.std.specs.Prelude.{All, Option, None, Some}
use Rattle.std.proofs.lemmas.List.Elements.{All-append, All-cons, All-head, All-nil, All-tail}
use Rattle.bv_dag.specs.Queries.{Condition}
use Rattle.cert_form.specs.declared.line.CertLine.{CertLine}
use Rattle.cert_form.specs.declared.line.CertLine.TheVariants.{Clause, CutNodes, Inputs}
use Rattle.cert_query.specs.QuestionLines.{question_lines}
use Rattle.cnf_form.specs.Refutations.{Step}
use Rattle.tree_core.specs.declared.cause.Cause.{Cause}
use Rattle.tree_core.specs.declared.cause.Cause.TheVariants.{Conflicts, Nodes, Steps, Targets}
use Rattle.cert_audit.specs.Names.{leaf_there, named_by, root_ahead}
use Rattle.cert_audit.specs.Passing.{EndsWith, IsUncut, PassesFirst, PassesLeaf, PassesUncut}
use Rattle.cert_audit.specs.Walks.{first_of}
use Rattle.cert_audit.proofs.Quiet.{IsQuiet, behind_inputs, behind_quiet, mapped_quiet, question_first}

-- ---- Lines that don't say that a run may not part.
quiet_uncut : (line : CertLine) → IsQuiet line → IsUncut line
quiet_uncut line is same =
    let nothing : leaf_there root_ahead (Some Nodes) None ≡ [] = sym (ap (named_by root_ahead) same) ∙ is.names root_ahead in
    cc

pub all_uncut : (lines : List CertLine) → All IsQuiet lines → All IsUncut lines
all_uncut [] all = All-nil IsUncut
all_uncut (line ∷ lines) all = All-cons IsUncut line lines (quiet_uncut line (All-head IsQuiet line lines all)) (all_uncut lines (All-tail IsQuiet line lines all))

pub one_uncut : (line : CertLine) → IsUncut line → All IsUncut (line ∷ [])
one_uncut line is = All-cons IsUncut line [] is (All-nil IsUncut)

-- those of a question and of clauses
pub asked_uncut : (q : Condition) (log : List Step) (lines rest : List CertLine) → lines ≡ question_lines q ++ (map Clause log ++ rest) → PassesUncut lines rest
asked_uncut q log lines rest is =
    let quiet = All-append IsQuiet (behind_inputs q) (map Clause log) (behind_quiet q) (mapped_quiet Clause log (λ step. record { names = λ a. refl; keeps = λ a. refl })) in
    record {
      passed = Inputs q.graph.inputs ∷ (behind_inputs q ++ map Clause log);
      split = is ∙ question_first q (map Clause log ++ rest)
          ∙ ap (λ (ls : List CertLine). Inputs q.graph.inputs ∷ ls) (sym (append_assoc (behind_inputs q) (map Clause log) rest));
      uncut = All-cons IsUncut (Inputs q.graph.inputs) (behind_inputs q ++ map Clause log) (λ same. cc) (all_uncut (behind_inputs q ++ map Clause log) quiet);
    }

-- ---- What is passed in two.
split_behind : (lines rest behind one two : List CertLine) → lines ≡ one ++ rest → rest ≡ two ++ behind → lines ≡ (one ++ two) ++ behind
split_behind lines rest behind one two first second = first ∙ ap (λ (ls : List CertLine). one ++ ls) second ∙ sym (append_assoc one two behind)

pub ends_behind : (lines rest behind : List CertLine) → EndsWith lines rest → EndsWith rest behind → EndsWith lines behind
ends_behind lines rest behind first second = (first.0 ++ second.0, split_behind lines rest behind first.0 second.0 first.1 second.1)

uncut_behind : (lines rest behind : List CertLine) → PassesUncut lines rest → PassesUncut rest behind → PassesUncut lines behind
uncut_behind lines rest behind first second = record {
  passed = first.passed ++ second.passed;
  split = split_behind lines rest behind first.passed second.passed first.split second.split;
  uncut = All-append IsUncut first.passed second.passed first.uncut second.uncut;
}

-- behind one more line, or a leaf
pub one_line_more : (line : CertLine) (lines rest : List CertLine) → IsUncut line → PassesUncut lines rest → PassesUncut (line ∷ lines) rest
one_line_more line lines rest is behind = uncut_behind (line ∷ lines) lines rest (record { passed = line ∷ []; split = refl; uncut = one_uncut line is }) behind

pub leaf_ends : (cut : Option Cause) (lines rest : List CertLine) → PassesLeaf cut lines rest → EndsWith lines rest
leaf_ends None lines rest is = (is.passed, is.split)
leaf_ends (Some Steps) lines rest is = (is.passed, is.split)
leaf_ends (Some Targets) lines rest is = (is.passed, is.split)
leaf_ends (Some Conflicts) lines rest is = (is.passed, is.split)
leaf_ends (Some Nodes) lines rest is = (CutNodes ∷ [], is)

-- the first stays the first
pub first_kept : (first : Option ℕ) (lines rest behind : List CertLine) → PassesFirst first lines rest → PassesUncut rest behind → PassesFirst first lines behind
first_kept None lines rest behind was more = uncut_behind lines rest behind was more
first_kept (Some left) lines rest behind was more = (was.0, was.1, was.2, ends_behind was.0 rest behind was.3 (more.passed, more.split))

pub first_found : (first : Option ℕ) (lines rest behind : List CertLine) → PassesFirst first lines rest → rest ≡ CutNodes ∷ behind → PassesFirst (first_of first (length rest)) lines behind
first_found None lines rest behind was is = (behind, subst (PassesUncut lines) is was, ap length is, ([], refl))
first_found (Some left) lines rest behind was is = (was.0, was.1, was.2, ends_behind was.0 rest behind was.3 (CutNodes ∷ [], is))
