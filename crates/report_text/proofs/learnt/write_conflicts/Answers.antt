use Rattle.std.proofs.Common.{◌≡◌, ◌∙◌, ◌++◌, [], ℕ, List, Vec, Global, ap, refl, subst}
use Rattle.std.specs.List.{All, flat_map}
use Rattle.fork_spec.specs.Evidence.{Learnt}
use Rattle.smt_text.specs.LeafLines.{query_text}
use Rattle.spent_text.specs.LearntLine.{learnt_line}
use Rattle.spent_text.specs.Legible.{HasSmallNumbers}
use Rattle.report_text.specs.Learnt.{conflicts_text, learnt_heading}
use Rattle.report_text.proofs.learnt.write_conflicts.Goals as goal

-- the text, from its parts
made_of : (learnt : Learnt) (none a b c question lines : List ℕ) →
    question ≡ query_text learnt.question → lines ≡ flat_map learnt_line learnt.log →
    none ≡ [] → a ≡ none ++ learnt_heading learnt → b ≡ a ++ question → c ≡ b ++ lines →
    c ≡ conflicts_text learnt
unfolding conflicts_text
made_of learnt none a b c question lines equestion elines enone ea eb ec =
    rw (ec, eb, ea, enone, equestion, elines) refl

pub returns-clause-text : goal.returns-clause-text
returns-clause-text c =
    let learnt = c.args.learnt.now in
    c.from_vec.ensures ∙ ap (λ (v : Vec ℕ Global). v.items) c.into_bytes.ensures.value
    ∙ made_of learnt _ _ _ _ _ _
    (c.as_str.ensures.value ∙ c.in_ok-print_query.ensures ∙ ap (λ (l : Learnt). query_text l.question) c.learnt.view_is)
    (ap (flat_map learnt_line) (c.steps.ensures ∙ ap (λ (l : Learnt). l.log) c.learnt.view_is))
    c.new-text.ensures.bytes c.in_ok-write_heading.ensures.ok c.in_ok-push_str.ensures.bytes c.in_ok-write_learnt_lines.ensures.ok

pub returns-clause-small : goal.returns-clause-small
returns-clause-small c =
    let log : c.steps.result.now ≡ c.args.learnt.now.log = c.steps.ensures ∙ ap (λ (l : Learnt). l.log) c.learnt.view_is in
    subst (All HasSmallNumbers) log c.in_ok-write_learnt_lines.ensures.small
