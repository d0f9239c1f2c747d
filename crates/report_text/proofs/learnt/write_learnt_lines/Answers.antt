use Rattle.std.proofs.Common.{◌≡◌, ◌∙◌, ◌++◌, ◌+◌, ℕ, List, [], ◌∷◌, ap, string_bytes, subst, sym, take}
use Rattle.std.specs.List.{flat_map}
use Rattle.std.proofs.lemmas.List.{flat_map_more, take_all, take_more}
use Rattle.std.proofs.lemmas.List.Elements.{All-more, All-same}
use Rattle.cnf_form.specs.Refutations.{Step}
use Rattle.spent_text.specs.LearntLine.{learnt_line}
use Rattle.spent_text.specs.Legible.{HasSmallNumbers}
use Rattle.report_text.proofs.learnt.write_learnt_lines.Goals as goal

pub loop-step-preserved : goal.loop-step-preserved
loop-step-preserved c =
    let log : List Step = c.args.log.now in
    let old : List ℕ = string_bytes c.args.text.now in
    let i = c.loop-step.step-index in
    let step : Step = c.step-item.result in
    let more : take i log ++ step ∷ [] ≡ take (i + 1) log =
    ap (λ (s : Step). take i log ++ s ∷ []) c.step-item.is ∙ sym (take_more log i step c.loop-step-test.true) in
    record {
      written = c.in_ok-write_learnt_line.ensures.ok ∙ ap (λ (t : List ℕ). t ++ learnt_line step) c.loop-step.invariant.written
          ∙ flat_map_more learnt_line old (take i log) step ∙ ap (λ (steps : List Step). old ++ flat_map learnt_line steps) more;
      small = All-more HasSmallNumbers log i step c.loop-step-test.true c.loop-step.invariant.small
          (subst HasSmallNumbers c.step-item.is c.in_ok-write_learnt_line.ensures.small);
    }

pub returns-clause-small : goal.returns-clause-small
returns-clause-small c =
    let log : List Step = c.args.log.now in
    let i = c.loop-step.step-index in
    All-same HasSmallNumbers log (take i log) (sym (take_all i log c.loop-step-test.false)) c.loop-step.invariant.small
