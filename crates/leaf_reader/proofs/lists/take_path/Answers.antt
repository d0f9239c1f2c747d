use Rattle.std.proofs.Common.{◌≡◌, ◌∙◌, ap, sym, subst, ℕ, List, None, Some, option_map, Bor}
use Rattle.rv_decode.specs.declared.ends.PathStep.{PathStep}
use Rattle.text_parts.specs.Items.{step}
use Rattle.text_parts.specs.Pieces.{behind, list_end}
use Rattle.leaf_reader.proofs.ItemLoops.{SoFar, step_shortens, list_breaks, list_ends, list_goes_on, none_yet}
use Rattle.leaf_reader.proofs.lists.take_path.Goals as goal

pub steps-init : goal.steps-init
steps-init c =
    subst (λ (done : List PathStep). SoFar step c.args.text.now done c.args.text.now) (sym c.new-path.ensures.items) (none_yet step c.args.text.now)

pub steps-preserved : goal.steps-preserved
steps-preserved c =
    let is : behind list_end c.steps.rest.now ≡ None =
    sym c.behind.ensures ∙ ap (option_map (λ (r : Bor (List ℕ)). r.now)) c.in_default.is in
    let found : step c.steps.rest.now ≡ Some (c.in-Some-take_step.step, c.in-Some-take_step.more.now) =
    sym c.take_step.ensures ∙ ap (option_map (λ (p : PathStep × Bor (List ℕ)). (p.0, p.1.now))) c.in-Some-take_step.is in
    subst (λ (done : List PathStep). SoFar step c.args.text.now done c.in-Some-take_step.more.now) (sym c.in_ok-push.ensures.items)
    (list_goes_on step c.args.text.now c.steps.path.items c.steps.rest.now c.in-Some-take_step.step c.in-Some-take_step.more.now c.steps.invariant is found
    (step_shortens c.steps.rest.now c.in-Some-take_step.step c.in-Some-take_step.more.now found))

pub steps-smaller : goal.steps-smaller
steps-smaller c =
    step_shortens c.steps.rest.now c.in-Some-take_step.step c.in-Some-take_step.more.now
    (sym c.take_step.ensures ∙ ap (option_map (λ (p : PathStep × Bor (List ℕ)). (p.0, p.1.now))) c.in-Some-take_step.is)

pub returns-in-Some : goal.returns-in-Some
returns-in-Some c =
    sym (list_ends step c.args.text.now c.steps.path.items c.steps.rest.now c.in-Some.end.now c.steps.invariant
    (sym c.behind.ensures ∙ ap (option_map (λ (r : Bor (List ℕ)). r.now)) c.in-Some.is))

pub returns-in_default-take_step : goal.returns-in_default-take_step
returns-in_default-take_step c =
    sym (list_breaks step c.args.text.now c.steps.path.items c.steps.rest.now c.steps.invariant
    (sym c.behind.ensures ∙ ap (option_map (λ (r : Bor (List ℕ)). r.now)) c.in_default.is)
    (sym c.take_step.ensures ∙ ap (option_map (λ (p : PathStep × Bor (List ℕ)). (p.0, p.1.now))) c.in_default-take_step.is))
