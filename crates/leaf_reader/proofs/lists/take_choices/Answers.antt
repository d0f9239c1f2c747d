use Rattle.std.proofs.Common.{◌≡◌, ◌∙◌, ap, sym, subst, ℕ, List, None, Some, option_map, Bor}
use Rattle.tree_core.specs.declared.choice.Choice.{Choice}
use Rattle.text_parts.specs.Items.{choice}
use Rattle.text_parts.specs.Pieces.{behind, list_end}
use Rattle.leaf_reader.proofs.ItemLoops.{SoFar, choice_shortens, list_breaks, list_ends, list_goes_on, none_yet}
use Rattle.leaf_reader.proofs.lists.take_choices.Goals as goal

pub choices-init : goal.choices-init
choices-init c =
    subst (λ (done : List Choice). SoFar choice c.args.text.now done c.args.text.now) (sym c.new-choices.ensures.items) (none_yet choice c.args.text.now)

pub choices-preserved : goal.choices-preserved
choices-preserved c =
    let is : behind list_end c.choices.rest.now ≡ None =
    sym c.behind.ensures ∙ ap (option_map (λ (r : Bor (List ℕ)). r.now)) c.in_default.is in
    let found : choice c.choices.rest.now ≡ Some (c.in-Some-take_choice.choice, c.in-Some-take_choice.more.now) =
    sym c.take_choice.ensures ∙ ap (option_map (λ (p : Choice × Bor (List ℕ)). (p.0, p.1.now))) c.in-Some-take_choice.is in
    subst (λ (done : List Choice). SoFar choice c.args.text.now done c.in-Some-take_choice.more.now) (sym c.in_ok-push.ensures.items)
    (list_goes_on choice c.args.text.now c.choices.choices.items c.choices.rest.now c.in-Some-take_choice.choice c.in-Some-take_choice.more.now c.choices.invariant is found
    (choice_shortens c.choices.rest.now c.in-Some-take_choice.choice c.in-Some-take_choice.more.now found))

pub choices-smaller : goal.choices-smaller
choices-smaller c =
    choice_shortens c.choices.rest.now c.in-Some-take_choice.choice c.in-Some-take_choice.more.now
    (sym c.take_choice.ensures ∙ ap (option_map (λ (p : Choice × Bor (List ℕ)). (p.0, p.1.now))) c.in-Some-take_choice.is)

pub returns-in-Some : goal.returns-in-Some
returns-in-Some c =
    sym (list_ends choice c.args.text.now c.choices.choices.items c.choices.rest.now c.in-Some.end.now c.choices.invariant
    (sym c.behind.ensures ∙ ap (option_map (λ (r : Bor (List ℕ)). r.now)) c.in-Some.is))

pub returns-in_default-take_choice : goal.returns-in_default-take_choice
returns-in_default-take_choice c =
    sym (list_breaks choice c.args.text.now c.choices.choices.items c.choices.rest.now c.choices.invariant
    (sym c.behind.ensures ∙ ap (option_map (λ (r : Bor (List ℕ)). r.now)) c.in_default.is)
    (sym c.take_choice.ensures ∙ ap (option_map (λ (p : Choice × Bor (List ℕ)). (p.0, p.1.now))) c.in_default-take_choice.is))
