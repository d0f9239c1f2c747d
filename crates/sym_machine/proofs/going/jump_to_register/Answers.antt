use Rattle.std.proofs.Common.{[], ◌∷◌, ◌++◌, ap, subst, ◌∙◌}
use Rattle.rv_decode.specs.declared.ends.PathStep.{PathStep}
use Rattle.rv_decode.specs.declared.ends.PathStep.TheVariants.{Target}
use Rattle.rv_spec.specs.Machine.{State, Outcome, linked, noted}
use Rattle.sym_state.specs.Symbolic.{Symbolic}
use Rattle.sym_state.specs.Unfolded.{unfolded}
use Rattle.sym_state.specs.Unfolding as symbolic
use Rattle.sym_machine.specs.Steps.{Comes}
use Rattle.sym_machine.specs.declared.outcome.Step.{Step}
use Rattle.sym_machine.proofs.going.jump_to_register.Goals as goal

-- the path's entry comes before the rest
comes : (old new : Symbolic) (entry : PathStep) (step : Step) (makes : State → Outcome)
    → Comes (record old { path = old.path ++ entry ∷ [] }) new step makes
    → Comes old new step (λ c. makes (noted c entry))
comes old new entry step makes rest = record {
  keeps = record {
    continues = rest.keeps.continues;
    condition = rest.keeps.condition;
    choices = rest.keeps.choices;
    steps = rest.keeps.steps;
    known = rest.keeps.known;
    sample = rest.keeps.sample;
    few = rest.keeps.few;
  };
  is = rest.is;
}

pub returns-clause-comes : goal.returns-clause-comes
returns-clause-comes c =
    comes c.args.state.now c.jump_and_link.new.state (Target c.args.target) c.jump_and_link.result
    (λ d. linked d c.args.rd c.args.target)
    (subst
    (λ (s : Symbolic).
    Comes s c.jump_and_link.new.state c.jump_and_link.result (λ d. linked d c.args.rd c.args.target))
    c.in_ok-note.ensures.ok c.jump_and_link.ensures.comes)

pub returns-clause-terms : goal.returns-clause-terms
returns-clause-terms c =
    c.jump_and_link.ensures.terms
    ∙ ap (λ (s : Symbolic). symbolic.linked (unfolded s) c.args.rd c.args.target) c.in_ok-note.ensures.ok
