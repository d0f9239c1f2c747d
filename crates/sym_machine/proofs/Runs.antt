-- Steps of a symbolic run are steps of the machine's runs of a program.
use Rattle.std.proofs.Common.{◌≡◌, ℕ, zero, suc, ◌+◌, ◌*◌, ◌<◌, ◌≤◌, true, List, ◌++◌, get_or, length, refl, sym, ap, subst, ◌∙◌, add-one, arith}
use Rattle.std.specs.Prelude.{Option, None, Some, is_none, count_by, replicate}
use Rattle.elf_load.specs.Images.{Image}
use Rattle.elf_load.specs.declared.region.Region.{Region}
use Rattle.rv_decode.specs.declared.ends.End.{End}
use Rattle.fork_spec.specs.Decisions.{decisions, decisions_from, run_decisions, step_decisions}
use Rattle.rv_spec.specs.Machine.{State, Running as GoesOn, Ended as Stops, first_state, next}
use Rattle.rv_spec.specs.Runs.{Run, IsRunOf, run, run_from, continued, after_outcome}
use Rattle.sym_state.specs.Moves.{IsGrown, IsSame}
use Rattle.sym_state.specs.Programs.{Program}
use Rattle.sym_state.specs.Runs.{AreTermsOf, DecidedAlike, IsEnded, IsOpen, left_to_do, run_end_on}
use Rattle.sym_state.specs.Symbolic.{Symbolic, IsTrulyKnown, KnowsTruth, concrete, known_at, most_decisions, most_steps, nothing_known, stands_for}
use Rattle.sym_state.specs.Undecided.{IsBranch, IsPin}
use Rattle.sym_state.specs.Unfolding.{next_unfolded, unfolded_run}
use Rattle.sym_state.specs.declared.ended.RunEnd.{RunEnd}
use Rattle.sym_state.proofs.Grown.{concrete-grown, stands-grown, stood, unfolded-grown}
use Rattle.sym_machine.specs.Advancing.{Advances, IsUnderway}
use Rattle.sym_machine.specs.Steps.{Steps}
use Rattle.sym_machine.specs.declared.stepping.Stop.TheVariants.{Branch as BranchStop, Pin as PinStop, Ended as EndedStop, Steps as StepsStop}
use Rattle.sym_machine.specs.declared.outcome.Step.{Step}
use Rattle.sym_machine.specs.declared.outcome.Step.TheVariants.{Running, Ended}
use Rattle.sym_machine.proofs.Standing.{knows-grown}

-- of a run that has not ended
run_more : (image : Image) (all : List Region) (input : List ℕ) (steps : ℕ) (s : State)
    → run image all input steps ≡ record { state = s; end = None; steps = steps }
    → run image all input (steps + 1) ≡ after_outcome (steps + 1) (next s)
unfolding run_from
run_more image all input steps s h =
    ap (λ k. run_from (first_state image all input) k) (add-one steps)
    ∙ ap (λ (r : Run). continued r r.end) h

-- a step that leads on
pub run_on : (image : Image) (all : List Region) (input : List ℕ) (steps : ℕ) (s t : State)
    → run image all input steps ≡ record { state = s; end = None; steps = steps }
    → next s ≡ GoesOn t
    → run image all input (steps + 1) ≡ record { state = t; end = None; steps = steps + 1 }
run_on image all input steps s t h e =
    run_more image all input steps s h ∙ ap (λ o. after_outcome (steps + 1) o) e

-- a step that ends the run
pub run_ends : (image : Image) (all : List Region) (input : List ℕ) (steps : ℕ) (s t : State)
    (end : End) → run image all input steps ≡ record { state = s; end = None; steps = steps }
    → next s ≡ Stops end t
    → IsRunOf (run image all input (steps + 1)) (steps + 1) t.path (Some end) t.output
run_ends image all input steps s t end h e =
    subst (λ (r : Run). IsRunOf r (steps + 1) t.path (Some end) t.output) (sym (run_more image all input steps s h ∙ ap (λ o. after_outcome (steps + 1) o) e))
    (record { all_steps = refl; same_path = refl; same_end = refl; same_output = refl })

-- What it has decided then.
pub decisions_more : (image : Image) (all : List Region) (input : List ℕ) (steps : ℕ) (s : State)
    → run image all input steps ≡ record { state = s; end = None; steps = steps }
    → decisions image all input (steps + 1) ≡ decisions image all input steps ++ step_decisions s
unfolding decisions_from
decisions_more image all input steps s h =
    ap (λ k. decisions_from (first_state image all input) k) (add-one steps)
    ∙ ap (λ (r : Run). decisions image all input steps ++ run_decisions r r.end) h

-- Its terms then.
unfolded_more : (image : Image) (all : List Region) (input : List ℕ) (steps : ℕ) (s : State)
    → run image all input steps ≡ record { state = s; end = None; steps = steps }
    → unfolded_run image all input (steps + 1) ≡ next_unfolded (unfolded_run image all input steps) (step_decisions s)
unfolding unfolded_run
unfolded_more image all input steps s h =
    ap (unfolded_run image all input) (add-one steps)
    ∙ ap (λ (r : Run). next_unfolded (unfolded_run image all input steps) (step_decisions r.state)) h

-- ---- What a step leaves.
-- an assignment that it stands for after a step it stood for before
before_step : (s t : Symbolic) (step : Step) → Steps s t step → (input : List ℕ) → stands_for t input ≡ true → stands_for s input ≡ true
before_step s t step made input stands = sym (made.same.same_cover input) ∙ stands

none_in : {A : Type 0} (n place : ℕ) → get_or {A = Option A} (replicate n None) place None ≡ None
none_in zero place = refl
none_in (suc n) zero = refl
none_in (suc n) (suc place) = none_in n place

-- of the next step nothing is known
none_known : (t : Symbolic) (place : ℕ) → t.known ≡ nothing_known → known_at t place ≡ None
none_known t place is = ap (λ ks. get_or ks place None) is ∙ none_in most_decisions place

pub knows_after : (s t : Symbolic) (step : Step) → Steps s t step → KnowsTruth t
knows_after s t step made place = subst (IsTrulyKnown t place) (sym (none_known t place made.known)) tt

alike_after : (p : Program) (s t : Symbolic) (step : Step) → Steps s t step → IsOpen p s → DecidedAlike p t
alike_after p s t step made was = record {
  made = was.alike.made ++ made.alike.made;
  alike = λ input stands.
      let stood_for = before_step s t step made input stands in
      ap (decisions p.image p.regions input) made.steps
      ∙ decisions_more p.image p.regions input s.steps (concrete s input) (was.sound input stood_for)
      ∙ ap (λ ds. ds ++ step_decisions (concrete s input)) (was.alike.alike input stood_for)
      ∙ ap (λ ds. was.alike.made ++ ds) (made.alike.alike input stood_for);
}

terms_after : (p : Program) (s t : Symbolic) (step : Step) → Steps s t step → IsOpen p s → AreTermsOf p t
terms_after p s t step made was input stands =
    let stood_for = before_step s t step made input stands in
    made.terms input stood_for
    ∙ ap (λ u. next_unfolded u (step_decisions (concrete s input))) (was.terms input stood_for)
    ∙ sym (unfolded_more p.image p.regions input s.steps (concrete s input) (was.sound input stood_for))
    ∙ ap (unfolded_run p.image p.regions input) (sym made.steps)

few_after : (s t : Symbolic) (step : Step) → Steps s t step → length s.output ≤ 4096 * s.steps → length t.output ≤ 4096 * t.steps
few_after s t step made few = omega (arith, made.few, made.steps, few)

pub open_after : (p : Program) (s t : Symbolic) → Steps s t Running → IsOpen p s → IsOpen p t
open_after p s t made was = record {
  inputs = made.inputs ∙ was.inputs;
  knows = knows_after s t Running made;
  few_outputs = few_after s t Running made was.few_outputs;
  sound = λ input stands.
      let stood_for = before_step s t Running made input stands in
      ap (run p.image p.regions input) made.steps
      ∙ run_on p.image p.regions input s.steps (concrete s input) (concrete t input) (was.sound input stood_for) (made.is input stood_for)
      ∙ ap (λ n. record { state = concrete t input; end = None; steps = n }) (sym made.steps);
  alike = alike_after p s t Running made was;
  terms = terms_after p s t Running made was;
}

pub ended_after : (p : Program) (s t : Symbolic) (end : RunEnd) → Steps s t (Ended end) → IsOpen p s → IsEnded p t end
ended_after p s t end made was = record {
  inputs = made.inputs ∙ was.inputs;
  few_outputs = few_after s t (Ended end) made was.few_outputs;
  ends = λ input stands.
      let stood_for = before_step s t (Ended end) made input stands in
      subst (λ n. IsRunOf (run p.image p.regions input n) n t.path (Some (run_end_on t input end)) (concrete t input).output) (sym made.steps)
      (run_ends p.image p.regions input s.steps (concrete s input) (concrete t input) (run_end_on t input end) (was.sound input stood_for) (made.is input stood_for));
  alike = alike_after p s t (Ended end) made was;
  terms = terms_after p s t (Ended end) made was;
}

-- ---- More terms: it is the same run.
steps-grown : (s t : Symbolic) → IsGrown s t → t.steps ≡ s.steps
steps-grown s t grown = ap (λ (r : Symbolic). r.steps) grown.same

pub open-grown : (p : Program) (s t : Symbolic) → IsGrown s t → IsOpen p s → IsOpen p t
open-grown p s t grown was =
    let steps = steps-grown s t grown in
    record {
      inputs = grown.continues.inputs ∙ was.inputs;
      knows = knows-grown s t grown was.knows;
      few_outputs =
          let outputs = ap (λ (r : Symbolic). length r.output) grown.same in
          omega (arith, outputs, steps, was.few_outputs);
      sound = λ input stands.
          ap (run p.image p.regions input) steps
          ∙ was.sound input (stood s t input grown stands)
          ∙ cc (concrete-grown s t input grown, steps);
      alike = record {
        made = was.alike.made;
        alike = λ input stands. ap (decisions p.image p.regions input) steps ∙ was.alike.alike input (stood s t input grown stands);
      };
      terms = λ input stands.
          unfolded-grown s t grown ∙ was.terms input (stood s t input grown stands) ∙ ap (unfolded_run p.image p.regions input) (sym steps);
    }

same-grown : (s t : Symbolic) → IsGrown s t → IsSame s t
same-grown s t grown = record {
  same_choices = ap (λ (r : Symbolic). r.choices) grown.same;
  same_cover = λ input. stands-grown s t input grown;
}

-- ---- Steps, one after the other.
-- a run after some steps: it stands for the same assignments, has no more to do, and is open where it was
pub record IsOnward (most : ℕ) (old now : Symbolic) : Type 0 where
  pub same : IsSame old now
  pub sample : now.sample ≡ old.sample
  pub less : left_to_do now ≤ left_to_do old
  pub within : now.steps ≤ most
  pub knows : KnowsTruth now
  pub opens : (p : Program) → IsOpen p old → IsOpen p now

pub no_step : (most : ℕ) (s : Symbolic) → s.steps ≤ most → KnowsTruth s → IsOnward most s s
no_step most s within knows = record {
  same = record { same_choices = refl; same_cover = λ input. refl };
  sample = refl;
  less = omega arith;
  within = within;
  knows = knows;
  opens = λ p is. is;
}

-- a step more leaves less to do
left_after : (s t : Symbolic) (step : Step) → Steps s t step → s.steps < most_steps → left_to_do t < left_to_do s
left_after s t step made few =
    let count = ap (λ ks. count_by is_none ks) made.known in
    omega (arith, made.steps, few, count)

pub one_step : (most : ℕ) (s t u : Symbolic) → most ≤ most_steps → IsOnward most s t → t.steps < most → Steps t u Running → IsOnward most s u
one_step most s t u few was room made =
    let less = left_after t u Running made (omega (arith, room, few)) in
    record {
      same = record {
        same_choices = made.same.same_choices ∙ was.same.same_choices;
        same_cover = λ input. made.same.same_cover input ∙ was.same.same_cover input;
      };
      sample = made.sample ∙ was.sample;
      less = omega (arith, less, was.less);
      within = omega (arith, made.steps, room);
      knows = knows_after t u Running made;
      opens = λ p is. open_after p t u made (was.opens p is);
    }

pub smaller : (most : ℕ) (t u : Symbolic) → most ≤ most_steps → t.steps < most → Steps t u Running → left_to_do u < left_to_do t
smaller most t u few room made = left_after t u Running made (omega (arith, room, few))

pub stops_ended : (most : ℕ) (s t u : Symbolic) (end : RunEnd) → most ≤ most_steps → IsOnward most s t → t.steps < most → Steps t u (Ended end)
    → Advances most s u (EndedStop end)
stops_ended most s t u end few was room made =
    let less = left_after t u (Ended end) made (omega (arith, room, few)) in
    record {
      same = record {
        same_choices = made.same.same_choices ∙ was.same.same_choices;
        same_cover = λ input. made.same.same_cover input ∙ was.same.same_cover input;
      };
      sample = made.sample ∙ was.sample;
      less = omega (arith, less, was.less);
      stopped = λ p is. (ended_after p t u end made (was.opens p is), omega (arith, made.steps, room));
    }

onward-grown : (most : ℕ) (s t u : Symbolic) → IsOnward most s t → IsGrown t u → IsOnward most s u
onward-grown most s t u was grown =
    let steps = steps-grown t u grown in
    let left = ap left_to_do grown.same in
    record {
      same = record {
        same_choices = (same-grown t u grown).same_choices ∙ was.same.same_choices;
        same_cover = λ input. stands-grown t u input grown ∙ was.same.same_cover input;
      };
      sample = ap (λ (r : Symbolic). r.sample) grown.same ∙ was.sample;
      less = omega (arith, left, was.less);
      within = omega (arith, steps, was.within);
      knows = knows-grown t u grown was.knows;
      opens = λ p is. open-grown p t u grown (was.opens p is);
    }

underway : (p : Program) (most : ℕ) (s t u : Symbolic) → IsOnward most s t → t.steps < most → IsGrown t u → IsOpen p s → IsUnderway p most u
underway p most s t u was room grown is = record {
  is_open = open-grown p t u grown (was.opens p is);
  room = let steps = steps-grown t u grown in omega (arith, steps, room);
}

pub stops_branch : (most : ℕ) (s t u : Symbolic) (term : ℕ) → IsOnward most s t → t.steps < most → IsGrown t u → IsBranch u term
    → Advances most s u (BranchStop term)
stops_branch most s t u term was room grown at =
    let on = onward-grown most s t u was grown in
    record { same = on.same; sample = on.sample; less = on.less; stopped = λ p is. (underway p most s t u was room grown is, at) }

pub stops_pin : (most : ℕ) (s t u : Symbolic) (place term : ℕ) → IsOnward most s t → t.steps < most → IsGrown t u → IsPin u place term
    → Advances most s u (PinStop place term)
stops_pin most s t u place term was room grown at =
    let on = onward-grown most s t u was grown in
    record { same = on.same; sample = on.sample; less = on.less; stopped = λ p is. (underway p most s t u was room grown is, at) }

pub all_steps : (most : ℕ) (s t : Symbolic) → IsOnward most s t → most ≤ t.steps → Advances most s t StepsStop
all_steps most s t was spent = record {
  same = was.same;
  sample = was.sample;
  less = was.less;
  stopped = λ p is. (was.opens p is, omega (arith, spent, was.within));
}
