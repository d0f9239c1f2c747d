-- A step: what comes next is fetched and carried out, and the step is counted.
use Rattle.std.proofs.Common.{◌≡◌, ℕ, ◌+◌, ◌&&◌, true, List, ◌∷◌, refl, sym, ap, ◌∙◌}
use Rattle.std.specs.Prelude.{Some, Result, Ok, Err}
use Rattle.bv_dag.specs.Queries.{holds}
use Rattle.fork_spec.specs.Leaves.{are_bytes}
use Rattle.rv_decode.specs.declared.ends.Trap.{Trap}
use Rattle.rv_decode.specs.declared.instr.Instr.{Instr}
use Rattle.fork_spec.specs.Decisions.{Number as Needs, instr_decisions, step_decisions}
use Rattle.rv_spec.specs.Machine.{State, execute_fetched, fetch, next}
use Rattle.sym_state.specs.Moves.{IsGrown, counted}
use Rattle.sym_state.specs.Symbolic.{Symbolic, IsFormed, concrete, stands_for}
use Rattle.sym_state.specs.Unfolded.{unfolded}
use Rattle.sym_state.specs.Unfolding.{execute_of}
use Rattle.sym_state.proofs.Grown.{concrete-grown, holds-grown, unfolded-grown, still_stands}
use Rattle.sym_machine.specs.Fetching.{IsFetched, unfolded_by}
use Rattle.sym_machine.specs.Steps.{AreUniform, Carries, Comes, Keeps, Steps, outcome_on}
use Rattle.sym_machine.specs.Stops.{DecidesBy}
use Rattle.sym_state.specs.declared.ended.RunEnd.{RunEnd}
use Rattle.sym_state.specs.declared.ended.RunEnd.TheVariants.{Exits, Traps}
use Rattle.sym_machine.specs.declared.outcome.Step.{Step}
use Rattle.sym_machine.specs.declared.outcome.Step.TheVariants.{Running, Ended}
use Rattle.sym_machine.proofs.Standing.{Keeps-made, Keeps-refl}

-- what an instruction leads to stands for the same assignments
pub stands-kept : (s u : Symbolic) (input : List ℕ) → IsFormed s → Keeps s u → stands_for u input ≡ stands_for s input
stands-kept s u input formed keeps =
    ap (λ b. are_bytes input && b)
    (ap (λ ids. holds (record { graph = u.terms; asserted = ids }) input) keeps.condition
    ∙ holds-grown s.terms u.terms s.condition input keeps.continues formed.bits)

next_is : (c : State) (fetched : Result Instr Trap) → fetch c.flags c.byte c.pc ≡ fetched → next c ≡ execute_fetched c fetched
unfolding next
next_is c fetched is = ap (execute_fetched c) is

ended-counted : (u : Symbolic) (input : List ℕ) (end : RunEnd)
    → outcome_on u input (Ended end) ≡ outcome_on (counted u) input (Ended end)
ended-counted u input Exits = refl
ended-counted u input (Traps trap) = refl

outcome-counted : (u : Symbolic) (input : List ℕ) (step : Step) → outcome_on u input step ≡ outcome_on (counted u) input step
outcome-counted u input Running = refl
outcome-counted u input (Ended end) = ended-counted u input end

counts : (s t u : Symbolic) (step : Step) (fetched : Result Instr Trap) → IsGrown s t → IsFetched s fetched
    → Comes t u step (λ c. execute_fetched c fetched) → AreUniform s step_decisions
    → ((input : List ℕ) → stands_for s input ≡ true → unfolded u ≡ unfolded_by (unfolded s) (concrete s input) fetched) → Steps s (counted u) step
counts s t u step fetched grown is comes alike terms =
    let keeps = Keeps-made s t u grown comes.keeps in
    record {
      same = record {
        same_choices = keeps.choices;
        same_cover = λ input. stands-kept s u input grown.before keeps;
      };
      sample = keeps.sample;
      inputs = keeps.continues.inputs;
      steps = ap (λ n. n + 1) keeps.steps;
      known = refl;
      few = keeps.few;
      is = λ input stands.
          next_is (concrete s input) fetched (is.is input stands)
          ∙ ap (λ c. execute_fetched c fetched) (sym (concrete-grown s t input grown))
          ∙ comes.is input (still_stands s t input grown stands)
          ∙ outcome-counted u input step;
      alike = alike;
      terms = λ input stands. terms input stands ∙ sym (is.terms input stands (unfolded s));
    }

-- nothing was fetched
pub counts_trap : (s t : Symbolic) (trap : Trap) → IsGrown s t → IsFetched s (Err trap) → Steps s (counted t) (Ended (Traps trap))
counts_trap s t trap grown is =
    counts s t t (Ended (Traps trap)) (Err trap) grown is (record { keeps = Keeps-refl t; is = λ input stands. refl }) is.decides
    (λ input stands. unfolded-grown s t grown)

-- an instruction was fetched and carried out
pub counts_instr : (s t u : Symbolic) (step : Step) (instr : Instr) → IsGrown s t → IsFetched s (Ok instr)
    → Carries t u step instr → Steps s (counted u) step
counts_instr s t u step instr grown is carries =
    let decides : DecidesBy s instr = is.decides.0 in
    counts s t u step (Ok instr) grown is carries.comes (record {
      made = Needs decides.word ∷ carries.alike.made;
      alike = λ input stands.
          decides.is input stands
          ∙ ap (λ ds. Needs decides.word ∷ ds)
          (ap (λ c. instr_decisions c (Some instr)) (sym (concrete-grown s t input grown))
          ∙ carries.alike.alike input (still_stands s t input grown stands));
    })
    (λ input stands.
    carries.terms input (still_stands s t input grown stands)
    ∙ ap (λ x. execute_of x instr (instr_decisions (concrete t input) (Some instr))) (unfolded-grown s t grown)
    ∙ ap (λ c. execute_of (unfolded s) instr (instr_decisions c (Some instr))) (concrete-grown s t input grown))
