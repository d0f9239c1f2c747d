-- What an instruction makes of a symbolic run: what the machine makes of each of its states.
use Rattle.std.specs.Prelude.{◌≡◌, ℕ, ◌+◌, ◌≤◌, true, List, length, Some}
use Rattle.cow_pages.specs.SymbolicMemory.{memory_flags}
use Rattle.rv_decode.specs.declared.instr.Instr.{Instr}
use Rattle.fork_spec.specs.Decisions.{Decision, instr_decisions, step_decisions}
use Rattle.rv_spec.specs.Machine.{State, Outcome, next}
use Rattle.rv_spec.specs.Machine as machine
use Rattle.rv_spec.specs.Memory.{with_bytes}
use Rattle.term_trees.specs.Growth.{Continues}
use Rattle.sym_state.specs.Moves.{IsSame}
use Rattle.sym_state.specs.Runs.{run_end_on}
use Rattle.sym_state.specs.Symbolic.{Symbolic, IsFormed, concrete, nothing_known, stands_for}
use Rattle.sym_state.specs.Unfolded.{unfolded}
use Rattle.sym_state.specs.Unfolding.{execute_of, next_unfolded}
use Rattle.sym_machine.specs.declared.outcome.Step.{Step}
use Rattle.sym_machine.specs.declared.outcome.Step.TheVariants.{Running, Ended}

-- what the machine has come to on an assignment, where a symbolic run stands so
abbrev pub outcome_on : Symbolic → List ℕ → Step → Outcome
outcome_on s input Running = machine.Running (concrete s input)
outcome_on s input (Ended end) = machine.Ended (run_end_on s input end) (concrete s input)

-- What no instruction changes: the assignments, and where the run stands in the fork tree. Terms are
-- only added, and 4096 bytes at most are written.
pub record Keeps (old new : Symbolic) : Type 0 where
  pub continues : Continues old.terms new.terms
  pub condition : new.condition ≡ old.condition
  pub choices : new.choices ≡ old.choices
  pub steps : new.steps ≡ old.steps
  pub known : new.known ≡ old.known
  pub sample : new.sample ≡ old.sample
  pub few : length new.output ≤ length old.output + 4096

-- on each assignment the run has come to what this makes of its state
pub record Comes (old new : Symbolic) (step : Step) (makes : State → Outcome) : Type 0 where
  pub keeps : Keeps old new
  pub is : (input : List ℕ) → stands_for old input ≡ true
      → makes (concrete old input) ≡ outcome_on new input step

-- Bytes were put to memory from an address on, on each assignment these, and nothing else was done
-- but that terms were made.
pub record Puts (old new : Symbolic) (address : ℕ) (bytes : List ℕ → List ℕ) : Type 0 where
  pub before : IsFormed old
  pub same : new ≡ record old { memory = new.memory; terms = new.terms; updates = new.updates }
  pub continues : Continues old.terms new.terms
  pub formed : IsFormed new
  pub flags : (page : ℕ) → memory_flags new.memory page ≡ memory_flags old.memory page
  pub is : (input : List ℕ) → stands_for old input ≡ true →
      concrete new input
      ≡ record (concrete old input)
      { byte = with_bytes (concrete old input).byte address (bytes input) }

-- a list of decisions is the same on all assignments
pub record AreUniform (s : Symbolic) (decides : State → List Decision) : Type 0 where
  pub made : List Decision
  pub alike : (input : List ℕ) → stands_for s input ≡ true → decides (concrete s input) ≡ made

-- an instruction was carried out: all that it decides is alike, and its terms are those that it makes
pub record Carries (old new : Symbolic) (step : Step) (instr : Instr) : Type 0 where
  pub comes : Comes old new step (λ c. machine.execute c instr)
  pub alike : AreUniform old (λ c. instr_decisions c (Some instr))
  pub terms : (input : List ℕ) → stands_for old input ≡ true →
      unfolded new ≡ execute_of (unfolded old) instr
      (instr_decisions (concrete old input) (Some instr))

-- a step was made
pub record Steps (old new : Symbolic) (step : Step) : Type 0 where
  pub same : IsSame old new
  pub sample : new.sample ≡ old.sample
  pub inputs : new.terms.inputs ≡ old.terms.inputs
  pub steps : new.steps ≡ old.steps + 1
  pub known : new.known ≡ nothing_known
  pub few : length new.output ≤ length old.output + 4096
  pub is : (input : List ℕ) → stands_for old input ≡ true
      → next (concrete old input) ≡ outcome_on new input step
  pub alike : AreUniform old step_decisions
  pub terms : (input : List ℕ) → stands_for old input ≡ true →
      unfolded new ≡ next_unfolded (unfolded old) (step_decisions (concrete old input))
