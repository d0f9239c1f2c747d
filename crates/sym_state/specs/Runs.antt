-- When a symbolic run is one of a program: the machine's run of each assignment that it stands for is
-- where it is, and all of them have decided alike.
use Rattle.std.specs.Prelude.{◌≡◌, ℕ, ◌+◌, ◌-◌, ◌*◌, ◌%◌, ◌≤◌, true, List, [], length, map, count_by, None, Some, is_none}
use Rattle.fork_spec.specs.Decisions.{Decision, decisions}
use Rattle.rv_decode.specs.declared.ends.End.{End}
use Rattle.rv_decode.specs.declared.ends.End.TheVariants.{Exit, Trapped}
use Rattle.rv_spec.specs.Machine.{first_state}
use Rattle.rv_spec.specs.Memory.{IsAssignment, count_of}
use Rattle.rv_spec.specs.Runs.{IsRunOf, run}
use Rattle.sym_state.specs.Programs.{Program}
use Rattle.sym_state.specs.Unfolded.{first_unfolded, unfolded}
use Rattle.sym_state.specs.Unfolding.{unfolded_run}
use Rattle.sym_state.specs.Symbolic.{Symbolic, KnowsTruth, concrete, most_steps, nothing_known, stands_for, value_at}
use Rattle.sym_state.specs.Values.{byte_worth, worth_of}
use Rattle.sym_state.specs.declared.ended.RunEnd.{RunEnd}
use Rattle.sym_state.specs.declared.ended.RunEnd.TheVariants.{Exits, Traps}

-- all assignments that it stands for have made the same decisions in the steps made
pub record DecidedAlike (p : Program) (s : Symbolic) : Type 0 where
  pub made : List Decision
  pub alike : (input : List ℕ) → stands_for s input ≡ true
      → decisions p.image p.regions input s.steps ≡ made

-- its sample is one of its assignments
abbrev pub IsSampled : Symbolic → Type 0
IsSampled s = stands_for s s.sample ≡ true

-- its terms are those of a program's run, whichever of its assignments that is of
abbrev pub AreTermsOf : Program → Symbolic → Type 0
AreTermsOf p s = (input : List ℕ) → stands_for s input ≡ true
    → unfolded s ≡ unfolded_run p.image p.regions input s.steps

-- the runs of a program have made these steps and are where it is
pub record IsOpen (p : Program) (s : Symbolic) : Type 0 where
  pub inputs : s.terms.inputs ≡ count_of p.regions
  pub knows : KnowsTruth s
  -- a step writes 4096 bytes at most
  pub few_outputs : length s.output ≤ 4096 * s.steps
  pub sound : (input : List ℕ) → stands_for s input ≡ true →
      run p.image p.regions input s.steps
      ≡ record { state = concrete s input; end = None; steps = s.steps }
  pub alike : DecidedAlike p s
  pub terms : AreTermsOf p s

-- how a run ends on an assignment
abbrev pub run_end_on : Symbolic → List ℕ → RunEnd → End
run_end_on s input Exits = Exit (worth_of s.terms input (value_at s.registers 10) % 256)
run_end_on s input (Traps trap) = Trapped trap

-- all its runs have ended so, in the step made last
pub record IsEnded (p : Program) (s : Symbolic) (end : RunEnd) : Type 0 where
  pub inputs : s.terms.inputs ≡ count_of p.regions
  pub few_outputs : length s.output ≤ 4096 * s.steps
  pub ends : (input : List ℕ) → stands_for s input ≡ true →
      IsRunOf (run p.image p.regions input s.steps) s.steps s.path (Some (run_end_on s input end))
      (map (byte_worth s.terms input) s.output)
  pub alike : DecidedAlike p s
  pub terms : AreTermsOf p s

-- it is before its first step, and stands for every assignment
pub record IsFirst (p : Program) (s : Symbolic) : Type 0 where
  pub steps : s.steps ≡ 0
  pub choices : s.choices ≡ []
  pub condition : s.condition ≡ []
  pub inputs : s.terms.inputs ≡ count_of p.regions
  pub known : s.known ≡ nothing_known
  pub state : (input : List ℕ) → IsAssignment p.regions input
      → concrete s input ≡ first_state p.image p.regions input
  pub terms : unfolded s ≡ first_unfolded p.image p.regions

-- how far a run may still go: each step, and each decision that gets known, makes it less
abbrev pub left_to_do : Symbolic → ℕ
left_to_do s = 6 * (most_steps - s.steps) + count_by is_none s.known
