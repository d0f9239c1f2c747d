-- A symbolic run: one state of the machine for each assignment that it stands for.
use Rattle.std.specs.Prelude.{◌≡◌, ℕ, ◌<◌, ◌≤◌, ◌^◌, ◌&&◌, ◌==◌, Bool, true, List, All, length, map, replicate, slice_get, slice_index_or, slice_set, Option, None, Some, if◌then◌else◌}
use Rattle.bv_dag.specs.Graphs.{Graph}
use Rattle.bv_dag.specs.Queries.{Condition, AreBits, holds}
use Rattle.cow_pages.specs.SymbolicMemory.{SymbolicMemory, memory_byte, memory_flags}
use Rattle.cow_pages.specs.declared.byte.Byte.{Byte}
use Rattle.rv_decode.specs.declared.ends.PathStep.{PathStep}
use Rattle.fork_spec.specs.Decisions.{Decision, Side, Number as Needs, step_decisions}
use Rattle.rv_spec.specs.Machine.{State}
use Rattle.tree_core.specs.declared.choice.Choice.{Choice}
use Rattle.fork_spec.specs.Leaves.{IsSmallStep, are_bytes}
use Rattle.tree_core.specs.Choices.{IsSmallChoice}
use Rattle.sym_state.specs.KeptUpdates.{AreUpdates, KeptUpdates}
use Rattle.sym_state.specs.Values.{IsByte, IsWide, byte_worth, worth_of}
use Rattle.sym_state.specs.declared.decided.Decided.{Decided}
use Rattle.sym_state.specs.declared.decided.Decided.TheVariants.{Side as KnownSide, Number as KnownNumber}
use Rattle.sym_state.specs.declared.value.Value.{Value}
use Rattle.sym_state.specs.declared.value.Value.TheVariants.{Number}

pub record Symbolic : Type 0 where
  pub pc : ℕ
  -- x0 to x31
  pub registers : List Value
  pub memory : SymbolicMemory
  pub terms : Graph
  -- the terms of one bit that are to be 1
  pub condition : List ℕ
  -- the bytes written so far
  pub output : List Byte
  pub path : List PathStep
  -- the sides taken at the forks so far
  pub choices : List Choice
  pub steps : ℕ
  -- what is known of the decisions of the step that comes next, by their places
  pub known : List (Option Decided)
  -- an assignment that meets the condition
  pub sample : List ℕ
  -- the last stores by terms
  pub updates : List KeptUpdates

-- the most steps that a budget may allow
abbrev pub most_steps : ℕ
most_steps = 1000000

-- the most decisions of one step: a write needs its word, its number, its file, its start, its length
abbrev pub most_decisions : ℕ
most_decisions = 5

abbrev pub value_at : List Value → ℕ → Value
value_at registers r = slice_index_or registers r (Number 0)

-- x0 is never written
abbrev pub set_value : List Value → ℕ → Value → List Value
set_value registers rd value = if rd == 0 then registers else slice_set registers rd value

-- the condition, as a query
abbrev pub condition_of : Symbolic → Condition
condition_of s = record { graph = s.terms; asserted = s.condition }

-- it stands for each list of bytes that meets its condition
abbrev pub stands_for : Symbolic → List ℕ → Bool
stands_for s input = are_bytes input && holds (condition_of s) input

-- the state of the machine that it is on an assignment
abbrev pub concrete : Symbolic → List ℕ → State
concrete s input = record {
  pc = s.pc;
  registers = map (worth_of s.terms input) s.registers;
  flags = memory_flags s.memory;
  byte = λ address. byte_worth s.terms input (memory_byte s.memory address);
  output = map (byte_worth s.terms input) s.output;
  path = s.path;
}

-- ---- What is known of the step that comes next.
abbrev pub decision_of : Decided → Decision
decision_of (KnownSide side) = Side side
decision_of (KnownNumber n) = Needs n

abbrev pub nothing_known : List (Option Decided)
nothing_known = replicate most_decisions None

abbrev pub known_at : Symbolic → ℕ → Option Decided
known_at s place = slice_index_or s.known place None

-- this decision stands at this place of the step's decisions, on all assignments
abbrev pub IsTrulyKnown : Symbolic → ℕ → Option Decided → Type 0
IsTrulyKnown s place None = Unit {0}
IsTrulyKnown s place (Some d) = (input : List ℕ) → stands_for s input ≡ true →
    slice_get (step_decisions (concrete s input)) place ≡ Some (decision_of d)

-- all that is known is true
abbrev pub KnowsTruth : Symbolic → Type 0
KnowsTruth s = (place : ℕ) → IsTrulyKnown s place (known_at s place)

-- ---- What every symbolic run keeps: its terms fit and are as wide as they have to be, and its
-- numbers have their bounds.
pub record IsFormed (s : Symbolic) : Type 0 where
  pub all_registers : length s.registers ≡ 32
  pub wide : All (IsWide s.terms) s.registers
  pub zero : value_at s.registers 0 ≡ Number 0
  pub memory : (address : ℕ) → IsByte s.terms (memory_byte s.memory address)
  pub bits : AreBits s.terms s.condition
  pub bytes : All (IsByte s.terms) s.output
  pub in_memory : s.pc < 2 ^ 32
  pub choices : All IsSmallChoice s.choices
  pub path : All IsSmallStep s.path
  pub few_steps : s.steps ≤ most_steps
  pub places : length s.known ≡ most_decisions
  pub each_input : length s.sample ≡ s.terms.inputs
  pub sample_bytes : All (λ b. b < 256) s.sample
  pub updates : All (AreUpdates s.terms s.memory) s.updates
