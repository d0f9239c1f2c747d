-- What comes next on all assignments alike.
use Rattle.std.specs.Prelude.{◌≡◌, ◌%◌, ℕ, true, List, Result, Ok, Err, Some}
use Rattle.cow_pages.specs.SymbolicMemory.{memory_flags}
use Rattle.rv_decode.specs.Instructions.{ShiftsBelow32}
use Rattle.rv_decode.specs.declared.ends.Trap.{Trap}
use Rattle.rv_decode.specs.declared.instr.Instr.{Instr}
use Rattle.fork_spec.specs.Decisions.{instr_decisions, step_decisions}
use Rattle.rv_spec.specs.Machine.{State, fetch}
use Rattle.rv_spec.specs.Memory.{can_execute, word_at}
use Rattle.sym_state.specs.Symbolic.{Symbolic, concrete, stands_for}
use Rattle.sym_state.specs.Unfolded.{Unfolded}
use Rattle.sym_state.specs.Unfolding.{execute_of, next_unfolded}
use Rattle.sym_machine.specs.Steps.{AreUniform}
use Rattle.sym_machine.specs.Stops.{DecidesBy}

-- what the step decides where this comes next: of an instruction its word and what it needs
abbrev pub DecidesOnce : Symbolic → Result Instr Trap → Type 0
DecidesOnce s (Ok instr) = DecidesBy s instr × ShiftsBelow32 instr
DecidesOnce s (Err trap) = AreUniform s step_decisions

-- what the terms become where this comes next
abbrev pub unfolded_by : Unfolded → State → Result Instr Trap → Unfolded
unfolded_by u c (Ok instr) = execute_of u instr (instr_decisions c (Some instr))
unfolded_by u c (Err trap) = u

-- it is fetched on all assignments
pub record IsFetched (s : Symbolic) (fetched : Result Instr Trap) : Type 0 where
  pub is : (input : List ℕ) → stands_for s input ≡ true →
      fetch (concrete s input).flags (concrete s input).byte (concrete s input).pc ≡ fetched
  pub decides : DecidesOnce s fetched
  pub terms : (input : List ℕ) → stands_for s input ≡ true → (u : Unfolded) →
      next_unfolded u (step_decisions (concrete s input)) ≡ unfolded_by u (concrete s input) fetched

-- this word is fetched on all assignments
pub record IsNextWord (s : Symbolic) (word : ℕ) : Type 0 where
  pub aligned : s.pc % 4 ≡ 0
  pub can : can_execute (memory_flags s.memory) s.pc ≡ true
  pub is : (input : List ℕ) → stands_for s input ≡ true
      → word_at (concrete s input).byte s.pc ≡ word

abbrev pub IsFetchedWord : Symbolic → Result ℕ Trap → Type 0
IsFetchedWord s (Ok word) = IsNextWord s word
IsFetchedWord s (Err trap) = IsFetched s (Err trap)
