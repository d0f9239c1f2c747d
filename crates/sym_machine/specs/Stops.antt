-- Where an instruction stops before it has done anything: at the first of its decisions that is not
-- known, and that no number settles.
use Rattle.std.specs.Prelude.{◌≡◌, ℕ, true, List, ◌∷◌, Some}
use Rattle.rv_decode.specs.declared.instr.Instr.{Instr}
use Rattle.fork_spec.specs.Decisions.{Number as Needs, instr_decisions, step_decisions}
use Rattle.sym_state.specs.Moves.{IsGrown}
use Rattle.sym_state.specs.Symbolic.{Symbolic, concrete, stands_for}
use Rattle.sym_state.specs.Undecided.{IsBranch, IsPin}
use Rattle.sym_machine.specs.declared.halt.Halt.{Halt}
use Rattle.sym_machine.specs.declared.halt.Halt.TheVariants.{Side as SideHalt, Number as NumberHalt, NoMemory}

-- the step decides this instruction's word, and then what the instruction decides
pub record DecidesBy (s : Symbolic) (instr : Instr) : Type 0 where
  pub word : ℕ
  pub is : (input : List ℕ) → stands_for s input ≡ true →
      step_decisions (concrete s input)
      ≡ Needs word ∷ instr_decisions (concrete s input) (Some instr)

-- why the step stops
abbrev pub StopsAt : Symbolic → Halt → Type 0
StopsAt s (SideHalt term) = IsBranch s term
StopsAt s (NumberHalt place term) = IsPin s place term
StopsAt s NoMemory = Unit {0}

-- nothing was done but that terms were made; after want of memory nothing is said
abbrev pub Stops : Symbolic → Symbolic → Halt → Type 0
Stops old new (SideHalt term) = IsGrown old new × IsBranch new term
Stops old new (NumberHalt place term) = IsGrown old new × IsPin new place term
Stops old new NoMemory = Unit {0}
