-- What a run decides, step by step: the numbers on which it depends where memory or registers may hold more than one, and the sides of
-- its conditional branches. Two runs that decide alike go the same way.
use Rattle.std.specs.Prelude.{ℕ, zero, suc, ◌/◌, ◌%◌, ◌==◌, ◌||◌, Bool, true, false, if◌then◌else◌, List, [], ◌∷◌, ◌++◌, Option, Some, None}
use Rattle.elf_load.specs.Images.{Image}
use Rattle.elf_load.specs.declared.region.Region.{Region}
use Rattle.rv_decode.specs.Instructions.{instr}
use Rattle.rv_decode.specs.declared.instr.Instr.{Instr}
use Rattle.rv_decode.specs.declared.instr.Instr.TheVariants.{Jalr, Branch, Load, Store, Ecall}
use Rattle.rv_decode.specs.declared.ends.End.{End}
use Rattle.rv_decode.specs.declared.ops.LoadWidth.{LoadWidth}
use Rattle.rv_decode.specs.declared.ops.LoadWidth.TheVariants.{Lb, Lh, Lw, Lbu, Lhu}
use Rattle.rv_decode.specs.declared.ops.StoreWidth.{StoreWidth}
use Rattle.rv_decode.specs.declared.ops.StoreWidth.TheVariants.{Sb, Sh, Sw}
use Rattle.rv_spec.specs.Arithmetic.{sum32, passes}
use Rattle.rv_spec.specs.Memory.{can_execute, word_at}
use Rattle.rv_spec.specs.Machine.{State, x, even, first_state, is_load_aligned}
use Rattle.rv_spec.specs.Runs.{Run, run_from}

pub data Decision : Type 0 where
  -- a conditional branch is taken, or not
  Side : Bool → Decision
  -- a number that the step needs
  Number : ℕ → Decision

-- a write needs its file, and where that is one, its start and its length
abbrev pub write_decisions : State → List Decision
write_decisions s =
    if x s 10 == 1 || x s 10 == 2 then Number (x s 10) ∷ Number (x s 11) ∷ Number (x s 12) ∷ []
    else Number (x s 10) ∷ []

-- a call needs its number, and then what a write needs
abbrev pub call_decisions : State → List Decision
call_decisions s = Number (x s 17) ∷ (if x s 17 == 64 then write_decisions s else [])

-- an access that may be misaligned needs to know whether it is, 1 or 0, and its page only where it isn't
abbrev pub aligned_decisions : Bool → (page : ℕ) → List Decision
aligned_decisions true page = Number 0 ∷ Number page ∷ []
aligned_decisions false page = Number 1 ∷ []

-- a load needs the page that it loads from, but not the place in it
abbrev pub load_decisions : LoadWidth → (address : ℕ) → List Decision
load_decisions Lb address = Number (address / 256) ∷ []
load_decisions Lh address = aligned_decisions (is_load_aligned Lh address) (address / 256)
load_decisions Lw address = aligned_decisions (is_load_aligned Lw address) (address / 256)
load_decisions Lbu address = Number (address / 256) ∷ []
load_decisions Lhu address = aligned_decisions (is_load_aligned Lhu address) (address / 256)

-- the load of as many bytes
abbrev pub as_load : StoreWidth → LoadWidth
as_load Sb = Lbu
as_load Sh = Lhu
as_load Sw = Lw

-- a store needs what a load of as many bytes does
abbrev pub store_decisions : StoreWidth → (address : ℕ) → List Decision
store_decisions width address = load_decisions (as_load width) address

-- what an instruction decides beside its own word
abbrev pub instr_decisions : State → Option Instr → List Decision
instr_decisions s (Some (Jalr rd rs1 offset)) = Number (even (sum32 (x s rs1) offset)) ∷ []
instr_decisions s (Some (Branch test rs1 rs2 offset)) = Side (passes test (x s rs1) (x s rs2)) ∷ []
instr_decisions s (Some (Load width rd rs1 offset)) =
    load_decisions width (sum32 (x s rs1) offset)
instr_decisions s (Some (Store width rs1 rs2 offset)) =
    store_decisions width (sum32 (x s rs1) offset)
instr_decisions s (Some Ecall) = call_decisions s
instr_decisions s _ = []

abbrev pub word_decisions : State → ℕ → List Decision
word_decisions s word = Number word ∷ instr_decisions s (instr word)

-- what a step decides: nothing where no word is fetched
unfoldable pub step_decisions : State → List Decision
step_decisions s = if s.pc % 4 == 0
    then (if can_execute s.flags s.pc then word_decisions s (word_at s.byte s.pc) else []) else []

abbrev pub run_decisions : Run → Option End → List Decision
run_decisions r None = step_decisions r.state
run_decisions r (Some end) = []

-- what a run decides in at most so many steps
unfoldable pub decisions_from : State → ℕ → List Decision
decisions_from s zero = []
decisions_from s (suc most) = let r = run_from s most
    in decisions_from s most ++ run_decisions r r.end

abbrev pub decisions : Image → List Region → List ℕ → ℕ → List Decision
decisions image regions input most = decisions_from (first_state image regions input) most
