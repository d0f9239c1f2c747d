-- What stands at an address from which an instruction is fetched.
use Rattle.std.specs.Prelude.{◌≡◌, ℕ, true, false}
use Rattle.cow_pages.specs.SymbolicMemory.{SymbolicMemory, IsWordAt, memory_byte, memory_flags}
use Rattle.rv_spec.specs.Memory.{can_execute}
use Rattle.sym_state.specs.declared.code.Code.{Code}
use Rattle.sym_state.specs.declared.code.Code.TheVariants.{Closed, Word, Bytes}

abbrev pub IsCode : SymbolicMemory → (address : ℕ) → Code → Type 0
IsCode memory address Closed = can_execute (memory_flags memory) address ≡ false
IsCode memory address (Word word) = (can_execute (memory_flags memory) address ≡ true)
    × IsWordAt (memory_byte memory) address word
IsCode memory address Bytes = can_execute (memory_flags memory) address ≡ true
