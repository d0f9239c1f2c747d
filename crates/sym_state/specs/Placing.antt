-- The input bytes in memory.
use Rattle.std.specs.Prelude.{◌≡◌, ℕ, ◌+◌, ◌-◌, ◌<◌, ◌&&◌, nat_le, nat_lt, if◌then◌else◌, List, All}
use Rattle.bv_dag.specs.Graphs.{Graph}
use Rattle.cow_pages.specs.SymbolicMemory.{SymbolicMemory, memory_byte, memory_flags}
use Rattle.term_trees.specs.Growth.{Continues}
use Rattle.term_trees.specs.Trees.{Byte}
use Rattle.sym_state.specs.Expressions.{Expression, Unknown, byte_expression}
use Rattle.sym_state.specs.Values.{IsByte, byte_worth}

-- what the bytes of memory are worth on an assignment, by their addresses
abbrev pub bytes_worth : Graph → SymbolicMemory → List ℕ → ℕ → ℕ
bytes_worth terms memory input address = byte_worth terms input (memory_byte memory address)

-- the bytes of memory as expressions, by their addresses
abbrev pub bytes_expressed : Graph → SymbolicMemory → ℕ → Expression
bytes_expressed terms memory address = byte_expression terms (memory_byte memory address)

-- memory with so many input bytes from an address on, numbered from the first on
abbrev pub inputs_filled : (start count first : ℕ) → (ℕ → Expression) → ℕ → Expression
inputs_filled start count first byte x =
    if nat_le start x && nat_lt x (start + count) then Unknown (Byte (first + (x - start)))
    else byte x

-- each byte of memory is a number, or a term that is none
abbrev pub HasBytes : Graph → SymbolicMemory → Type 0
HasBytes terms memory = (address : ℕ) → IsByte terms (memory_byte memory address)

-- terms were made and put to mapped pages, and then memory is these expressions, and worth these bytes
-- on each assignment
pub record PutsBytes (old new : Graph) (before now : SymbolicMemory) (expressions : ℕ → Expression)
    (bytes : List ℕ → ℕ → ℕ) : Type 0 where
  pub continues : Continues old new
  pub flags : memory_flags now ≡ memory_flags before
  pub has_bytes : HasBytes new now
  pub expressed : bytes_expressed new now ≡ expressions
  pub worth : (input : List ℕ) → All (λ b. b < 256) input → bytes_worth new now input ≡ bytes input
