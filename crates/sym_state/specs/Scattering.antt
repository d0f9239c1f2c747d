-- What is stored to an address that is a term, on each assignment.
use Rattle.std.specs.Prelude.{◌≡◌, ℕ, ◌+◌, ◌*◌, ◌/◌, ◌%◌, ◌^◌, ◌==◌, ◌<◌, true, List, All, length, get_or, if◌then◌else◌}
use Rattle.bv_dag.specs.Graphs.{Graph, number_of, width_of}
use Rattle.cow_pages.specs.SymbolicMemory.{SymbolicMemory, memory_flags}
use Rattle.cow_pages.specs.declared.byte.Byte.{Byte}
use Rattle.cow_pages.specs.declared.byte.Byte.TheVariants.{Number as ByteNumber}
use Rattle.fork_spec.specs.Decisions.{as_load}
use Rattle.rv_decode.specs.declared.ops.LoadWidth.{LoadWidth}
use Rattle.rv_decode.specs.declared.ops.StoreWidth.{StoreWidth}
use Rattle.rv_spec.specs.Machine as machine
use Rattle.rv_spec.specs.Memory.{with_bytes}
use Rattle.term_trees.specs.Growth.{Continues}
use Rattle.term_trees.specs.Trees.{tree_of}
use Rattle.sym_state.specs.Expressions.{Expression, Unknown, byte_expression, register_byte, value_expression}
use Rattle.sym_state.specs.KeptUpdates.{updates_expressed}
use Rattle.sym_state.specs.Loading.{bytes, is_place}
use Rattle.sym_state.specs.Placing.{PutsBytes, bytes_expressed, bytes_worth}
use Rattle.sym_state.specs.Selecting.{as_way}
use Rattle.sym_state.specs.Storing.{byte_after, replaced, stored_on, way_bits}
use Rattle.sym_state.specs.Symbolic.{Symbolic, IsFormed}
use Rattle.sym_state.specs.Updates.{updates_after}
use Rattle.sym_state.specs.Values.{IsByte, byte_worth, worth_of}
use Rattle.sym_state.specs.declared.value.Value.{Value}
use Rattle.sym_state.specs.declared.ways.Way as code

-- the byte at a place of a list
abbrev pub listed_byte : List Byte → (at : ℕ) → Byte
listed_byte bytes at = get_or bytes at (ByteNumber 0)

-- so many bytes of a value were made, the lowest first
pub record MakesBytes (old new : Graph) (value : Value) (count : ℕ) (made : List Byte) : Type 0 where
  pub continues : Continues old new
  pub many : length made ≡ count
  pub are_bytes : (at : ℕ) → at < count → IsByte new (listed_byte made at)
  pub worth : (at : ℕ) → at < count → (input : List ℕ) → All (λ b. b < 256) input
      → byte_worth new input (listed_byte made at) ≡ worth_of old input value / 2 ^ (8 * at) % 2 ^ 8
  pub expression : (at : ℕ) → at < count
      → byte_expression new (listed_byte made at) ≡ register_byte at (value_expression old value)

-- the bytes that are stored are there, as many as that
pub record AreBytesFor (terms : Graph) (width : LoadWidth) (stored : List Byte) : Type 0 where
  pub many : length stored ≡ bytes width
  pub are_bytes : (at : ℕ) → at < bytes width → IsByte terms (listed_byte stored at)

-- where a way comes to on an assignment
abbrev pub come_to : Graph → code.Way → List ℕ → ℕ
come_to terms way input =
    way.start + number_of terms way.term input / 2 ^ way.first % 2 ^ way.count * 2 ^ way.scale

-- a term is the bits by which a way leads on
pub record AreWayBits (terms : Graph) (way : code.Way) (bits : ℕ) : Type 0 where
  pub there : 0 < width_of terms way.term
  pub width : width_of terms bits ≡ way.count
  pub some : 0 < way.count
  pub tree : tree_of terms bits ≡ way_bits (as_way terms way)
  pub worth : (input : List ℕ) → All (λ b. b < 256) input
      → number_of terms bits input
      ≡ number_of terms way.term input / 2 ^ way.first % 2 ^ way.count

-- a byte of memory after a store, on an assignment
abbrev pub worth_after : Graph → SymbolicMemory → LoadWidth → code.Way → List Byte → List ℕ
    → (address : ℕ) → ℕ
worth_after terms memory width way stored input address =
    if address / bytes width * bytes width == come_to terms way input
    then byte_worth terms input (listed_byte stored (address % bytes width))
    else bytes_worth terms memory input address

abbrev pub expressed_after : Graph → SymbolicMemory → LoadWidth → code.Way → List Byte
    → (address : ℕ) → Expression
expressed_after terms memory width way stored =
    byte_after (bytes_expressed terms memory) width (as_way terms way)
    (λ at. byte_expression terms (listed_byte stored at))

-- so many bytes of a page are as they are after the store, and the others as they were
abbrev pub Scatters : (old new : Graph) → (before now : SymbolicMemory) → LoadWidth → (page : ℕ)
    → code.Way → List Byte → (count : ℕ) → Type 0
Scatters old new before now width page way stored count =
    PutsBytes old new before now
    (replaced (256 * page) count (expressed_after old before width way stored)
    (bytes_expressed old before))
    (λ input. replaced (256 * page) count (worth_after old before width way stored input)
    (bytes_worth old before input))

-- A value was stored to the address that a term is, where that stands on this page and isn't
-- misaligned. Nothing else was done but that terms were made.
pub record MakesStored (old new : Symbolic) (width : StoreWidth) (page term : ℕ) (value : Value) : Type 0 where
  pub before : IsFormed old
  pub same : new ≡ record old { memory = new.memory; terms = new.terms; updates = new.updates }
  pub continues : Continues old.terms new.terms
  pub formed : IsFormed new
  pub flags : memory_flags new.memory ≡ memory_flags old.memory
  pub worth : (input : List ℕ) → All (λ b. b < 256) input
      → is_place (as_load width) page (number_of old.terms term input) ≡ true
      → bytes_worth new.terms new.memory input
      ≡ with_bytes (bytes_worth old.terms old.memory input) (number_of old.terms term input)
      (machine.stored width (worth_of old.terms input value))
  pub expressed : bytes_expressed new.terms new.memory
      ≡ stored_on width (bytes_expressed old.terms old.memory) page (Unknown (tree_of old.terms term))
      (value_expression old.terms value)
  pub updates : updates_expressed new.terms new.updates
      ≡ updates_after width (bytes_expressed old.terms old.memory)
      (updates_expressed old.terms old.updates) page (Unknown (tree_of old.terms term))
      (value_expression old.terms value)
