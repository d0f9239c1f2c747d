-- What is loaded from an address that is a term, on each assignment.
use Rattle.std.specs.Prelude.{◌≡◌, ℕ, zero, suc, ◌+◌, ◌*◌, ◌/◌, ◌%◌, ◌^◌, ◌==◌, ◌≤◌, ◌<◌, Bool, true, false, List, [], ◌∷◌, ◌++◌, All, IfSome, length, map, if◌then◌else◌, Option, Some, None}
use Rattle.std.specs.Option.{option_map}
use Rattle.bv_dag.specs.Graphs.{Graph, number_of, width_of}
use Rattle.cow_pages.specs.SymbolicMemory.{SymbolicMemory, memory_byte}
use Rattle.cow_pages.specs.declared.byte.Byte.{Byte}
use Rattle.rv_decode.specs.declared.ops.LoadWidth.{LoadWidth}
use Rattle.rv_spec.specs.Arithmetic.{sum32}
use Rattle.rv_spec.specs.Machine as machine
use Rattle.term_trees.specs.Growth.{Continues}
use Rattle.term_trees.specs.Trees.{tree_of}
use Rattle.sym_state.specs.Expressions.{Expression, Unknown, bit_expression, byte_expression, value_expression}
use Rattle.sym_state.specs.Indexing.{index_of}
use Rattle.sym_state.specs.KeptUpdates.{updates_expressed}
use Rattle.sym_state.specs.Loading.{Way, bits_of, byte_behind, chosen, is_place, or_zero, selected, way_by}
use Rattle.sym_state.specs.Moves.{IsGrown}
use Rattle.sym_state.specs.Placing.{bytes_expressed, bytes_worth}
use Rattle.sym_state.specs.Symbolic.{Symbolic}
use Rattle.sym_state.specs.Updates.{loaded_on}
use Rattle.sym_state.specs.Values.{IsBit, IsByte, IsWide, bit_worth, byte_worth, worth_of}
use Rattle.sym_state.specs.declared.selecting.Place.{Place}
use Rattle.sym_state.specs.declared.ways.Way as code
use Rattle.sym_state.specs.declared.value.Bit.{Bit}
use Rattle.sym_state.specs.declared.value.Value.{Value}

-- the byte that is so far behind an address, where a load may take it from there
abbrev pub byte_at : SymbolicMemory → Place → (by address : ℕ) → Option Byte
byte_at memory place by address =
    if is_place place.width place.page address then Some (memory_byte memory (address + by)) else None

-- where bits lead on an assignment
abbrev pub reached : Graph → List ℕ → (scale : ℕ) → List Bit → (start : ℕ) → ℕ
reached terms input scale [] start = start
reached terms input scale (bit ∷ bits) start =
    reached terms input scale bits
    (if bit_worth terms input bit then sum32 start (2 ^ (scale + length bits)) else start)

-- so many bits of a number from one on, the highest first
abbrev pub number_bits : (first count n : ℕ) → List Bool
number_bits first zero n = []
number_bits first (suc k) n = (n / 2 ^ (first + k) % 2 == 1) ∷ number_bits first k n

-- bits are terms of a graph, or numbers
abbrev pub AreBitsOf : Graph → List Bit → Type 0
AreBitsOf terms bits = All (IsBit terms) bits

-- so many bits of a term were put behind others, the highest first
pub record PushesBits (old new : Graph) (before after : List Bit) (term first count : ℕ) : Type 0 where
  pub made : List Bit
  pub behind : after ≡ before ++ made
  pub are_bits : AreBitsOf new made
  pub number : length made ≡ count
  pub worth : (input : List ℕ) → All (λ b. b < 256) input
      → map (bit_worth new input) made ≡ number_bits first count (number_of old term input)
  pub expression : map (bit_expression new) made ≡ bits_of first count (tree_of old term)

-- of two bytes, the one that a bit chooses; of one that one
pub record IsEither (old new : Graph) (bit : ℕ) (first second found : Option Byte) : Type 0 where
  pub continues : Continues old new
  pub is_byte : IfSome found (IsByte new)
  pub further : (input : List ℕ) → All (λ b. b < 256) input → number_of old bit input ≡ 1
      → IfSome first (λ byte. option_map (byte_worth new input) found
      ≡ Some (byte_worth old input byte))
  pub nearer : (input : List ℕ) → All (λ b. b < 256) input → (number_of old bit input == 1) ≡ false
      → IfSome second (λ byte. option_map (byte_worth new input) found
      ≡ Some (byte_worth old input byte))
  pub expression : option_map (byte_expression new) found
      ≡ chosen (Unknown (tree_of old bit)) (option_map (byte_expression old) first)
      (option_map (byte_expression old) second)

-- so far behind where bits lead stands this byte, if a load may take it from there
pub record Selects (old new : Graph) (memory : SymbolicMemory) (place : Place) (by : ℕ)
    (bits : List Bit) (start : ℕ) (found : Option Byte) : Type 0 where
  pub continues : Continues old new
  pub is_byte : IfSome found (IsByte new)
  pub worth : (input : List ℕ) → All (λ b. b < 256) input
      → is_place place.width place.page (reached old input place.scale bits start) ≡ true
      → option_map (byte_worth new input) found
      ≡ Some (bytes_worth old memory input (reached old input place.scale bits start + by))
  pub expression : option_map (byte_expression new) found
      ≡ selected place.scale (byte_behind (bytes_expressed old memory) place.width place.page by)
      (map (bit_expression old) bits) start

-- where bits lead from a place's start on
abbrev pub led : Graph → Place → List Bit → List ℕ → ℕ
led terms place bits input = reached terms input place.scale bits place.start

-- the byte so far behind, as an expression
abbrev pub led_byte : Graph → SymbolicMemory → Place → List Bit → (by : ℕ) → Expression
led_byte terms memory place bits by =
    or_zero (selected place.scale (byte_behind (bytes_expressed terms memory) place.width place.page by)
    (map (bit_expression terms) bits) place.start)

-- so far behind where bits lead stands this byte, if a load may take it from there
pub record TakesByte (old new : Graph) (memory : SymbolicMemory) (place : Place) (by : ℕ)
    (bits : List Bit) (byte : Byte) : Type 0 where
  pub continues : Continues old new
  pub is_byte : IsByte new byte
  pub worth : (input : List ℕ) → All (λ b. b < 256) input
      → is_place place.width place.page (led old place bits input) ≡ true
      → byte_worth new input byte ≡ bytes_worth old memory input (led old place bits input + by)
  pub expression : byte_expression new byte ≡ led_byte old memory place bits by

-- from where bits lead a value is made of the bytes there, if a load may take them
pub record Loads (old new : Graph) (memory : SymbolicMemory) (place : Place) (bits : List Bit)
    (number : (ℕ → ℕ) → ℕ → ℕ) (made : (ℕ → Expression) → ℕ → Expression) (value : Value) :
    Type 0 where
  pub continues : Continues old new
  pub wide : IsWide new value
  pub worth : (input : List ℕ) → All (λ b. b < 256) input
      → is_place place.width place.page (led old place bits input) ≡ true
      → worth_of new input value ≡ number (bytes_worth old memory input) (led old place bits input)
  pub expression : value_expression new value ≡ made (led_byte old memory place bits) 0

-- with terms made for it, a value is what a load takes from the address that a term is, where that
-- stands on this page and isn't misaligned
pub record MakesLoaded (old new : Symbolic) (width : LoadWidth) (page term : ℕ) (value : Value) :
    Type 0 where
  pub grown : IsGrown old new
  pub wide : IsWide new.terms value
  pub worth : (input : List ℕ) → All (λ b. b < 256) input
      → is_place width page (number_of old.terms term input) ≡ true
      → worth_of new.terms input value
      ≡ machine.loaded width (bytes_worth old.terms old.memory input)
      (number_of old.terms term input)
  pub expression : value_expression new.terms value
      ≡ loaded_on width (bytes_expressed old.terms old.memory)
      (updates_expressed old.terms old.updates) page (Unknown (tree_of old.terms term))

-- ---- The way to the address that a term is, as the code finds it.
abbrev pub as_way : Graph → code.Way → Way
as_way terms way = record {
  term = tree_of terms way.term;
  first = way.first;
  count = way.count;
  scale = way.scale;
  start = way.start;
}

pub record IsWay (terms : Graph) (width : LoadWidth) (page term : ℕ) (way : code.Way) : Type 0 where
  pub is : as_way terms way ≡ way_by (index_of (tree_of terms term)) width page (tree_of terms term)
  pub some : 0 < way.count
  pub within : way.first + way.count ≤ width_of terms way.term
  pub few : way.first + way.count ≤ 32
  pub short : way.scale + way.count ≤ 31
  pub room : way.start + 2 ^ (way.scale + way.count) ≤ 2 ^ 32
  pub leads : (input : List ℕ) → All (λ b. b < 256) input
      → is_place width page (number_of terms term input) ≡ true
      → way.start + number_of terms way.term input / 2 ^ way.first % 2 ^ way.count * 2 ^ way.scale
      ≡ number_of terms term input
