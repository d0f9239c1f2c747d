-- What registers, bits and bytes of memory are in a symbolic run: a number, or a term that is none.
-- And what they are worth on an assignment.
use Rattle.std.specs.Prelude.{◌≡◌, ℕ, ◌==◌, ◌^◌, ◌<◌, Bool, List, All, None}
use Rattle.bv_dag.specs.Graphs.{Graph, number_of, width_of}
use Rattle.cow_pages.specs.declared.byte.Byte.{Byte}
use Rattle.cow_pages.specs.declared.byte.Byte.TheVariants.{Number as ByteNumber, Term as ByteTerm}
use Rattle.term_simplify.specs.Plain.{tree_number}
use Rattle.term_trees.specs.Growth.{Continues}
use Rattle.term_trees.specs.Trees.{tree_of}
use Rattle.sym_state.specs.declared.value.Bit.{Bit}
use Rattle.sym_state.specs.declared.value.Bit.TheVariants.{Known, Term as BitTerm}
use Rattle.sym_state.specs.declared.value.Value.{Value}
use Rattle.sym_state.specs.declared.value.Value.TheVariants.{Number, Term}

-- what a value is worth on an assignment
abbrev pub worth_of : Graph → List ℕ → Value → ℕ
worth_of terms input (Number n) = n
worth_of terms input (Term id) = number_of terms id input

abbrev pub byte_worth : Graph → List ℕ → Byte → ℕ
byte_worth terms input (ByteNumber n) = n
byte_worth terms input (ByteTerm id) = number_of terms id input

-- whether a bit is 1 on an assignment
abbrev pub bit_worth : Graph → List ℕ → Bit → Bool
bit_worth terms input (Known bit) = bit
bit_worth terms input (BitTerm id) = number_of terms id input == 1

-- a term of so many bits that is no number
pub record IsUnknown (terms : Graph) (bits id : ℕ) : Type 0 where
  pub width : width_of terms id ≡ bits
  pub no_number : tree_number (tree_of terms id) ≡ None

-- a number of 32 bits, or a term of them
abbrev pub IsWide : Graph → Value → Type 0
IsWide terms (Number n) = n < 2 ^ 32
IsWide terms (Term id) = IsUnknown terms 32 id

-- a byte, or a term of 8 bits
abbrev pub IsByte : Graph → Byte → Type 0
IsByte terms (ByteNumber n) = n < 2 ^ 8
IsByte terms (ByteTerm id) = IsUnknown terms 8 id

-- a bit, or a term of one
abbrev pub IsBit : Graph → Bit → Type 0
IsBit terms (Known bit) = Unit {0}
IsBit terms (BitTerm id) = IsUnknown terms 1 id

-- ---- Terms were made, and then something is worth what a function says on each assignment.
pub record GivesTerm (old new : Graph) (bits id : ℕ) (number : List ℕ → ℕ) : Type 0 where
  pub continues : Continues old new
  pub width : width_of new id ≡ bits
  pub worth : (input : List ℕ) → All (λ b. b < 256) input → number_of new id input ≡ number input

pub record GivesValue (old new : Graph) (value : Value) (number : List ℕ → ℕ) : Type 0 where
  pub continues : Continues old new
  pub wide : IsWide new value
  pub worth : (input : List ℕ) → All (λ b. b < 256) input → worth_of new input value ≡ number input

pub record GivesByte (old new : Graph) (byte : Byte) (number : List ℕ → ℕ) : Type 0 where
  pub continues : Continues old new
  pub is_byte : IsByte new byte
  pub worth : (input : List ℕ) → All (λ b. b < 256) input → byte_worth new input byte ≡ number input

pub record GivesBit (old new : Graph) (bit : Bit) (test : List ℕ → Bool) : Type 0 where
  pub continues : Continues old new
  pub is_bit : IsBit new bit
  pub worth : (input : List ℕ) → All (λ b. b < 256) input → bit_worth new input bit ≡ test input
