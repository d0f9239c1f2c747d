-- The memory of a symbolic run: pages by their numbers, and the bytes at addresses.
use Rattle.std.specs.Prelude.{◌≡◌, ℕ, ◌⊎◌, ◌+◌, ◌*◌, ◌/◌, ◌%◌, ◌^◌, List, map, length, Option, Some, None, slice_set, slice_index_or, refl}
use Rattle.std.specs.Coded.{Coded, code_by, coded×, coded⊎, coded_ℕ, coded_list}
use Rattle.std.specs.FinMap.{FinMap, get, insert, code}
use Rattle.std.specs.Ordering.{nat_cmp}
use Rattle.std.proofs.Common.{inl, inr}
use Rattle.std.specs.Option.{option_map}
use Rattle.elf_load.specs.declared.page.Page.{Page}
use Rattle.cow_pages.specs.declared.byte.Byte.{Byte}
use Rattle.cow_pages.specs.declared.byte.Byte.TheVariants.{Number, Term}

-- what may be done on a page, and its bytes
pub record SymbolicPage : Type 0 where
  pub flags : ℕ
  pub bytes : List Byte

-- it has all of its bytes
abbrev pub HasAllBytes : SymbolicPage → Type 0
HasAllBytes page = length page.bytes ≡ 256

-- numbers as bytes
abbrev pub number_bytes : List ℕ → List Byte
number_bytes numbers = map (λ n. Number n) numbers

-- a page with another byte at an offset
abbrev pub page_with : SymbolicPage → ℕ → Byte → SymbolicPage
page_with page offset byte = record { flags = page.flags; bytes = slice_set page.bytes offset byte }

-- the page, if there is one, with another byte at an offset
abbrev pub with_byte_at : Option SymbolicPage → ℕ → Byte → Option SymbolicPage
with_byte_at page offset byte = option_map (λ p. page_with p offset byte) page

-- the page of an image, its bytes as numbers
abbrev pub as_symbolic : Page → SymbolicPage
as_symbolic page = record { flags = page.flags; bytes = number_bytes page.bytes }

-- the mapped pages by their numbers
abbrev pub SymbolicMemory : Type 0
SymbolicMemory = FinMap nat_cmp SymbolicPage

-- what may be done on the page of a number, if it is mapped
abbrev pub memory_flags : SymbolicMemory → ℕ → Option ℕ
memory_flags memory number = option_map (λ page. page.flags) (get memory number)

-- the byte at an offset of a page, 0 where there is no page
abbrev pub page_byte : Option SymbolicPage → ℕ → Byte
page_byte None offset = Number 0
page_byte (Some page) offset = slice_index_or page.bytes offset (Number 0)

-- the byte at an address, 0 where no page is mapped
abbrev pub memory_byte : SymbolicMemory → ℕ → Byte
memory_byte memory address = page_byte (get memory (address / 256)) (address % 256)

-- four numbers stand from here on, and make this word, low byte first
pub record IsWordAt (byte : ℕ → Byte) (at word : ℕ) : Type 0 where
  pub b0 : ℕ
  pub b1 : ℕ
  pub b2 : ℕ
  pub b3 : ℕ
  pub is0 : byte at ≡ Number b0
  pub is1 : byte (at + 1) ≡ Number b1
  pub is2 : byte (at + 2) ≡ Number b2
  pub is3 : byte (at + 3) ≡ Number b3
  pub is : word ≡ b0 + 2 ^ 8 * b1 + 2 ^ 16 * b2 + 2 ^ 24 * b3

-- memory with another page in the place of one, if there was one
abbrev pub with_page : SymbolicMemory → ℕ → Option SymbolicPage → SymbolicMemory
with_page memory number None = memory
with_page memory number (Some page) = insert memory number page

-- memory with another byte at an address. Where no page is mapped it stays as it is
abbrev pub memory_with : SymbolicMemory → ℕ → Byte → SymbolicMemory
memory_with memory address byte =
    with_page memory (address / 256)
    (with_byte_at (get memory (address / 256)) (address % 256) byte)

-- The codes of bytes and pages, by which they are told apart.
abbrev pub byte_to_sum : Byte → ℕ ⊎ ℕ
byte_to_sum (Number n) = inl n
byte_to_sum (Term t) = inr t

abbrev pub byte_of_sum : ℕ ⊎ ℕ → Byte
byte_of_sum (inl n) = Number n
byte_of_sum (inr t) = Term t

pub byte_again : (b : Byte) → byte_of_sum (byte_to_sum b) ≡ b
byte_again (Number n) = refl
byte_again (Term t) = refl

abbrev pub byte_code : Coded Byte
byte_code = code_by (ℕ ⊎ ℕ) (coded⊎ coded_ℕ coded_ℕ) byte_to_sum byte_of_sum byte_again

abbrev pub symbolic_page_code : Coded SymbolicPage
symbolic_page_code = code_by (ℕ × List Byte) (coded× coded_ℕ (coded_list byte_code))
    (λ p. (p.flags, p.bytes)) (λ c. record { flags = c.0; bytes = c.1 }) (λ _. refl)

abbrev pub memory_code : Coded SymbolicMemory
memory_code = code coded_ℕ symbolic_page_code
