-- Which addresses and pages the areas of memory take. A page has 256 bytes.
use Rattle.std.specs.Prelude.{ℕ, zero, suc, ◌+◌, ◌-◌, ◌/◌, ◌<◌, ◌≤◌, nat_lt, nat_le, Bool, false, ◌&&◌, ◌||◌, if◌then◌else◌, List, [], ◌∷◌}
use Rattle.std.specs.List.{list_any}
use Rattle.elf_load.specs.declared.header.ProgramHeader.{ProgramHeader}

-- the address past its last
abbrev pub end_of : ProgramHeader → ℕ
end_of s = s.address + s.memory_size

-- two areas share an address
abbrev pub share_address : ProgramHeader → ProgramHeader → Bool
share_address s t = nat_lt s.address (end_of t) && nat_lt t.address (end_of s)

-- two items, one before the other, pass a test
abbrev pub any_pair : {X : Type 0} → (X → X → Bool) → List X → Bool
any_pair test [] = false
any_pair test (x ∷ xs) = list_any (test x) xs || any_pair test xs

-- the pages of its first and its last address
abbrev pub first_page : ProgramHeader → ℕ
first_page s = s.address / 256

abbrev pub last_page : ProgramHeader → ℕ
last_page s = (end_of s - 1) / 256

-- one of its addresses is on the page
abbrev pub touches : ProgramHeader → ℕ → Bool
touches s page = nat_le (first_page s) page && nat_le page (last_page s)

-- an area touches the page
abbrev pub is_touched : List ProgramHeader → ℕ → Bool
is_touched areas page = list_any (λ s. touches s page) areas

-- how many numbers below n pass a test
unfoldable pub count_below : ℕ → (ℕ → Bool) → ℕ
count_below zero test = 0
count_below (suc n) test = (if test n then 1 else 0) + count_below n test

-- how many pages of memory the areas touch
unfoldable pub touched_pages : List ProgramHeader → ℕ
touched_pages areas = count_below 16777216 (is_touched areas)

-- one of its addresses is on a page of the stack, 0x7FFF00 to 0x7FFFFF
abbrev pub touches_stack : ProgramHeader → Bool
touches_stack s = nat_le (first_page s) 0x7FFFFF && nat_le 0x7FFF00 (last_page s)

-- an area that lies in memory, with no more bytes than it takes there and none past the end of a file of this length
pub record IsPlaced (file_length : ℕ) (s : ProgramHeader) : Type 0 where
  pub sized : 0 < s.memory_size
  pub over : s.file_size ≤ s.memory_size
  pub inside : 0 < s.file_size → s.offset + s.file_size ≤ file_length
  pub in_memory : end_of s ≤ 4294967296
