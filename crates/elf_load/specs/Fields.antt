-- The fields of an ELF32 file whose numbers are little endian (Tool Interface Standard, ELF: "ELF Header" and "Program Header").
-- Bytes past the end read as 0.
use Rattle.std.specs.Prelude.{ℕ, ◌+◌, ◌*◌, ◌==◌, nat_lt, ◌&&◌, Bool, List, drop, map, filter}
use Rattle.std.specs.List.{range_with_len}
use Rattle.byteorder.specs.Endian.{little_number}
use Rattle.elf_load.specs.declared.header.Header.{Header}
use Rattle.elf_load.specs.declared.header.ProgramHeader.{ProgramHeader}

-- a number of two bytes, and one of four
unfoldable pub half_field : List ℕ → ℕ → ℕ
half_field bytes at = little_number 2 (drop at bytes)

unfoldable pub word_field : List ℕ → ℕ → ℕ
word_field bytes at = little_number 4 (drop at bytes)

-- e_type, e_machine, e_version, e_entry, e_phoff, e_flags, e_ehsize, e_phentsize and e_phnum
abbrev pub header_of : List ℕ → Header
header_of bytes = record {
  file_type = half_field bytes 16;
  machine = half_field bytes 18;
  version = word_field bytes 20;
  entry = word_field bytes 24;
  table_offset = word_field bytes 28;
  flags = word_field bytes 36;
  header_size = half_field bytes 40;
  row_size = half_field bytes 42;
  row_count = half_field bytes 44;
}

-- p_type, p_offset, p_vaddr, p_filesz, p_memsz and p_flags of the program header at this place
abbrev pub program_header_at : List ℕ → ℕ → ProgramHeader
program_header_at bytes at = record {
  kind = word_field bytes at;
  offset = word_field bytes (at + 4);
  address = word_field bytes (at + 8);
  file_size = word_field bytes (at + 16);
  memory_size = word_field bytes (at + 20);
  flags = word_field bytes (at + 24);
}

-- the program headers, each of 32 bytes
unfoldable pub headers : List ℕ → List ProgramHeader
headers bytes = map (λ i. program_header_at bytes ((header_of bytes).table_offset + 32 * i))
    (range_with_len 0 (header_of bytes).row_count)

-- PT_LOAD
abbrev pub is_loaded : ProgramHeader → Bool
is_loaded h = h.kind == 1

-- what is loaded and takes memory
abbrev pub is_segment : ProgramHeader → Bool
is_segment h = is_loaded h && nat_lt 0 h.memory_size

unfoldable pub segments : List ℕ → List ProgramHeader
segments bytes = filter is_segment (headers bytes)
