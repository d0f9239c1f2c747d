-- The file of a list of words: an ELF32 executable of RISC-V, with the words as code and some data behind. System V ABI, "ELF Header" and "Program Header".
use Rattle.std.specs.Prelude.{ℕ, ◌*◌, List, [], ◌∷◌, ◌++◌, length, replicate}
use Rattle.std.specs.Int.{w16, w32, to_le_bytes}

abbrev pub half : ℕ → List ℕ
half n = to_le_bytes w16 n

abbrev pub word : ℕ → List ℕ
word n = to_le_bytes w32 n

-- each word in turn, low byte first
unfoldable pub words_bytes : List ℕ → List ℕ
words_bytes [] = []
words_bytes (n ∷ ns) = word n ++ words_bytes ns

-- of class ELFCLASS32, in ELFDATA2LSB, of version EV_CURRENT
abbrev pub identification : List ℕ
identification = 0x7F ∷ 0x45 ∷ 0x4C ∷ 0x46 ∷ 1 ∷ 1 ∷ 1 ∷ replicate 9 0

-- e_type ET_EXEC, e_machine EM_RISCV, e_version
abbrev pub kind_fields : List ℕ
kind_fields = half 2 ++ half 243 ++ word 1

-- e_entry, e_phoff, e_shoff, e_flags
abbrev pub place_fields : List ℕ
place_fields = word 0x10000 ++ word 52 ++ word 0 ++ word 0

-- e_ehsize, e_phentsize, e_phnum, and no section headers
abbrev pub size_fields : List ℕ
size_fields = half 52 ++ half 32 ++ half 2 ++ half 0 ++ half 0 ++ half 0

unfoldable pub elf_header : List ℕ
elf_header = identification ++ kind_fields ++ place_fields ++ size_fields

-- a segment of type PT_LOAD: p_type, p_offset, p_vaddr, p_paddr, p_filesz, p_memsz, p_flags, p_align
abbrev pub segment : (offset address file_size memory_size flags : ℕ) → List ℕ
segment offset address file_size memory_size flags =
    words_bytes (1 ∷ offset ∷ address ∷ address ∷ file_size ∷ memory_size ∷ flags ∷ 4 ∷ [])

-- the code from 0x10000 on, to be read and executed
abbrev pub code_segment : (words : ℕ) → List ℕ
code_segment words = segment 116 0x10000 (4 * words) (4 * words) 5

-- 512 bytes of data from 0x11000 on, to be read and written
abbrev pub data_segment : List ℕ
data_segment = segment 0 0x11000 0 512 6

unfoldable pub row_file : List ℕ → List ℕ
row_file words = elf_header ++ code_segment (length words) ++ data_segment ++ words_bytes words
