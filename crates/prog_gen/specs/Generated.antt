-- A generated program's file, and the region of its input bytes.
use Rattle.std.specs.Prelude.{ℕ, List, [], ◌∷◌, ◌++◌, length}
use Rattle.elf_load.specs.declared.region.Region.{Region}
use Rattle.prog_gen.specs.Words.{program_words}
use Rattle.row_files.specs.RowFiles.{code_segment, elf_header, segment, words_bytes}

-- a mebibyte of data from 0x11000 on, to be read and written
abbrev pub mebibyte_segment : List ℕ
mebibyte_segment = segment 0 0x11000 0 1048576 6

-- the ELF file of these words, with a mebibyte of data
abbrev pub file_of : List ℕ → List ℕ
file_of words = elf_header ++ code_segment (length words) ++ mebibyte_segment ++ words_bytes words

unfoldable pub generated_file : ℕ → List ℕ
generated_file number = file_of (program_words number)

-- so many bytes from 0x11000 on
abbrev pub generated_regions : ℕ → List Region
generated_regions number = record { start = 0x11000; count = number } ∷ []
