-- The file with p_memsz of its second program header changed.
use Rattle.std.proofs.Common.{◌≡◌, ◌∙◌, ℕ, ◌≤◌, List, ◌++◌, ap, append_assoc, arith, drop, length, refl, sym, take}
use Rattle.std.proofs.lemmas.List.{drop-drop, length-append, length-drop, length-take-le}
use Rattle.prog_gen.specs.Generated.{file_of, generated_file}
use Rattle.prog_gen.specs.Words.{program_words}
use Rattle.row_files.specs.RowFiles.{code_segment, data_segment, elf_header, row_file, word, words_bytes}
use borrow.Rule.Slice.PartMut.{put_mid}

-- four bytes were written
pub written : (file new : List ℕ) → new ≡ word 1048576 → put_mid 104 4 file new ≡ take 104 file ++ word 1048576 ++ drop 108 file
written file new is =
    ap (λ bytes. put_mid 104 4 file bytes) is
    ∙ ap (λ rest. take 104 file ++ (word 1048576 ++ rest)) (drop-drop 4 104 file)
    ∙ sym (append_assoc (take 104 file) (word 1048576) (drop 108 file))

enlarged : (words : List ℕ) → take 104 (row_file words) ++ word 1048576 ++ drop 108 (row_file words) ≡ file_of words
unfolding row_file elf_header words_bytes
enlarged words = refl

pub file_generated : (number : ℕ) (words old new : List ℕ) → words ≡ program_words number → old ≡ row_file words
    → new ≡ take 104 old ++ word 1048576 ++ drop 108 old → new ≡ generated_file number
unfolding generated_file
file_generated number words old new is_words is_old is_new =
    is_new ∙ ap (λ file. take 104 file ++ word 1048576 ++ drop 108 file) (is_old ∙ ap row_file is_words) ∙ enlarged (program_words number)

-- ---- its length

header_length : length elf_header ≡ 52
unfolding elf_header
header_length = refl

code_length : (words : ℕ) → length (code_segment words) ≡ 32
unfolding words_bytes
code_length words = refl

data_length : length data_segment ≡ 32
unfolding words_bytes
data_length = refl

pub long_file : (words file : List ℕ) → file ≡ row_file words → 108 ≤ length file
unfolding row_file
long_file words file is =
    let whole = ap length is ∙ length-append (elf_header ++ code_segment (length words) ++ data_segment) (words_bytes words) in
    let headers = length-append (elf_header ++ code_segment (length words)) data_segment in
    let front = length-append elf_header (code_segment (length words)) in
    omega (arith, whole, headers, front, header_length, code_length (length words), data_length)

pub same_length : (old new : List ℕ) → 108 ≤ length old → new ≡ take 104 old ++ word 1048576 ++ drop 108 old → length new ≡ length old
same_length old new long is =
    let whole = ap length is ∙ length-append (take 104 old ++ word 1048576) (drop 108 old) in
    let front = length-append (take 104 old) (word 1048576) in
    let before = length-take-le 104 old (omega (arith, long)) in
    let behind = length-drop 108 old in
    let four : length (word 1048576) ≡ 4 = refl in
    omega (arith, whole, front, before, behind, four, long)
