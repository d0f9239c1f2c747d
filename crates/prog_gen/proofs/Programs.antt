-- Each generated file is that of a program, and its input bytes fit.
use Rattle.std.proofs.Common.{◌≡◌, ℕ, zero, suc, ◌+◌, ◌*◌, ◌/◌, ◌≤◌, true, false, not, List, [], ◌∷◌, ◌++◌, length, refl, sym, ap, subst, ◌∙◌, arith, None}
use mathlib.Core.Logic.{dite}
use native.Mathlib.Decide.{ℕ_discrete}
use Rattle.std.specs.Prelude.{◌==◌, nat_lt, sum_by}
use Rattle.std.specs.List.{list_any, range_with_len}
use Rattle.std.proofs.lemmas.Bool.Decides.{nat_tests}
use Rattle.std.proofs.lemmas.List.Sums.{sum_by-cons}
use Rattle.std.specs.FinMap.{contains_key}
use Rattle.std.proofs.lemmas.List.Elements.{All-cons, All-nil}
use Rattle.elf_load.specs.Areas.{end_of, is_touched, touched_pages}
use Rattle.elf_load.specs.Fields.{headers, segments, half_field, word_field}
use Rattle.elf_load.specs.Fits.{is_in_image, unfit}
use Rattle.elf_load.specs.Images.{Image, Loads, areas, stack}
use Rattle.elf_load.specs.Refusals.{header_refusal, program_refusal, refusal, refused_address_range, refused_overlap, segment_refusal}
use Rattle.elf_load.specs.declared.header.ProgramHeader.{ProgramHeader}
use Rattle.elf_load.specs.declared.region.Region.{Region}
use Rattle.elf_load.proofs.Counting.{touched_pages_counted}
use Rattle.elf_load.proofs.Rows.{none_is_first}
use Rattle.elf_load.proofs.Sweep.{overlaps_from, pages_from}
use Rattle.prog_gen.specs.Generated.{generated_file, generated_regions}
use Rattle.prog_gen.specs.Words.{program_words}
use Rattle.row_files.specs.RowFiles.{elf_header, words_bytes}

-- the code of so many words, and a mebibyte of data
abbrev code : ℕ → ProgramHeader
code words = record { kind = 1; offset = 116; address = 0x10000; file_size = 4 * words; memory_size = 4 * words; flags = 5 }

abbrev mebibyte : ProgramHeader
mebibyte = record { kind = 1; offset = 0; address = 0x11000; file_size = 0; memory_size = 1048576; flags = 6 }

abbrev both : ℕ → List ProgramHeader
both words = code words ∷ mebibyte ∷ []

-- the file's headers are in order, and these are its segments, of which one takes the page of the input
record IsFine (file : List ℕ) (words : ℕ) : Type 0 where
  header : header_refusal file ≡ None
  program : program_refusal (length file) (headers file) ≡ None
  parts : segments file ≡ both words
  few : segment_refusal (both words) ≡ None
  input_page : is_touched (both words ++ stack ∷ []) 272 ≡ true

module _ (words : ℕ) (some : 1 ≤ words) (most : words ≤ 128) (apart : overlaps_from 0 (both words) ≡ false) where
  counted : touched_pages (both words) ≡ pages_from 0 (both words)
  counted =
      touched_pages_counted (both words) (omega arith, omega (arith, some), (omega arith, omega arith, tt))
      (All-cons (λ (s : ProgramHeader). end_of s ≤ 4294967296) (code words) (mebibyte ∷ []) (omega (arith, most))
      (All-cons (λ (s : ProgramHeader). end_of s ≤ 4294967296) mebibyte [] (omega arith) (All-nil (λ (s : ProgramHeader). end_of s ≤ 4294967296))))
      apart

  segments_fine : nat_lt 16384 (pages_from 0 (both words)) ≡ false → refused_address_range (both words) ≡ false → refused_overlap (both words) ≡ false
      → segment_refusal (both words) ≡ None
  segments_fine few in_range alone = none_is_first (both words) in_range alone (ap (nat_lt 16384) counted ∙ few) refl

fine_1 : IsFine (generated_file 1) 15
unfolding header_refusal program_refusal segments headers half_field word_field generated_file program_words elf_header words_bytes
fine_1 = record { header = refl; program = refl; parts = refl; few = segments_fine 15 (omega arith) (omega arith) refl refl refl refl; input_page = refl }

fine_2 : IsFine (generated_file 2) 20
unfolding header_refusal program_refusal segments headers half_field word_field generated_file program_words elf_header words_bytes
fine_2 = record { header = refl; program = refl; parts = refl; few = segments_fine 20 (omega arith) (omega arith) refl refl refl refl; input_page = refl }

fine_3 : IsFine (generated_file 3) 25
unfolding header_refusal program_refusal segments headers half_field word_field generated_file program_words elf_header words_bytes
fine_3 = record { header = refl; program = refl; parts = refl; few = segments_fine 25 (omega arith) (omega arith) refl refl refl refl; input_page = refl }

fine_4 : IsFine (generated_file 4) 30
unfolding header_refusal program_refusal segments headers half_field word_field generated_file program_words elf_header words_bytes
fine_4 = record { header = refl; program = refl; parts = refl; few = segments_fine 30 (omega arith) (omega arith) refl refl refl refl; input_page = refl }

fine_5 : IsFine (generated_file 5) 35
unfolding header_refusal program_refusal segments headers half_field word_field generated_file program_words elf_header words_bytes
fine_5 = record { header = refl; program = refl; parts = refl; few = segments_fine 35 (omega arith) (omega arith) refl refl refl refl; input_page = refl }

fine_6 : IsFine (generated_file 6) 40
unfolding header_refusal program_refusal segments headers half_field word_field generated_file program_words elf_header words_bytes
fine_6 = record { header = refl; program = refl; parts = refl; few = segments_fine 40 (omega arith) (omega arith) refl refl refl refl; input_page = refl }

fine_7 : IsFine (generated_file 7) 45
unfolding header_refusal program_refusal segments headers half_field word_field generated_file program_words elf_header words_bytes
fine_7 = record { header = refl; program = refl; parts = refl; few = segments_fine 45 (omega arith) (omega arith) refl refl refl refl; input_page = refl }

fine_8 : IsFine (generated_file 8) 50
unfolding header_refusal program_refusal segments headers half_field word_field generated_file program_words elf_header words_bytes
fine_8 = record { header = refl; program = refl; parts = refl; few = segments_fine 50 (omega arith) (omega arith) refl refl refl refl; input_page = refl }

fine_9 : IsFine (generated_file 9) 55
unfolding header_refusal program_refusal segments headers half_field word_field generated_file program_words elf_header words_bytes
fine_9 = record { header = refl; program = refl; parts = refl; few = segments_fine 55 (omega arith) (omega arith) refl refl refl refl; input_page = refl }

fine_10 : IsFine (generated_file 10) 60
unfolding header_refusal program_refusal segments headers half_field word_field generated_file program_words elf_header words_bytes
fine_10 = record { header = refl; program = refl; parts = refl; few = segments_fine 60 (omega arith) (omega arith) refl refl refl refl; input_page = refl }

fine_11 : IsFine (generated_file 11) 65
unfolding header_refusal program_refusal segments headers half_field word_field generated_file program_words elf_header words_bytes
fine_11 = record { header = refl; program = refl; parts = refl; few = segments_fine 65 (omega arith) (omega arith) refl refl refl refl; input_page = refl }

fine_12 : IsFine (generated_file 12) 70
unfolding header_refusal program_refusal segments headers half_field word_field generated_file program_words elf_header words_bytes
fine_12 = record { header = refl; program = refl; parts = refl; few = segments_fine 70 (omega arith) (omega arith) refl refl refl refl; input_page = refl }

abbrev FineAt : ℕ → Type 0
FineAt number = (words : ℕ) × IsFine (generated_file number) words

fine : (number : ℕ) → 1 ≤ number → number ≤ 12 → FineAt number
fine number some most =
    dite (ℕ_discrete number 1) (λ is. subst FineAt (sym is) (15, fine_1)) (λ not_1.
    dite (ℕ_discrete number 2) (λ is. subst FineAt (sym is) (20, fine_2)) (λ not_2.
    dite (ℕ_discrete number 3) (λ is. subst FineAt (sym is) (25, fine_3)) (λ not_3.
    dite (ℕ_discrete number 4) (λ is. subst FineAt (sym is) (30, fine_4)) (λ not_4.
    dite (ℕ_discrete number 5) (λ is. subst FineAt (sym is) (35, fine_5)) (λ not_5.
    dite (ℕ_discrete number 6) (λ is. subst FineAt (sym is) (40, fine_6)) (λ not_6.
    dite (ℕ_discrete number 7) (λ is. subst FineAt (sym is) (45, fine_7)) (λ not_7.
    dite (ℕ_discrete number 8) (λ is. subst FineAt (sym is) (50, fine_8)) (λ not_8.
    dite (ℕ_discrete number 9) (λ is. subst FineAt (sym is) (55, fine_9)) (λ not_9.
    dite (ℕ_discrete number 10) (λ is. subst FineAt (sym is) (60, fine_10)) (λ not_10.
    dite (ℕ_discrete number 11) (λ is. subst FineAt (sym is) (65, fine_11)) (λ not_11.
    let is : number ≡ 12 = omega (arith, some, most, not_1, not_2, not_3, not_4, not_5, not_6, not_7, not_8, not_9, not_10, not_11) in
    subst FineAt (sym is) (70, fine_12))))))))))))

pub refused_by_nothing : (number : ℕ) → 1 ≤ number → number ≤ 12 → refusal (generated_file number) ≡ None
unfolding refusal
refused_by_nothing number some most =
    let f = (fine number some most).1 in
    rw (f.header, f.program, f.parts, f.few) refl

-- the bytes from 0x11000 on, where they are few, are on one page
all_mapped : (image : Image) → contains_key image.pages 272 ≡ true → (start count : ℕ) → 69632 ≤ start → start + count ≤ 69888
    → list_any (λ address. not (is_in_image image address)) (range_with_len start count) ≡ false
all_mapped image page start zero low high = refl
all_mapped image page start (suc count) low high =
    let small : nat_lt start 4294967296 ≡ true = grind (arith, nat_tests, high) in
    let on : start / 256 ≡ 272 = omega (arith, low, high) in
    rw (small, on, page) (all_mapped image page (start + 1) count (omega (arith, low)) (omega (arith, high)))

pub input_fits : (number : ℕ) (image : Image) → 1 ≤ number → number ≤ 12 → Loads (generated_file number) image → unfit image (generated_regions number) ≡ None
unfolding unfit areas
input_fits number image some most loads =
    let f = (fine number some most).1 in
    let page : contains_key image.pages 272 ≡ true = loads.mapped 272 ∙ ap (λ ss. is_touched (ss ++ stack ∷ []) 272) f.parts ∙ f.input_page in
    let mapped = all_mapped image page 69632 number (omega arith) (omega (arith, most)) in
    let counted : sum_by (λ (r : Region). r.count) (generated_regions number) ≡ number =
    sum_by-cons (λ (r : Region). r.count) (record { start = 69632; count = number }) [] ∙ omega arith in
    let not_empty : (number == 0) ≡ false = grind (arith, nat_tests, some) in
    let not_long : nat_lt 1024 (sum_by (λ (r : Region). r.count) (generated_regions number)) ≡ false =
    ap (nat_lt 1024) counted ∙ grind (arith, nat_tests, most) in
    rw (not_empty, not_long, mapped) refl
