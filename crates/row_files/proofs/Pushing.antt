-- The bytes of words, one word more.
use Rattle.std.proofs.Common.{◌≡◌, ℕ, zero, suc, ◌+◌, ◌<◌, ◌≤◌, ◌*◌, List, [], ◌∷◌, ◌++◌, length, take, refl, sym, ap, ◌∙◌, append_assoc, append-nil, arith, slice_index_or}
use Rattle.row_files.specs.RowFiles.{code_segment, data_segment, elf_header, row_file, segment, word, words_bytes}

pub word_more : (words : List ℕ) (i d : ℕ) → i < length words → words_bytes (take (suc i) words) ≡ words_bytes (take i words) ++ word (slice_index_or words i d)
unfolding words_bytes
word_more [] i d lt = absurd (omega arith)
word_more (n ∷ ns) zero d lt = append-nil (word n)
word_more (n ∷ ns) (suc i) d lt = ap (λ bytes. word n ++ bytes) (word_more ns i d (omega arith)) ∙ sym (append_assoc (word n) (words_bytes (take i ns)) (word (slice_index_or ns i d)))

pub all_words : (words : List ℕ) (i : ℕ) → length words ≤ i → words_bytes (take i words) ≡ words_bytes words
unfolding words_bytes
all_words [] zero all = refl
all_words [] (suc i) all = refl
all_words (n ∷ ns) zero all = absurd (omega arith)
all_words (n ∷ ns) (suc i) all = ap (λ bytes. word n ++ bytes) (all_words ns i (omega arith))

pub none_yet : (words bytes : List ℕ) → bytes ≡ bytes ++ words_bytes (take 0 words)
unfolding words_bytes
none_yet words bytes = sym (append-nil bytes)

-- One word is pushed.
pub push_one : (words : List ℕ) (i d : ℕ) (front old new bytes : List ℕ) → i < length words → old ≡ front ++ words_bytes (take i words) → new ≡ old ++ bytes → bytes ≡ word (slice_index_or words i d)
    → new ≡ front ++ words_bytes (take (i + 1) words)
push_one words i d front old new bytes within was pushed is =
    let next : i + 1 ≡ suc i = omega arith in
    pushed ∙ ap (λ bs. bs ++ bytes) was ∙ append_assoc front (words_bytes (take i words)) bytes
    ∙ ap (λ bs. front ++ (words_bytes (take i words) ++ bs)) is
    ∙ sym (ap (λ n. front ++ words_bytes (take n words)) next ∙ ap (λ bs. front ++ bs) (word_more words i d within))

-- The headers and the words, one behind the other.
pub file_of : (words first second third last : List ℕ) (size : ℕ) → first ≡ [] ++ elf_header → second ≡ first ++ segment 116 0x10000 size size 5 → third ≡ second ++ data_segment → last ≡ third ++ words_bytes words
    → size ≡ 4 * length words → last ≡ row_file words
unfolding row_file
file_of words first second third last size is_first is_second is_third is_last is_size =
    let code : second ≡ elf_header ++ code_segment (length words) = is_second ∙ ap (λ bs. bs ++ segment 116 0x10000 size size 5) is_first ∙ ap (λ n. elf_header ++ segment 116 0x10000 n n 5) is_size in
    is_last ∙ ap (λ bs. bs ++ words_bytes words) (is_third ∙ ap (λ bs. bs ++ data_segment) code)
