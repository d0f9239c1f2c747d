-- The first row on segments whose test holds, and what follows where none does.
use Rattle.std.proofs.Common.{◌≡◌, ℕ, ◌+◌, ◌<◌, ◌≤◌, Bool, true, false, cond, ltb, ◌||◌, ◌&&◌, filter, List, [], ◌∷◌, length, get_or, All, Some, None, refl, sym, ap, ◌∙◌}
use Rattle.std.specs.List.{list_any}
use Rattle.std.proofs.lemmas.Bool.{or_parts, and_parts, ltb-true, ltb-false, lt-ltb}
use Rattle.std.proofs.lemmas.List.Elements.{All-nil, All-cons, All-weaker, filter_passes}
use Rattle.elf_load.specs.declared.header.ProgramHeader.{ProgramHeader}
use Rattle.elf_load.specs.declared.refused.Refused.TheVariants.{AddressRange, Overlap, TooManyPages, Nothing}
use Rattle.elf_load.specs.Areas.{end_of, touches_stack, IsPlaced}
use Rattle.elf_load.specs.Fields.{headers, segments, is_loaded, is_segment}
use Rattle.elf_load.specs.declared.refused.Refused.{Refused}
use Rattle.elf_load.specs.Refusals.{header_refusal, program_refusal, refusal, refused_file_over_memory, refused_bytes_past_end, refused_address_range, refused_overlap, refused_too_many_pages, refused_nothing, segment_refusal}

pub all_fail : {X : Type 0} (test : X → Bool) (xs : List X) → list_any test xs ≡ false → All (λ x. test x ≡ false) xs
all_fail test [] n = All-nil (λ x. test x ≡ false)
all_fail test (x ∷ xs) n = All-cons (λ x. test x ≡ false) x xs (or_parts (test x) (list_any test xs) n).0 (all_fail test xs (or_parts (test x) (list_any test xs) n).1)

-- segments that are in range end in memory
pub all_in_memory : (ss : List ProgramHeader) → refused_address_range ss ≡ false → All (λ s. end_of s ≤ 4294967296) ss
all_in_memory ss n k d l = ltb-false 4294967296 (end_of (get_or ss k d)) (or_parts _ (touches_stack (get_or ss k d)) (all_fail (λ s. ltb 4294967296 (end_of s) || touches_stack s) ss n k d l)).0

pub overlap_is_first : (ss : List ProgramHeader) → refused_address_range ss ≡ false → refused_overlap ss ≡ true → segment_refusal ss ≡ Some Overlap
unfolding segment_refusal
overlap_is_first ss a b = rw (a, b) refl

pub too_many_is_first : (ss : List ProgramHeader) → refused_address_range ss ≡ false → refused_overlap ss ≡ false → refused_too_many_pages ss ≡ true → segment_refusal ss ≡ Some TooManyPages
unfolding segment_refusal
too_many_is_first ss a b c = rw (a, b, c) refl

pub nothing_is_first : (ss : List ProgramHeader) → refused_address_range ss ≡ false → refused_overlap ss ≡ false → refused_too_many_pages ss ≡ false → refused_nothing ss ≡ true → segment_refusal ss ≡ Some Nothing
unfolding segment_refusal
nothing_is_first ss a b c d = rw (a, b, c, d) refl

pub none_is_first : (ss : List ProgramHeader) → refused_address_range ss ≡ false → refused_overlap ss ≡ false → refused_too_many_pages ss ≡ false → refused_nothing ss ≡ false → segment_refusal ss ≡ None
unfolding segment_refusal
none_is_first ss a b c d = rw (a, b, c, d) refl

pub address_range_is_first : (ss : List ProgramHeader) → refused_address_range ss ≡ true → segment_refusal ss ≡ Some AddressRange
unfolding segment_refusal
address_range_is_first ss a = rw a refl

-- where a file's refusal comes from
pub refused_by_header : (bytes : List ℕ) (r : Refused) → header_refusal bytes ≡ Some r → refusal bytes ≡ Some r
unfolding refusal
refused_by_header bytes r h = rw h refl

pub refused_by_program : (bytes : List ℕ) (r : Refused) → header_refusal bytes ≡ None → program_refusal (length bytes) (headers bytes) ≡ Some r → refusal bytes ≡ Some r
unfolding refusal
refused_by_program bytes r h p = rw (h, p) refl

pub refused_by_segments : (bytes : List ℕ) → header_refusal bytes ≡ None → program_refusal (length bytes) (headers bytes) ≡ None → refusal bytes ≡ segment_refusal (segments bytes)
unfolding refusal
refused_by_segments bytes h p = rw (h, p) refl

-- segments take memory
pub segments_sized : (hs : List ProgramHeader) → All (λ (s : ProgramHeader). 0 < s.memory_size) (filter is_segment hs)
segments_sized hs = All-weaker (λ s. is_segment s ≡ true) (λ (s : ProgramHeader). 0 < s.memory_size) (λ s t. ltb-true 0 s.memory_size (and_parts (is_loaded s) (ltb 0 s.memory_size) t).1) (filter is_segment hs) (filter_passes is_segment hs)

one_placed : (file_length : ℕ) (h : ProgramHeader) → is_segment h ≡ true → (is_loaded h && ltb h.memory_size h.file_size) ≡ false → (is_loaded h && (ltb 0 h.file_size && ltb file_length (h.offset + h.file_size))) ≡ false → (ltb 4294967296 (end_of h) || touches_stack h) ≡ false → IsPlaced file_length h
one_placed file_length h t over past range =
    let loaded : is_loaded h ≡ true = (and_parts (is_loaded h) (ltb 0 h.memory_size) t).0 in
    let below : ltb h.memory_size h.file_size ≡ false = sym (ap (λ b. b && ltb h.memory_size h.file_size) loaded) ∙ over in
    let inside : (ltb 0 h.file_size && ltb file_length (h.offset + h.file_size)) ≡ false = sym (ap (λ b. b && (ltb 0 h.file_size && ltb file_length (h.offset + h.file_size))) loaded) ∙ past in
    record {
      sized = ltb-true 0 h.memory_size (and_parts (is_loaded h) (ltb 0 h.memory_size) t).1;
      over = ltb-false h.memory_size h.file_size below;
      inside = λ some. ltb-false file_length (h.offset + h.file_size) (sym (ap (λ b. b && ltb file_length (h.offset + h.file_size)) (lt-ltb 0 h.file_size some)) ∙ inside);
      in_memory = ltb-false 4294967296 (end_of h) (or_parts (ltb 4294967296 (end_of h)) (touches_stack h) range).0;
    }

placed_more : (file_length : ℕ) (h : ProgramHeader) (ss : List ProgramHeader) → (is_loaded h && ltb h.memory_size h.file_size) ≡ false → (is_loaded h && (ltb 0 h.file_size && ltb file_length (h.offset + h.file_size))) ≡ false
    → (refused_address_range ss ≡ false → All (IsPlaced file_length) ss)
    → (b : Bool) → is_segment h ≡ b → refused_address_range (cond b (h ∷ ss) ss) ≡ false → All (IsPlaced file_length) (cond b (h ∷ ss) ss)
placed_more file_length h ss over past rest true t range =
    let r : ((ltb 4294967296 (end_of h) || touches_stack h) ≡ false) × (refused_address_range ss ≡ false) = or_parts _ _ range in
    All-cons (IsPlaced file_length) h ss (one_placed file_length h t over past r.0) (rest r.1)
placed_more file_length h ss over past rest false t range = rest range

-- segments that no row refuses lie in memory, and their bytes in the file
pub segments_placed : (file_length : ℕ) (hs : List ProgramHeader) → refused_file_over_memory hs ≡ false → refused_bytes_past_end file_length hs ≡ false → refused_address_range (filter is_segment hs) ≡ false → All (IsPlaced file_length) (filter is_segment hs)
segments_placed file_length [] over past range = All-nil (IsPlaced file_length)
segments_placed file_length (h ∷ hs) over past range =
    let o : ((is_loaded h && ltb h.memory_size h.file_size) ≡ false) × (refused_file_over_memory hs ≡ false) = or_parts _ _ over in
    let p : ((is_loaded h && (ltb 0 h.file_size && ltb file_length (h.offset + h.file_size))) ≡ false) × (refused_bytes_past_end file_length hs ≡ false) = or_parts _ _ past in
    placed_more file_length h (filter is_segment hs) o.0 p.0 (segments_placed file_length hs o.1 p.1) (is_segment h) refl range
