-- The pages of the stack in an image.
use Rattle.std.proofs.Common.{◌≡◌, ℕ, ◌+◌, ◌-◌, ◌*◌, ◌<◌, ◌≤◌, Bool, true, false, cond, ltb, leb, ◌||◌, List, [], ◌∷◌, ◌++◌, length, get_or, slice_index, bit_and, bit_or, All, Option, Some, None, IfSome, is_some, refl, sym, ap, ◌∙◌, arith}
use Rattle.std.specs.FinMap.{get}
use Rattle.std.proofs.lemmas.Bool.{and_from, and_parts, or_left, or_right, or_parts, false_from_ne_true, false≢true, leb-true, ltb-true, le-leb}
use Rattle.std.proofs.lemmas.List.Elements.{All-head, All-tail}
use Rattle.elf_load.specs.declared.header.ProgramHeader.{ProgramHeader}
use Rattle.elf_load.specs.declared.page.Page.{Page}
use Rattle.elf_load.specs.declared.refused.Refused.{Refused}
use Rattle.elf_load.specs.Areas.{end_of, first_page, last_page, touches, is_touched, touches_stack, IsPlaced}
use Rattle.elf_load.specs.Fields.{headers, segments}
use Rattle.elf_load.specs.Images.{Image, Loads, IsStackPage, stack, areas, page_flags, gives_byte, byte_at}
use Rattle.elf_load.specs.Refusals.{header_refusal, program_refusal, segment_refusal, refusal, first_refusal, refused_file_over_memory, refused_bytes_past_end, refused_address_range}
use Rattle.elf_load.proofs.Rows.{all_fail, segments_placed}

neither : (a b : Option Refused) → first_refusal a b ≡ None → (a ≡ None) × (b ≡ None)
neither None b h = (refl, h)
neither (Some r) b h = cc

unguarded : (b : Bool) (r : Refused) (rest : Option Refused) → cond b (Some r) rest ≡ None → (b ≡ false) × (rest ≡ None)
unguarded true r rest h = cc
unguarded false r rest h = (refl, h)

-- what holds of the segments of a file that is not refused
record IsFine (bytes : List ℕ) : Type 0 where
  in_range : refused_address_range (segments bytes) ≡ false
  placed : All (IsPlaced (length bytes)) (segments bytes)

fine_program : (file_length : ℕ) (hs : List ProgramHeader) → program_refusal file_length hs ≡ None → (refused_file_over_memory hs ≡ false) × (refused_bytes_past_end file_length hs ≡ false)
unfolding program_refusal
fine_program file_length hs h =
    let over = unguarded _ _ _ (unguarded _ _ _ h).1 in
    (over.0, (unguarded _ _ _ over.1).0)

fine_segments : (ss : List ProgramHeader) → segment_refusal ss ≡ None → refused_address_range ss ≡ false
unfolding segment_refusal
fine_segments ss h = (unguarded _ _ _ h).0

fine_file : (bytes : List ℕ) → refusal bytes ≡ None → IsFine bytes
unfolding refusal segments
fine_file bytes h =
    let rest = neither (program_refusal (length bytes) (headers bytes)) (segment_refusal (segments bytes)) (neither (header_refusal bytes) _ h).1 in
    let program = fine_program (length bytes) (headers bytes) rest.0 in
    let range = fine_segments (segments bytes) rest.1 in
    record { in_range = range; placed = segments_placed (length bytes) (headers bytes) program.0 program.1 range }

-- a segment in range touches no page of the stack, and gives no byte there
apart : (s : ProgramHeader) (q : ℕ) → 0x7FFF00 ≤ q → q ≤ 0x7FFFFF → touches_stack s ≡ false → touches s q ≡ false
apart s q low high n = false_from_ne_true (touches s q) (λ t.
    let p : (leb (first_page s) q ≡ true) × (leb q (last_page s) ≡ true) = and_parts _ _ t in
    let l : first_page s ≤ q = leb-true _ _ p.0 in
    let m : q ≤ last_page s = leb-true _ _ p.1 in
    false≢true (sym n ∙ and_from (leb (first_page s) 0x7FFFFF) (leb 0x7FFF00 (last_page s)) (le-leb (first_page s) 0x7FFFFF (omega arith)) (le-leb 0x7FFF00 (last_page s) (omega arith))))

gives_none : (file_length : ℕ) (s : ProgramHeader) (q i : ℕ) → i < 256 → IsPlaced file_length s → touches s q ≡ false → gives_byte s (256 * q + i) ≡ false
gives_none file_length s q i l placed n = false_from_ne_true (gives_byte s (256 * q + i)) (λ t.
    let p : (leb s.address (256 * q + i) ≡ true) × (ltb (256 * q + i) (s.address + s.file_size) ≡ true) = and_parts _ _ t in
    let low : s.address ≤ 256 * q + i = leb-true _ _ p.0 in
    let high : 256 * q + i < s.address + s.file_size = ltb-true _ _ p.1 in
    false≢true (sym n ∙ and_from (leb (first_page s) q) (leb q (last_page s)) (le-leb (first_page s) q (omega arith)) (le-leb q (last_page s) (omega arith))))

touched_last : (ss : List ProgramHeader) (s : ProgramHeader) (q : ℕ) → touches s q ≡ true → is_touched (ss ++ s ∷ []) q ≡ true
touched_last [] s q t = or_left (touches s q) false t
touched_last (x ∷ ss) s q t = or_right (touches x q) (is_touched (ss ++ s ∷ []) q) (touched_last ss s q t)

flags_last : (ss : List ProgramHeader) (s : ProgramHeader) (q : ℕ) → All (λ x. touches x q ≡ false) ss → page_flags (ss ++ s ∷ []) q ≡ page_flags (s ∷ []) q
flags_last [] s q n = refl
flags_last (x ∷ ss) s q n =
    ap (λ b. cond b (bit_or (bit_and x.flags 7) (page_flags (ss ++ s ∷ []) q)) (page_flags (ss ++ s ∷ []) q)) (All-head (λ x. touches x q ≡ false) x ss n)
    ∙ flags_last ss s q (All-tail (λ x. touches x q ≡ false) x ss n)

byte_last : (bytes : List ℕ) (ss : List ProgramHeader) (s : ProgramHeader) (address : ℕ) → All (λ x. gives_byte x address ≡ false) ss → byte_at bytes (ss ++ s ∷ []) address ≡ byte_at bytes (s ∷ []) address
byte_last bytes [] s address n = refl
byte_last bytes (x ∷ ss) s address n =
    ap (λ b. cond b (slice_index bytes (x.offset + (address - x.address))) (byte_at bytes (ss ++ s ∷ []) address)) (All-head (λ x. gives_byte x address ≡ false) x ss n)
    ∙ byte_last bytes ss s address (All-tail (λ x. gives_byte x address ≡ false) x ss n)

stack_touches : (q : ℕ) → 0x7FFF00 ≤ q → q ≤ 0x7FFFFF → touches stack q ≡ true
stack_touches q low high = and_from (leb 0x7FFF00 q) (leb q 0x7FFFFF) (le-leb 0x7FFF00 q low) (le-leb q 0x7FFFFF high)

stack_gives_none : (address : ℕ) → gives_byte stack address ≡ false
stack_gives_none address = false_from_ne_true (gives_byte stack address) (λ t.
    let p : (leb 0x7FFF0000 address ≡ true) × (ltb address 0x7FFF0000 ≡ true) = and_parts _ _ t in
    let low : 0x7FFF0000 ≤ address = leb-true _ _ p.0 in
    let high : address < 0x7FFF0000 = ltb-true _ _ p.1 in
    absurd (omega arith))

from_found : (flags : ℕ) (byte : ℕ → ℕ) (found : Option Page) → is_some found ≡ true → IfSome found (λ p. p.flags ≡ flags) → ((i : ℕ) → i < 256 → IfSome found (λ p. slice_index p.bytes i ≡ byte i)) → flags ≡ 6 → ((i : ℕ) → i < 256 → byte i ≡ 0) → IsStackPage found
from_found flags byte None s f b e z = absurd (false≢true s)
from_found flags byte (Some p) s f b e z = (f ∙ e, λ i l. b i l ∙ z i l)

pub stack_mapped : (bytes : List ℕ) (image : Image) (q : ℕ) → Loads bytes image → 0x7FFF00 ≤ q → q ≤ 0x7FFFFF → IsStackPage (get image.pages q)
unfolding areas
stack_mapped bytes image q h low high =
    let fine = fine_file bytes h.fine in
    let none : All (λ s. touches s q ≡ false) (segments bytes) = λ k d l.
    apart (get_or (segments bytes) k d) q low high (or_parts (ltb 4294967296 (end_of (get_or (segments bytes) k d))) (touches_stack (get_or (segments bytes) k d)) (all_fail (λ s. ltb 4294967296 (end_of s) || touches_stack s) (segments bytes) fine.in_range k d l)).1 in
    let t = stack_touches q low high in
    from_found (page_flags (areas bytes) q) (λ i. byte_at bytes (areas bytes) (256 * q + i)) (get image.pages q)
    (h.mapped q ∙ touched_last (segments bytes) stack q t) (h.flags q) (λ i l. h.content q i l)
    (flags_last (segments bytes) stack q none ∙ ap (λ b. cond b 6 0) t)
    (λ i l. byte_last bytes (segments bytes) stack (256 * q + i) (λ k d m. gives_none (length bytes) (get_or (segments bytes) k d) q i l (fine.placed k d m) (none k d m))
    ∙ ap (λ b. cond b (slice_index bytes (0 + (256 * q + i - 0x7FFF0000))) 0) (stack_gives_none (256 * q + i)))
