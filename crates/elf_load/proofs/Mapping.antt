-- The pages of areas, one area more.
use Rattle.std.proofs.Common.{◌≡◌, ℕ, ◌+◌, ◌-◌, ◌*◌, ◌<◌, ◌≤◌, true, false, cond, ltb, leb, eqb, ◌||◌, List, ◌∷◌, length, slice_index, bit_and, bit_or, Option, Some, refl, sym, ap, subst, ◌∙◌, ⊎_elim, arith}
use Rattle.std.specs.Ordering.{nat_cmp, is_eq}
use Rattle.std.proofs.lemmas.Bool.{and_left, and_right, and_from, lt-leb, le-leb, le-ltb, cases_lt, eq-eqb, ne_eqb}
use Rattle.std.proofs.lemmas.Bool.Decides.{nat_tests}
use Rattle.elf_load.specs.Areas.{first_page, last_page, touches, is_touched, IsPlaced}
use Rattle.elf_load.specs.Images.{byte_at, byte_in, gives_byte, page_flags}
use Rattle.elf_load.specs.Pages.{flags_in, IsPage}
use Rattle.elf_load.specs.declared.header.ProgramHeader.{ProgramHeader}
use Rattle.elf_load.specs.declared.page.Page.{Page}

-- an area changes nothing on a page that it does not touch
untouched : (bytes : List ℕ) (area : ProgramHeader) (areas : List ProgramHeader) (number : ℕ) (found : Option Page) → touches area number ≡ false → ((i : ℕ) → i < 256 → gives_byte area (256 * number + i) ≡ false) → IsPage bytes areas number found → IsPage bytes (area ∷ areas) number found
untouched bytes area areas number found t g p = record {
  mapped = p.mapped ∙ sym (ap (λ b. b || is_touched areas number) t);
  flags = p.flags ∙ sym (ap (λ b. cond b (bit_or (bit_and area.flags 7) (page_flags areas number)) (page_flags areas number)) t);
  content = λ i l. p.content i l ∙ sym (ap (λ b. cond b (slice_index bytes (area.offset + (256 * number + i - area.address))) (byte_at bytes areas (256 * number + i))) (g i l));
  size = p.size;
}

pub below : (bytes : List ℕ) (area : ProgramHeader) (areas : List ProgramHeader) (number : ℕ) (found : Option Page) → number < first_page area → IsPage bytes areas number found → IsPage bytes (area ∷ areas) number found
below bytes area areas number found l p = untouched bytes area areas number found
    (and_left (leb (first_page area) number) (leb number (last_page area)) (lt-leb (first_page area) number l))
    (λ i h. and_left (leb area.address (256 * number + i)) (ltb (256 * number + i) (area.address + area.file_size)) (lt-leb area.address (256 * number + i) (omega arith)))
    p

pub above : (bytes : List ℕ) (area : ProgramHeader) (areas : List ProgramHeader) (number : ℕ) (found : Option Page) → IsPlaced (length bytes) area → last_page area < number → IsPage bytes areas number found → IsPage bytes (area ∷ areas) number found
above bytes area areas number found placed l p = untouched bytes area areas number found
    (and_right (leb (first_page area) number) (leb number (last_page area)) (lt-leb number (last_page area) l))
    (λ i h. and_right (leb area.address (256 * number + i)) (ltb (256 * number + i) (area.address + area.file_size)) (le-ltb (256 * number + i) (area.address + area.file_size) (omega arith)))
    p

-- the page that an area was put onto
pub onto : (bytes : List ℕ) (area : ProgramHeader) (areas : List ProgramHeader) (number : ℕ) (found : Option Page) (page : Page) → first_page area ≤ number → number ≤ last_page area
    → page.flags ≡ bit_or (bit_and area.flags 7) (flags_in found)
    → ((i : ℕ) → i < 256 → slice_index page.bytes i ≡ cond (gives_byte area (256 * number + i)) (slice_index bytes (area.offset + (256 * number + i - area.address))) (byte_in found i))
    → length page.bytes ≡ 256
    → IsPage bytes areas number found → IsPage bytes (area ∷ areas) number (Some page)
onto bytes area areas number found page low high flags content size p =
    let t : touches area number ≡ true = and_from (leb (first_page area) number) (leb number (last_page area)) (le-leb (first_page area) number low) (le-leb number (last_page area) high) in
    record {
      mapped = sym (ap (λ b. b || is_touched areas number) t);
      flags = flags ∙ ap (bit_or (bit_and area.flags 7)) p.flags ∙ sym (ap (λ b. cond b (bit_or (bit_and area.flags 7) (page_flags areas number)) (page_flags areas number)) t);
      content = λ i l. content i l ∙ ap (cond (gives_byte area (256 * number + i)) (slice_index bytes (area.offset + (256 * number + i - area.address)))) (p.content i l);
      size = size;
    }

at_number : (number q : ℕ) → is_eq (nat_cmp number q) ≡ eqb number q
at_number number q = grind (arith, nat_tests)

-- The pages below this number have the area, and those from it on do not yet.
pub record IsMapped (bytes : List ℕ) (area : ProgramHeader) (areas : List ProgramHeader) (next : ℕ) (pages : ℕ → Option Page) : Type 0 where
  pub done : (q : ℕ) → q < next → IsPage bytes (area ∷ areas) q (pages q)
  pub left : (q : ℕ) → next ≤ q → IsPage bytes areas q (pages q)

pub mapped_none : (bytes : List ℕ) (area : ProgramHeader) (areas : List ProgramHeader) (pages : ℕ → Option Page) → ((q : ℕ) → IsPage bytes areas q (pages q)) → IsMapped bytes area areas (first_page area) pages
mapped_none bytes area areas pages h = record { done = λ q l. below bytes area areas q (pages q) l (h q); left = λ q l. h q }

pub mapped_more : (bytes : List ℕ) (area : ProgramHeader) (areas : List ProgramHeader) (next : ℕ) (old new : ℕ → Option Page) (page : Page) → first_page area ≤ next → next ≤ last_page area
    → ((q : ℕ) → new q ≡ cond (is_eq (nat_cmp next q)) (Some page) (old q))
    → page.flags ≡ bit_or (bit_and area.flags 7) (flags_in (old next))
    → ((i : ℕ) → i < 256 → slice_index page.bytes i ≡ cond (gives_byte area (256 * next + i)) (slice_index bytes (area.offset + (256 * next + i - area.address))) (byte_in (old next) i))
    → length page.bytes ≡ 256
    → IsMapped bytes area areas next old → IsMapped bytes area areas (next + 1) new
mapped_more bytes area areas next old new page low high updates flags content size h =
    let here : new next ≡ Some page = updates next ∙ ap (λ b. cond b (Some page) (old next)) (at_number next next ∙ eq-eqb next next refl) in
    let elsewhere : (q : ℕ) → (next ≡ q → ⊥) → new q ≡ old q = λ q n. updates q ∙ ap (λ b. cond b (Some page) (old q)) (at_number next q ∙ ne_eqb next q n) in
    record {
      done = λ q l. ⊎_elim
          (λ (b : q < next). subst (IsPage bytes (area ∷ areas) q) (sym (elsewhere q (λ e. omega arith))) (h.done q b))
          (λ (a : next ≤ q). let e : next ≡ q = omega arith in subst (λ k. IsPage bytes (area ∷ areas) k (new k)) e (subst (IsPage bytes (area ∷ areas) next) (sym here) (onto bytes area areas next (old next) page low high flags content size (h.left next (omega arith)))))
          (cases_lt q next);
      left = λ q l. subst (IsPage bytes areas q) (sym (elsewhere q (λ e. omega arith))) (h.left q (omega arith));
    }

pub mapped_all : (bytes : List ℕ) (area : ProgramHeader) (areas : List ProgramHeader) (next : ℕ) (pages : ℕ → Option Page) → IsPlaced (length bytes) area → last_page area < next → IsMapped bytes area areas next pages → (q : ℕ) → IsPage bytes (area ∷ areas) q (pages q)
mapped_all bytes area areas next pages placed l h q = ⊎_elim
    (λ (b : q < next). h.done q b)
    (λ (a : next ≤ q). above bytes area areas q (pages q) placed (omega arith) (h.left q a))
    (cases_lt q next)
