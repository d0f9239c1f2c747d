-- Instructions that are fetched from a page.
use Rattle.std.proofs.Common.{◌≡◌, ℕ, ◌+◌, ◌/◌, ◌%◌, ◌<◌, Bool, true, false, drop, refl, sym, ap, ◌∙◌, arith, rules}
use Rattle.std.specs.Prelude.{Option, None, Some, Err, ◌==◌, slice_index}
use Rattle.std.specs.FinMap.{get}
use Rattle.std.specs.Option.{ok_or}
use Rattle.std.proofs.lemmas.List.{get_or-drop}
use Rattle.byteorder.specs.Endian.{little_number}
use Rattle.elf_load.specs.declared.page.Page.{Page}
use Rattle.rv_decode.specs.Instructions.{instr}
use Rattle.rv_decode.specs.declared.ends.Trap.TheVariants.{Illegal, FetchAccess, FetchMisaligned}
use Rattle.rv_decode.specs.declared.instr.Instr.{Instr}
use Rattle.rv_spec.specs.Machine.{fetch}
use Rattle.elf_load.specs.Images.{byte_in}
use Rattle.rv_spec.specs.Memory.{byte_of, can_execute, word_at}
use Rattle.rv_machine.specs.Pages.{Pages, byte_on, flags_on}

byte_on_page : (pages : Pages) (pc i : ℕ) (p : Page) → get pages (pc / 256) ≡ Some p → pc % 4 ≡ 0 → i < 4 → byte_on pages (pc + i) ≡ slice_index p.bytes (pc % 256 + i)
unfolding byte_of
byte_on_page pages pc i p is aligned small =
    let page : (pc + i) / 256 ≡ pc / 256 = omega (arith, aligned, small) in
    let place : (pc + i) % 256 ≡ pc % 256 + i = omega (arith, aligned, small) in
    ap (λ n. byte_in (get pages n) ((pc + i) % 256)) page ∙ ap (λ o. byte_in o ((pc + i) % 256)) is ∙ ap (byte_in (Some p)) place

-- the word at an address that is a multiple of 4 lies on one page
word_on_page : (pages : Pages) (pc : ℕ) (p : Page) → get pages (pc / 256) ≡ Some p → pc % 4 ≡ 0 → little_number 4 (drop (pc % 256) p.bytes) ≡ word_at (byte_on pages) pc
word_on_page pages pc p is aligned =
    let here : pc + 0 ≡ pc = omega arith in
    let b0 : byte_on pages pc ≡ slice_index (drop (pc % 256) p.bytes) 0 = ap (byte_on pages) (sym here) ∙ byte_on_page pages pc 0 p is aligned (omega arith) ∙ sym (get_or-drop (pc % 256) p.bytes 0 0) in
    let b1 : byte_on pages (pc + 1) ≡ slice_index (drop (pc % 256) p.bytes) 1 = byte_on_page pages pc 1 p is aligned (omega arith) ∙ sym (get_or-drop (pc % 256) p.bytes 1 0) in
    let b2 : byte_on pages (pc + 2) ≡ slice_index (drop (pc % 256) p.bytes) 2 = byte_on_page pages pc 2 p is aligned (omega arith) ∙ sym (get_or-drop (pc % 256) p.bytes 2 0) in
    let b3 : byte_on pages (pc + 3) ≡ slice_index (drop (pc % 256) p.bytes) 3 = byte_on_page pages pc 3 p is aligned (omega arith) ∙ sym (get_or-drop (pc % 256) p.bytes 3 0) in
    omega (arith, b0, b1, b2, b3)

pub test_true : (n : ℕ) → n ≡ 0 → (n == 0) ≡ true
test_true n is = rw is refl

pub test_false : (n : ℕ) → (n ≡ 0 → ⊥) → (n == 0) ≡ false
test_false n other = search (rules, other)

-- The cases of a fetch.
pub fetch_misaligned : (flags : ℕ → Option ℕ) (byte : ℕ → ℕ) (pc : ℕ) → (pc % 4 ≡ 0 → ⊥) → Err FetchMisaligned ≡ fetch flags byte pc
unfolding fetch
fetch_misaligned flags byte pc misaligned = rw (test_false (pc % 4) misaligned) refl

refused : (flags : ℕ → Option ℕ) (byte : ℕ → ℕ) (pc : ℕ) → (pc % 4 == 0) ≡ true → can_execute flags pc ≡ false → Err FetchAccess ≡ fetch flags byte pc
unfolding fetch
refused flags byte pc aligned no_access = rw (aligned, no_access) refl

fetch_word : (flags : ℕ → Option ℕ) (byte : ℕ → ℕ) (pc : ℕ) → (pc % 4 == 0) ≡ true → can_execute flags pc ≡ true → ok_or (instr (word_at byte pc)) Illegal ≡ fetch flags byte pc
unfolding fetch
fetch_word flags byte pc aligned can = rw (aligned, can) refl

of_page : (pages : Pages) (pc : ℕ) (p : Page) (b : Bool) → get pages (pc / 256) ≡ Some p → (p.flags % 2 == 1) ≡ b → can_execute (flags_on pages) pc ≡ b
of_page pages pc p b is has = rw is has

no_page : (pages : Pages) (pc : ℕ) → get pages (pc / 256) ≡ None → can_execute (flags_on pages) pc ≡ false
no_page pages pc is = rw is refl

not_one : (n : ℕ) → (n ≡ 1 → ⊥) → (n == 1) ≡ false
not_one n other = search (rules, other)

one : (n : ℕ) → n ≡ 1 → (n == 1) ≡ true
one n is = rw is refl

pub fetch_unmapped : (pages : Pages) (pc : ℕ) → pc % 4 ≡ 0 → get pages (pc / 256) ≡ None → Err FetchAccess ≡ fetch (flags_on pages) (byte_on pages) pc
fetch_unmapped pages pc aligned is = refused (flags_on pages) (byte_on pages) pc (test_true _ aligned) (no_page pages pc is)

pub fetch_refused : (pages : Pages) (pc : ℕ) (p : Page) → pc % 4 ≡ 0 → get pages (pc / 256) ≡ Some p → (p.flags % 2 ≡ 1 → ⊥) → Err FetchAccess ≡ fetch (flags_on pages) (byte_on pages) pc
fetch_refused pages pc p aligned is no_access = refused (flags_on pages) (byte_on pages) pc (test_true _ aligned) (of_page pages pc p false is (not_one _ no_access))

pub fetched_word : (pages : Pages) (pc : ℕ) (p : Page) (word : ℕ) (i : Option Instr) → get pages (pc / 256) ≡ Some p → pc % 4 ≡ 0 → p.flags % 2 ≡ 1
    → word ≡ little_number 4 (drop (pc % 256) p.bytes) → i ≡ instr word → ok_or i Illegal ≡ fetch (flags_on pages) (byte_on pages) pc
fetched_word pages pc p word i is aligned runs reads decodes =
    ap (λ o. ok_or o Illegal) (decodes ∙ ap instr (reads ∙ word_on_page pages pc p is aligned))
    ∙ fetch_word (flags_on pages) (byte_on pages) pc (test_true _ aligned) (of_page pages pc p true is (one _ runs))
