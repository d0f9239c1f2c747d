-- Pages of a machine's memory, as they are looked up.
use Rattle.std.proofs.Common.{◌≡◌, ℕ, ◌/◌, ◌%◌, true, false, Bor, List, Some, None, refl, sym, ap, ◌∙◌}
use Rattle.std.specs.Prelude.{Option, ◌==◌, is_some, slice_index}
use Rattle.std.specs.FinMap.{find, from_entries, entries, get, get-entries, get-from_entries, same_map, nat_cmp-IsAntisymmetric}
use Rattle.std.specs.Option.{option_map, option_copied}
use Rattle.std.specs.Ordering.{nat_cmp}
use Rattle.std.proofs.lemmas.Cmp.{nat_cmp_total}
use Rattle.elf_load.specs.declared.page.Page.{Page}
use Rattle.rv_spec.specs.Memory.{byte_of, can_write, is_mapped}
use Rattle.rv_machine.specs.Pages.{Pages, byte_on, flags_on}

-- the entries of a map make it again
pub map_again : (m : Pages) → from_entries (entries m) ≡ m
map_again m = same_map nat_cmp_total nat_cmp-IsAntisymmetric _ _ (λ q. get-from_entries nat_cmp_total (entries m) q ∙ sym (get-entries m q))

-- what is found in the list is what the map has
pub looked : (pages : Pages) (l : List (ℕ × Page)) (q : ℕ) (r : Option Page) → from_entries l ≡ pages → r ≡ find nat_cmp q l → get pages q ≡ r
looked pages l q r view is = ap (λ m. get m q) (sym view) ∙ get-from_entries nat_cmp_total l q ∙ sym is

mapped_some : (found : Option Page) → is_some found ≡ is_some (option_map (λ p. p.flags) found)
mapped_some None = refl
mapped_some (Some p) = refl

pub mapped_is : (pages : Pages) (address : ℕ) (r : Option Page) → get pages (address / 256) ≡ r → is_some r ≡ is_mapped (flags_on pages) address
mapped_is pages address r is = rw is (mapped_some r)

pub writes_none : (pages : Pages) (address : ℕ) → get pages (address / 256) ≡ None → false ≡ can_write (flags_on pages) address
writes_none pages address is = rw is refl

pub writes_some : (pages : Pages) (address : ℕ) (p : Page) → get pages (address / 256) ≡ Some p → (p.flags / 2 % 2 == 1) ≡ can_write (flags_on pages) address
writes_some pages address p is = rw is refl

pub reads_none : (pages : Pages) (address : ℕ) → get pages (address / 256) ≡ None → 0 ≡ byte_on pages address
unfolding byte_of
reads_none pages address is = rw is refl

pub reads_some : (pages : Pages) (address : ℕ) (p : Page) → get pages (address / 256) ≡ Some p → slice_index p.bytes (address % 256) ≡ byte_on pages address
unfolding byte_of
reads_some pages address p is = rw is refl

pub copied_some : (r : Option (Bor Page)) → is_some r ≡ is_some (option_copied r)
copied_some None = refl
copied_some (Some p) = refl

-- an address on a mapped page is on no other
pub not_mapped : (pages : Pages) (address : ℕ) (P : Type 0) → is_mapped (flags_on pages) address ≡ true → get pages (address / 256) ≡ None → P
not_mapped pages address P mapped none =
    let no : is_mapped (flags_on pages) address ≡ false = rw none refl in
    absurd (cc (mapped, no))
