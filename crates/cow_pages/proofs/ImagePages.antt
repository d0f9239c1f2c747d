-- The memory that an image begins with, as its pages are put in one after the other.
use Rattle.std.proofs.Common.{◌≡◌, ℕ, zero, suc, ◌/◌, ◌%◌, ◌<◌, Bool, true, false, cond, ◌&&◌, T, List, [], ◌∷◌, Some, None, refl, sym, ap, ◌∙◌, arith}
use Rattle.std.proofs.Common.{inl, inr}
use Rattle.std.specs.Prelude.{◌==◌, Option, slice_index, slice_index_or}
use Rattle.std.specs.FinMap.{FinMap, find, get, insert, entries, get-entries, get-insert, get-empty}
use Rattle.std.specs.FinMap.Entries.{below_all, is_sorted}
use Rattle.std.specs.Option.{option_map, option_or}
use Rattle.std.specs.Ordering.{nat_cmp, is_lt}
use Rattle.std.specs.Cmp.{unsigned_tied}
use Rattle.std.specs.declared.cmp.Ordering.{Ordering}
use Rattle.std.specs.declared.cmp.Ordering.TheVariants.{Less, Equal, Greater}
use Rattle.std.proofs.lemmas.Bool.{cases_eq}
use Rattle.std.proofs.lemmas.Cmp.{nat_cmp_total, ranked}
use Rattle.elf_load.specs.declared.page.Page.{Page}
use Rattle.elf_load.specs.Images.{Image, byte_in}
use Rattle.rv_spec.specs.Memory.{byte_of, flags_of}
use Rattle.cow_pages.specs.declared.byte.Byte.TheVariants.{Number}
use Rattle.cow_pages.specs.SymbolicMemory.{SymbolicPage, SymbolicMemory, as_symbolic, number_bytes, page_byte, memory_byte, memory_flags}
use Rattle.cow_pages.specs.Groups.{memory_in}
use Rattle.cow_pages.proofs.GroupLookups.{find_first, find_past, test_of_same, test_of_other}

less_from_test : (o : Ordering) → T (is_lt o) → o ≡ Less
less_from_test Less p = refl
less_from_test Equal p = absurd p
less_from_test Greater p = absurd p

of_both : (a b : Bool) → T (a && b) → T a × T b
of_both true b p = (tt, p)
of_both false b p = absurd p

-- a number below all isn't found
find_below_all : (n : ℕ) (rest : List (ℕ × Page)) → T (below_all nat_cmp n rest) → find nat_cmp n rest ≡ None
find_below_all n [] below = refl
find_below_all n (e ∷ rest) below =
    let both : T (is_lt (nat_cmp n e.0)) × T (below_all nat_cmp n rest) = of_both _ _ below in
    let less : n < e.0 = ranked n e.0 Less (sym (less_from_test _ both.0)) in
    find_past n e rest (omega arith) ∙ find_below_all n rest both.1

nothing_more : (o : Option SymbolicPage) → option_or o None ≡ o
nothing_more None = refl
nothing_more (Some page) = refl

pub none_in_no_groups : (q : ℕ) → get (memory_in []) q ≡ None
unfolding memory_in
none_in_no_groups q = get-empty nat_cmp q

-- at first all pages are left
pub all_left : (m : FinMap nat_cmp Page) (q : ℕ)
    → option_map as_symbolic (get m q) ≡ option_or (option_map as_symbolic (find nat_cmp q (entries m))) (get (memory_in []) q)
all_left m q =
    ap (option_map as_symbolic) (get-entries m q)
    ∙ sym (nothing_more (option_map as_symbolic (find nat_cmp q (entries m))))
    ∙ ap (option_or (option_map as_symbolic (find nat_cmp q (entries m)))) (sym (none_in_no_groups q))

-- the first of those that are left is put in
module _ (memory : SymbolicMemory) (number : ℕ) (page : Page) (rest : List (ℕ × Page)) (sorted : T (is_sorted nat_cmp ((number, page) ∷ rest))) where
  pub rest_sorted : T (is_sorted nat_cmp rest)
  rest_sorted = (of_both _ _ sorted).1

  get_after_insert : (q : ℕ)
      → get (insert memory number (as_symbolic page)) q ≡ cond (q == number) (Some (as_symbolic page)) (get memory q)
  get_after_insert q = get-insert nat_cmp_total memory number (as_symbolic page) q ∙ ap (λ b. cond b (Some (as_symbolic page)) (get memory q)) (unsigned_tied q number)

  pub one_put_in : (q : ℕ)
      → option_or (option_map as_symbolic (find nat_cmp q ((number, page) ∷ rest))) (get memory q) ≡ option_or (option_map as_symbolic (find nat_cmp q rest)) (get (insert memory number (as_symbolic page)) q)
  one_put_in q = elim (cases_eq q number) [
    | inl same ↦
        ap (λ o. option_or (option_map as_symbolic o) (get memory q)) (find_first q (number, page) rest same)
        ∙ sym (ap (option_or (option_map as_symbolic (find nat_cmp q rest))) (get_after_insert q ∙ ap (λ b. cond b (Some (as_symbolic page)) (get memory q)) (test_of_same q number same))
        ∙ ap (λ o. option_or (option_map as_symbolic o) (Some (as_symbolic page))) (ap (λ n. find nat_cmp n rest) same ∙ find_below_all number rest (of_both _ _ sorted).0))
    | inr other ↦
        ap (λ o. option_or (option_map as_symbolic o) (get memory q)) (find_past q (number, page) rest other)
        ∙ sym (ap (option_or (option_map as_symbolic (find nat_cmp q rest))) (get_after_insert q ∙ ap (λ b. cond b (Some (as_symbolic page)) (get memory q)) (test_of_other q number other)))
  ]

-- The bytes and flags of a memory whose pages are those of an image.
at_numbers : (numbers : List ℕ) (i : ℕ) → slice_index_or (number_bytes numbers) i (Number 0) ≡ Number (slice_index numbers i)
at_numbers [] i = refl
at_numbers (n ∷ numbers) zero = refl
at_numbers (n ∷ numbers) (suc i) = at_numbers numbers i

byte_as : (page : Option Page) (i : ℕ) → page_byte (option_map as_symbolic page) i ≡ Number (byte_in page i)
byte_as None i = refl
byte_as (Some page) i = at_numbers page.bytes i

flags_as : (page : Option Page)
    → option_map (λ (p : SymbolicPage). p.flags) (option_map as_symbolic page) ≡ option_map (λ (p : Page). p.flags) page
flags_as None = refl
flags_as (Some page) = refl

module _ (image : Image) (memory : SymbolicMemory) (pages : (q : ℕ) → get memory q ≡ option_map as_symbolic (get image.pages q)) where
  pub image_bytes : (address : ℕ) → memory_byte memory address ≡ Number (byte_of image address)
  unfolding byte_of
  image_bytes address =
      ap (λ o. page_byte o (address % 256)) (pages (address / 256)) ∙ byte_as (get image.pages (address / 256)) (address % 256)

  pub image_flags : (q : ℕ) → memory_flags memory q ≡ flags_of image q
  image_flags q = ap (λ o. option_map (λ (p : SymbolicPage). p.flags) o) (pages q) ∙ flags_as (get image.pages q)
