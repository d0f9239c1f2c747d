-- The memory of groups with others over them.
use Rattle.std.proofs.Common.{◌≡◌, ℕ, ◌/◌, ◌%◌, Bool, true, false, cond, [], ◌++◌, Some, None, refl, sym, ap, subst, ◌∙◌}
use Rattle.std.specs.Prelude.{Option, Result, Ok, Err, OnOk, OnErr, IfSome, is_some}
use Rattle.std.specs.FinMap.{get, insert, find, get-insert, get-from_entries, same_map, nat_cmp-IsAntisymmetric}
use Rattle.std.specs.Option.{option_or}
use Rattle.std.specs.Ordering.{nat_cmp, eq_by_cmp}
use Rattle.std.proofs.lemmas.Cmp.{nat_cmp_total}
use Rattle.cow_pages.specs.SymbolicMemory.{SymbolicPage, SymbolicMemory, HasAllBytes, page_with, with_byte_at, with_page, memory_with}
use Rattle.cow_pages.specs.declared.byte.Byte.{Byte}
use Rattle.cow_pages.specs.Groups.{Groups, pages_in, memory_in, memory_over}
use Rattle.cow_pages.proofs.PageLookups.{find_either}
use Rattle.cow_pages.proofs.ImagePages.{none_in_no_groups}

-- what holds anyway holds of either answer
pub on_ok : {T E P : Type 0} (r : Result T E) → P → OnOk r P
on_ok (Ok x) p = p
on_ok (Err e) p = tt

pub on_err : {T E P : Type 0} (r : Result T E) → P → OnErr r P
on_err (Ok x) p = tt
on_err (Err e) p = p

pub on_ok_both : {T E P Q R : Type 0} (r : Result T E) → (P → Q → R) → OnOk r P → OnOk r Q → OnOk r R
on_ok_both (Ok x) both p q = both p q
on_ok_both (Err e) both p q = tt

find_in : (groups : Groups) (q : ℕ) → find nat_cmp q (pages_in groups) ≡ get (memory_in groups) q
unfolding memory_in
find_in groups q = sym (get-from_entries nat_cmp_total (pages_in groups) q)

-- a page is that of the upper groups, and where they have none that of the lower ones
pub get_over : (base own : Groups) (q : ℕ)
    → get (memory_over base own) q ≡ option_or (get (memory_in own) q) (get (memory_in base) q)
unfolding memory_over
get_over base own q =
    get-from_entries nat_cmp_total (pages_in own ++ pages_in base) q
    ∙ find_either q (pages_in own) (pages_in base)
    ∙ ap (λ o. option_or o (find nat_cmp q (pages_in base))) (find_in own q)
    ∙ ap (option_or (get (memory_in own) q)) (find_in base q)

pub found_above : (base own : Groups) (q : ℕ) (page : Option SymbolicPage) → page ≡ get (memory_in own) q → is_some page ≡ true
    → page ≡ get (memory_over base own) q
found_above base own q None is there = cc there
found_above base own q (Some page) is there =
    sym (get_over base own q ∙ ap (λ o. option_or o (get (memory_in base) q)) (sym is))

pub found_below : (base own : Groups) (q : ℕ) → None ≡ get (memory_in own) q
    → get (memory_over base own) q ≡ get (memory_in base) q
found_below base own q none = get_over base own q ∙ ap (λ o. option_or o (get (memory_in base) q)) (sym none)

-- groups that are one memory are one over the same others
pub over_same : (base own new : Groups) → memory_in new ≡ memory_in own → memory_over base new ≡ memory_over base own
over_same base own new same =
    same_map nat_cmp_total nat_cmp-IsAntisymmetric (memory_over base new) (memory_over base own) (λ q.
    get_over base new q
    ∙ ap (λ (m : SymbolicMemory). option_or (get m q) (get (memory_in base) q)) same
    ∙ sym (get_over base own q))

-- with no groups over them they are what they are
pub over_nothing : (base : Groups) → memory_over base [] ≡ memory_in base
over_nothing base =
    same_map nat_cmp_total nat_cmp-IsAntisymmetric (memory_over base []) (memory_in base) (λ q.
    get_over base [] q ∙ ap (λ o. option_or o (get (memory_in base) q)) (none_in_no_groups q))

or_behind : (b : Bool) (page : SymbolicPage) (upper lower : Option SymbolicPage)
    → option_or (cond b (Some page) upper) lower ≡ cond b (Some page) (option_or upper lower)
or_behind true page upper lower = refl
or_behind false page upper lower = refl

-- a page that is put into the upper groups is put into the memory
over_insert : (base own new : Groups) (number : ℕ) (page : SymbolicPage)
    → memory_in new ≡ insert (memory_in own) number page
    → memory_over base new ≡ insert (memory_over base own) number page
over_insert base own new number page is =
    same_map nat_cmp_total nat_cmp-IsAntisymmetric (memory_over base new) (insert (memory_over base own) number page) (λ q.
    get_over base new q
    ∙ ap (λ (m : SymbolicMemory). option_or (get m q) (get (memory_in base) q)) is
    ∙ ap (λ o. option_or o (get (memory_in base) q)) (get-insert nat_cmp_total (memory_in own) number page q)
    ∙ or_behind (eq_by_cmp nat_cmp q number) page (get (memory_in own) q) (get (memory_in base) q)
    ∙ ap (cond (eq_by_cmp nat_cmp q number) (Some page)) (sym (get_over base own q))
    ∙ sym (get-insert nat_cmp_total (memory_over base own) number page q))

-- a page that is there has all of its bytes
pub whole_above : (base own : Groups) (q : ℕ) → is_some (get (memory_in own) q) ≡ true → IfSome (get (memory_in own) q) HasAllBytes
    → IfSome (get (memory_over base own) q) HasAllBytes
whole_above base own q there whole =
    subst (λ (o : Option SymbolicPage). IfSome o HasAllBytes) (found_above base own q (get (memory_in own) q) refl there) whole

pub whole_below : (base own : Groups) (q : ℕ) → None ≡ get (memory_in own) q → IfSome (get (memory_in base) q) HasAllBytes
    → IfSome (get (memory_over base own) q) HasAllBytes
whole_below base own q none whole =
    subst (λ (o : Option SymbolicPage). IfSome o HasAllBytes) (sym (found_below base own q none)) whole

pub none_of : (o : Option SymbolicPage) → is_some o ≡ false → None ≡ o
none_of None none = refl
none_of (Some page) none = cc none

by_page : {P : Type 0} (o : Option SymbolicPage) → is_some o ≡ true → ((page : SymbolicPage) → Some page ≡ o → P) → P
by_page None there use_it = cc there
by_page (Some page) there use_it = use_it page refl

-- A byte is written to a page.
module _ (base own new : Groups) (address : ℕ) (byte : Byte) where
  -- the page with the byte is put into the upper groups
  put_above : (page : SymbolicPage) → Some page ≡ get (memory_over base own) (address / 256)
      → memory_in new ≡ insert (memory_in own) (address / 256) (page_with page (address % 256) byte)
      → memory_over base new ≡ memory_with (memory_over base own) address byte
  put_above page there is =
      over_insert base own new (address / 256) (page_with page (address % 256) byte) is
      ∙ ap (λ o. with_page (memory_over base own) (address / 256) (with_byte_at o (address % 256) byte)) there

  -- it is theirs
  pub written_above : is_some (get (memory_in own) (address / 256)) ≡ true
      → memory_in new ≡ memory_with (memory_in own) address byte
      → memory_over base new ≡ memory_with (memory_over base own) address byte
  written_above there is =
      by_page (get (memory_in own) (address / 256)) there (λ page here.
      put_above page (found_above base own (address / 256) (Some page) here refl)
      (is ∙ ap (λ o. with_page (memory_in own) (address / 256) (with_byte_at o (address % 256) byte)) (sym here)))

  -- it isn't, and a copy of that below comes in
  pub written_copy : (page : SymbolicPage) → None ≡ get (memory_in own) (address / 256)
      → Some page ≡ get (memory_in base) (address / 256)
      → memory_in new ≡ insert (memory_in own) (address / 256) (page_with page (address % 256) byte)
      → memory_over base new ≡ memory_with (memory_over base own) address byte
  written_copy page none below = put_above page (below ∙ sym (found_below base own (address / 256) none))

  -- where it isn't theirs they stay as they are
  pub unwritten : None ≡ get (memory_in own) (address / 256)
      → memory_in new ≡ memory_with (memory_in own) address byte → memory_in new ≡ memory_in own
  unwritten none is =
      is ∙ ap (λ o. with_page (memory_in own) (address / 256) (with_byte_at o (address % 256) byte)) (sym none)
