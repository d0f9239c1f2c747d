-- Groups behind counted references, as they are changed.
use Rattle.std.proofs.Common.{◌≡◌, ℕ, ◌+◌, ◌/◌, ◌%◌, ◌<◌, List, [], ◌∷◌, ◌++◌, length, get_or, take, drop, set, Some, None, Ok, Err, length-set, refl, sym, ap, subst, ◌∙◌, arith}
use Rattle.std.specs.Prelude.{Option, Result, Bool, IfOk, IfSome, OnOk, OnErr, insert, is_some}
use Rattle.std.specs.Arc.{arc_value}
use Rattle.std.specs.FinMap as finite
use Rattle.std.specs.declared.alloc.AllocError.{AllocError}
use Rattle.std.specs.declared.alloc.Global.{Global}
use Rattle.std.specs.declared.sync.Arc.{Arc}
use Rattle.std.proofs.lemmas.List.{map-append, map-set, take-map, drop-map, take_more}
use Rattle.cow_pages.specs.SymbolicMemory.{SymbolicPage, HasAllBytes, with_byte_at, with_page}
use Rattle.cow_pages.specs.declared.byte.Byte.{Byte}
use Rattle.cow_pages.specs.Groups.{Places, Groups, page_at_place, group_at, shared_groups, AreGroups, IsGroupAt, IsGapFor, page_in, memory_in, GroupRef, shared_group}
use Rattle.cow_pages.proofs.SharedPlaces.{set_there}
use Rattle.cow_pages.proofs.Searching.{length-shared_groups, at-shared_groups}
use Rattle.cow_pages.proofs.PageLookups.{get_in_groups}
use Rattle.cow_pages.proofs.GroupChanges.{changed_groups, are_groups-changed, memory-changed, are_groups-more, memory-more, group_put_in}
use Rattle.cow_pages.proofs.SharedGroups.{group_read, page_read, page_missing}

-- one more group is shared
pub shared_groups_more : (done all : List GroupRef) (i : ℕ) (g copy : GroupRef)
    → shared_groups done ≡ take i (shared_groups all) → i < length all → copy.0 ≡ g.0
    → arc_value copy.1 ≡ arc_value g.1 → g ≡ get_or all i g
    → shared_groups (done ++ copy ∷ []) ≡ take (i + 1) (shared_groups all)
shared_groups_more done all i g copy kept h number same read =
    map-append shared_group done (copy ∷ [])
    ∙ ap (λ gs. gs ++ (copy.0, arc_value copy.1) ∷ []) kept
    ∙ ap (λ n. take i (shared_groups all) ++ (n, arc_value copy.1) ∷ []) number
    ∙ ap (λ ps. take i (shared_groups all) ++ (g.0, ps) ∷ []) same
    ∙ ap (λ (e : ℕ × Places). take i (shared_groups all) ++ e ∷ []) (sym (at-shared_groups all i g h ∙ ap shared_group (sym read)))
    ∙ sym (take_more (shared_groups all) i (0, []) (omega (arith, h, length-shared_groups all)))

-- A new group is put into a gap.
shared_groups-insert : (groups : List GroupRef) (i : ℕ) (g : GroupRef)
    → shared_groups (insert groups i g) ≡ insert (shared_groups groups) i (g.0, arc_value g.1)
shared_groups-insert groups i g =
    map-append shared_group (take i groups) (g ∷ drop i groups)
    ∙ ap (λ gs. gs ++ (g.0, arc_value g.1) ∷ shared_groups (drop i groups)) (sym (take-map shared_group i groups))
    ∙ ap (λ gs. take i (shared_groups groups) ++ (g.0, arc_value g.1) ∷ gs) (sym (drop-map shared_group i groups))

module _ (groups : List GroupRef) (k i : ℕ) (g : Arc Places Global) (are : AreGroups (shared_groups groups)) (gap : IsGapFor (shared_groups groups) k i) (size : length (arc_value g) ≡ 64) (empty : (place : ℕ) → page_at_place (arc_value g) place ≡ None) where
  pub are_groups_with_new : AreGroups (shared_groups (insert groups i (k, g)))
  are_groups_with_new = rw shared_groups-insert (are_groups-more (shared_groups groups) k i are gap (arc_value g) size empty)

  pub memory_with_new : memory_in (shared_groups (insert groups i (k, g))) ≡ memory_in (shared_groups groups)
  memory_with_new = ap memory_in (shared_groups-insert groups i (k, g)) ∙ memory-more (shared_groups groups) k i are gap (arc_value g) size empty

  pub new_group_at : IsGroupAt (shared_groups (insert groups i (k, g))) k i
  new_group_at = rw shared_groups-insert (group_put_in (shared_groups groups) k i are gap (arc_value g))

-- A page stays whole, and mapped, when a byte is written to it.
pub whole_with : (o : Option SymbolicPage) (offset : ℕ) (byte : Byte) → IfSome o HasAllBytes
    → IfSome (with_byte_at o offset byte) HasAllBytes
whole_with None offset byte whole = tt
whole_with (Some page) offset byte whole = length-set page.bytes offset byte ∙ whole

none_before : (o : Option SymbolicPage) (offset : ℕ) (byte : Byte) → with_byte_at o offset byte ≡ None
    → o ≡ None
none_before None offset byte none = refl
none_before (Some page) offset byte none = cc none

-- A group is changed at its place.
module _ (groups : List GroupRef) (number i : ℕ) (g : GroupRef) (new : Arc Places Global) (are : AreGroups (shared_groups groups)) (at : IsGroupAt (shared_groups groups) (number / 64) i) (read : g ≡ get_or groups i g) where
  group_there : group_at (shared_groups groups) i ≡ (g.0, arc_value g.1)
  group_there = group_read groups (number / 64) i g at read

  its_number : g.0 ≡ number / 64
  its_number = ap (λ (e : ℕ × Places). e.0) (sym group_there) ∙ at.has_number

  shared_groups-changed : shared_groups (set groups i (g.0, new)) ≡ set (shared_groups groups) i (number / 64, arc_value new)
  shared_groups-changed =
      map-set shared_group groups i (g.0, new)
      ∙ ap (λ n. set (shared_groups groups) i (n, arc_value new)) its_number

  changed_to : (page : Option SymbolicPage) → arc_value new ≡ set (arc_value g.1) (number % 64) page
      → shared_groups (set groups i (g.0, new)) ≡ changed_groups (shared_groups groups) number i page
  changed_to page is =
      shared_groups-changed
      ∙ ap (λ ps. set (shared_groups groups) i (number / 64, ps)) (is ∙ ap (λ (e : ℕ × Places). set e.1 (number % 64) page) (sym group_there))

  kept_as : arc_value new ≡ arc_value g.1 → shared_groups (set groups i (g.0, new)) ≡ shared_groups groups
  kept_as same =
      map-set shared_group groups i (g.0, new)
      ∙ ap (λ ps. set (shared_groups groups) i (g.0, ps)) same
      ∙ ap (set (shared_groups groups) i) (sym group_there)
      ∙ set_there (shared_groups groups) i (0, [])

  pub are_groups_then : {A : Type 0} (r : Result A AllocError) (page : Option SymbolicPage)
      → IfSome page HasAllBytes → OnOk r (arc_value new ≡ set (arc_value g.1) (number % 64) page)
      → OnErr r (arc_value new ≡ arc_value g.1) → AreGroups (shared_groups (set groups i (g.0, new)))
  are_groups_then (Ok done) page whole is same = subst AreGroups (sym (changed_to page is)) (are_groups-changed (shared_groups groups) number i are at page whole)
  are_groups_then (Err refused) page whole is same = subst AreGroups (sym (kept_as same)) are

  pub memory_then : (page : Option SymbolicPage) → IfSome page HasAllBytes
      → (page ≡ None → page_in (shared_groups groups) number ≡ None)
      → arc_value new ≡ set (arc_value g.1) (number % 64) page
      → memory_in (shared_groups (set groups i (g.0, new))) ≡ with_page (memory_in (shared_groups groups)) number page
  memory_then page whole still_none is =
      ap memory_in (changed_to page is) ∙ memory-changed (shared_groups groups) number i are at page whole still_none

  pub memory_kept : arc_value new ≡ arc_value g.1
      → memory_in (shared_groups (set groups i (g.0, new))) ≡ memory_in (shared_groups groups)
  memory_kept same = ap memory_in (kept_as same)

  page_here : page_at_place (arc_value g.1) (number % 64) ≡ page_in (shared_groups groups) number
  page_here = page_read groups number i g (arc_value g.1) are at (ap (λ (e : GroupRef). arc_value e.1) read)

  page_whole : IfSome (page_at_place (arc_value g.1) (number % 64)) HasAllBytes
  page_whole = subst (λ (e : ℕ × Places). IfSome (page_at_place e.1 (number % 64)) HasAllBytes) group_there (are.whole i (number % 64) at.in_range)

  pub told_there : (r : Result Bool AllocError)
      → IfOk r (λ told. told ≡ is_some (page_at_place (arc_value g.1) (number % 64)))
      → IfOk r (λ told. told ≡ is_some (finite.get (memory_in (shared_groups groups)) number))
  told_there (Ok told) is = is ∙ ap is_some (page_here ∙ sym (get_in_groups (shared_groups groups) number are))
  told_there (Err refused) is = tt

  -- A byte is written to the page there.
  module _ (offset : ℕ) (byte : Byte) where
    abbrev page_after : Option SymbolicPage
    page_after = with_byte_at (page_at_place (arc_value g.1) (number % 64)) offset byte

    pub are_groups_written : {A : Type 0} (r : Result A AllocError)
        → OnOk r (arc_value new ≡ set (arc_value g.1) (number % 64) page_after)
        → OnErr r (arc_value new ≡ arc_value g.1) → AreGroups (shared_groups (set groups i (g.0, new)))
    are_groups_written r = are_groups_then r page_after (whole_with _ offset byte page_whole)

    pub memory_written : arc_value new ≡ set (arc_value g.1) (number % 64) page_after
        → memory_in (shared_groups (set groups i (g.0, new))) ≡ with_page (memory_in (shared_groups groups)) number (with_byte_at (finite.get (memory_in (shared_groups groups)) number) offset byte)
    memory_written is =
        memory_then page_after (whole_with _ offset byte page_whole) (λ none. sym page_here ∙ none_before _ offset byte none) is
        ∙ ap (λ o. with_page (memory_in (shared_groups groups)) number (with_byte_at o offset byte)) (page_here ∙ sym (get_in_groups (shared_groups groups) number are))

-- where the page isn't there nothing changes
pub memory_without : (groups : Groups) (number i offset : ℕ) (byte : Byte) → AreGroups groups → IsGapFor groups (number / 64) i
    → memory_in groups ≡ with_page (memory_in groups) number (with_byte_at (finite.get (memory_in groups) number) offset byte)
memory_without groups number i offset byte are gap =
    ap (λ o. with_page (memory_in groups) number (with_byte_at o offset byte)) (page_missing groups number i are gap)
