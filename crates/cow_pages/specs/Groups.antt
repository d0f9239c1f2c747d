-- The groups of 64 pages that a memory stands in, by their numbers.
use Rattle.std.specs.Prelude.{◌≡◌, ℕ, ◌+◌, ◌*◌, ◌/◌, ◌%◌, ◌<◌, ◌≤◌, List, [], ◌∷◌, ◌++◌, map, length, slice_index_or, slice_set, Option, Some, None, IfSome}
use Rattle.std.specs.Arc.{arc_value}
use Rattle.std.specs.FinMap.{find, from_entries}
use Rattle.std.specs.Option.{option_map}
use Rattle.std.specs.Ordering.{nat_cmp}
use Rattle.std.specs.declared.alloc.Global.{Global}
use Rattle.std.specs.declared.sync.Arc.{Arc}
use Rattle.cow_pages.specs.SymbolicMemory.{SymbolicPage, SymbolicMemory, HasAllBytes, with_byte_at}
use Rattle.cow_pages.specs.declared.byte.Byte.{Byte}

-- what stands at the places of a group: a page, or none
abbrev pub Places : Type 0
Places = List (Option SymbolicPage)

-- a page behind a counted reference, if there is one
abbrev pub PageRef : Type 0
PageRef = Option (Arc SymbolicPage Global)

abbrev pub shared_page : PageRef → Option SymbolicPage
shared_page page = option_map (λ (p : Arc SymbolicPage Global). arc_value p) page

-- what stands at places whose pages are behind counted references
abbrev pub shared_places : List PageRef → Places
shared_places pages = map shared_page pages

-- what stands at a place
abbrev pub page_at_place : Places → ℕ → Option SymbolicPage
page_at_place places place = slice_index_or places place None

-- a group with another byte at an offset of the page at a place, if there is one
abbrev pub with_byte_in : Places → ℕ → ℕ → Byte → Places
with_byte_in places place offset byte =
    slice_set places place (with_byte_at (page_at_place places place) offset byte)

-- the groups of a memory, each with its number
abbrev pub Groups : Type 0
Groups = List (ℕ × Places)

-- a group behind a counted reference, with its number
abbrev pub GroupRef : Type 0
GroupRef = ℕ × Arc Places Global

abbrev pub shared_group : GroupRef → ℕ × Places
shared_group group = (group.0, arc_value group.1)

-- groups behind counted references
abbrev pub shared_groups : List GroupRef → Groups
shared_groups groups = map shared_group groups

-- the group at a place of the list
abbrev pub group_at : Groups → ℕ → ℕ × Places
group_at groups i = slice_index_or groups i (0, [])

-- the numbers rise, each group has 64 places, and each page all of its bytes
pub record AreGroups (groups : Groups) : Type 0 where
  pub in_order : (i j : ℕ) → i < j → j < length groups
      → (group_at groups i).0 < (group_at groups j).0
  pub full : (i : ℕ) → i < length groups → length (group_at groups i).1 ≡ 64
  pub whole : (i place : ℕ) → i < length groups
      → IfSome (page_at_place (group_at groups i).1 place) HasAllBytes

-- the group at this place of the list has the number
pub record IsGroupAt (groups : Groups) (number i : ℕ) : Type 0 where
  pub in_range : i < length groups
  pub has_number : (group_at groups i).0 ≡ number

-- no group has the number, and one that had it would stand at this place of the list
pub record IsGapFor (groups : Groups) (number i : ℕ) : Type 0 where
  pub in_range : i ≤ length groups
  pub below : (j : ℕ) → j < i → (group_at groups j).0 < number
  pub above : (j : ℕ) → i ≤ j → j < length groups → number < (group_at groups j).0

-- the page at a place of a group that may be there
abbrev pub page_in_group : Option Places → ℕ → Option SymbolicPage
page_in_group None place = None
page_in_group (Some places) place = page_at_place places place

-- the page of a number, of which 64 stand in a group
abbrev pub page_in : Groups → ℕ → Option SymbolicPage
page_in groups number = page_in_group (find nat_cmp (number / 64) groups) (number % 64)

-- the pages at places, with their numbers from n on
abbrev pub numbered_from : ℕ → Places → List (ℕ × SymbolicPage)
numbered_from n [] = []
numbered_from n (None ∷ places) = numbered_from (n + 1) places
numbered_from n (Some page ∷ places) = (n, page) ∷ numbered_from (n + 1) places

-- the pages of groups, with their numbers
abbrev pub pages_in : Groups → List (ℕ × SymbolicPage)
pages_in [] = []
pages_in (g ∷ groups) = numbered_from (64 * g.0) g.1 ++ pages_in groups

-- the memory that stands in groups
unfoldable pub memory_in : Groups → SymbolicMemory
memory_in groups = from_entries (pages_in groups)

-- the memory of groups with others over them: of a number that has a page in both it has the page of the others
unfoldable pub memory_over : Groups → Groups → SymbolicMemory
memory_over base own = from_entries (pages_in own ++ pages_in base)
