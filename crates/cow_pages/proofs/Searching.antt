-- What a binary search for a group's number finds.
use Rattle.std.proofs.Common.{◌≡◌, ℕ, ◌<◌, ◌≤◌, List, [], ◌∷◌, length, get_or, Ok, Err, sym, ap, subst, ◌∙◌, arith}
use Rattle.std.specs.Arc.{arc_value}
use Rattle.std.specs.Prelude.{Result, IfOk, IfErr}
use Rattle.std.specs.List.Sorted.{IsBinarySearchResult, IsNonDecreasingBy, IsSearchInRange}
use Rattle.std.specs.Ordering.{nat_cmp, ordering_index}
use Rattle.std.proofs.lemmas.Bool.Decides.{nat_tests}
use Rattle.std.proofs.lemmas.Cmp.{ranked}
use Rattle.std.proofs.lemmas.List.{length-map, get_or-map}
use Rattle.std.proofs.lemmas.List.Sorted.{IsNonDecreasingBy-from_default}
use Rattle.cow_pages.specs.Groups.{Places, Groups, group_at, shared_groups, AreGroups, IsGroupAt, IsGapFor, GroupRef, shared_group}

-- how many there are
pub length-shared_groups : (groups : List GroupRef) → length (shared_groups groups) ≡ length groups
length-shared_groups groups = length-map groups shared_group

-- the group at a place
pub at-shared_groups : (groups : List GroupRef) (i : ℕ) (d : GroupRef) → i < length groups
    → let g = get_or groups i d in group_at (shared_groups groups) i ≡ (g.0, arc_value g.1)
at-shared_groups groups i d within = get_or-map shared_group groups i d (0, []) within

module _ (groups : List GroupRef) (d : GroupRef) (are : AreGroups (shared_groups groups)) (k : ℕ) where
  number_at_place : (i : ℕ) → i < length groups
      → (group_at (shared_groups groups) i).0 ≡ (get_or groups i d).0
  number_at_place i within = ap (λ (g : ℕ × Places). g.0) (at-shared_groups groups i d within)

  rise : (i j : ℕ) → i < j → j < length groups → (get_or groups i d).0 < (get_or groups j d).0
  rise i j lt within =
      omega (arith, number_at_place i (omega arith), number_at_place j within, are.in_order i j lt (omega (arith, length-shared_groups groups)))

  comparisons_never_fall : IsNonDecreasingBy (λ g. ordering_index (nat_cmp g.0 k)) groups
  comparisons_never_fall = IsNonDecreasingBy-from_default (λ g. ordering_index (nat_cmp g.0 k)) groups d (λ i j le within.
      let never_fall : (get_or groups i d).0 ≤ (get_or groups j d).0 = grind (arith, rise i j, λ (same : i ≡ j). ap (λ n. (get_or groups n d).0) same) in
      grind (arith, nat_tests))

  found_there : (i : ℕ) → i < length groups → IsBinarySearchResult (λ g. nat_cmp g.0 k) groups (Ok i)
      → IsGroupAt (shared_groups groups) k i
  found_there i within equal = record {
    in_range = omega (arith, length-shared_groups groups);
    has_number = number_at_place i within ∙ ranked _ k _ (sym (equal d));
  }

  gap_there : (i : ℕ) → i ≤ length groups → IsBinarySearchResult (λ g. nat_cmp g.0 k) groups (Err i)
      → IsGapFor (shared_groups groups) k i
  gap_there i within parted = record {
    in_range = omega (arith, length-shared_groups groups);
    below = λ j lt. omega (arith, number_at_place j (omega arith), ranked _ k _ (sym ((parted comparisons_never_fall).0 j d (omega arith) lt)));
    above = λ j le small. let inside : j < length groups = omega (arith, length-shared_groups groups) in
        omega (arith, number_at_place j inside, ranked _ k _ (sym ((parted comparisons_never_fall).1 j d le inside)));
  }

-- the group of the number, or the gap where it would stand
group_found : (groups : List GroupRef) (k i : ℕ) → AreGroups (shared_groups groups) → i < length groups
    → IsBinarySearchResult (λ g. nat_cmp g.0 k) groups (Ok i) → IsGroupAt (shared_groups groups) k i
group_found [] k i are within equal = absurd (omega (arith, within))
group_found (g ∷ groups) k i are within equal = found_there (g ∷ groups) g are k i within equal

gap_found : (groups : List GroupRef) (k i : ℕ) → AreGroups (shared_groups groups) → i ≤ length groups
    → IsBinarySearchResult (λ g. nat_cmp g.0 k) groups (Err i) → IsGapFor (shared_groups groups) k i
gap_found [] k i are within parted = record { in_range = within; below = λ j lt. absurd (omega (arith, within)); above = λ j le small. absurd (omega (arith, small)) }
gap_found (g ∷ groups) k i are within parted = gap_there (g ∷ groups) g are k i within parted

-- what the search says in either case, of groups that are these
pub search_found : (groups : List GroupRef) (now : Groups) (k : ℕ) (r : Result ℕ ℕ) → shared_groups groups ≡ now
    → AreGroups now → IsSearchInRange r (length groups) → IsBinarySearchResult (λ g. nat_cmp g.0 k) groups r
    → IfOk r (IsGroupAt now k)
search_found groups now k (Ok i) view are within answer =
    subst (λ (gs : Groups). IsGroupAt gs k i) view (group_found groups k i (subst AreGroups (sym view) are) within answer)
search_found groups now k (Err i) view are within answer = tt

pub search_gap : (groups : List GroupRef) (now : Groups) (k : ℕ) (r : Result ℕ ℕ) → shared_groups groups ≡ now
    → AreGroups now → IsSearchInRange r (length groups) → IsBinarySearchResult (λ g. nat_cmp g.0 k) groups r
    → IfErr r (IsGapFor now k)
search_gap groups now k (Ok i) view are within answer = tt
search_gap groups now k (Err i) view are within answer =
    subst (λ (gs : Groups). IsGapFor gs k i) view (gap_found groups k i (subst AreGroups (sym view) are) within answer)
