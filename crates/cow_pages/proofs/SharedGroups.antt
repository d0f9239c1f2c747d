-- Groups behind counted references, as they are looked up.
use Rattle.std.proofs.Common.{◌≡◌, ℕ, ◌/◌, ◌%◌, ◌<◌, List, length, get_or, None, sym, ap, subst, ◌∙◌, arith}
use Rattle.std.specs.Arc.{arc_value}
use Rattle.std.specs.FinMap.{get}
use Rattle.cow_pages.specs.Groups.{Places, Groups, page_at_place, group_at, shared_groups, AreGroups, IsGroupAt, IsGapFor, page_in, page_in_group, memory_in, GroupRef, shared_group}
use Rattle.cow_pages.proofs.GroupLookups.{find_group, find_in_gap, gap_in_front}
use Rattle.cow_pages.proofs.PageLookups.{get_in_groups}
use Rattle.cow_pages.proofs.Searching.{length-shared_groups, at-shared_groups}

-- the group that is read at its place
pub group_read : (groups : List GroupRef) (number i : ℕ) (g : GroupRef)
    → IsGroupAt (shared_groups groups) number i → g ≡ get_or groups i g
    → group_at (shared_groups groups) i ≡ (g.0, arc_value g.1)
group_read groups number i g at read =
    at-shared_groups groups i g (omega (arith, at.in_range, length-shared_groups groups))
    ∙ ap shared_group (sym read)

-- the list that is seen has the same groups at the same places
pub at_seen : (groups : List GroupRef) (now : Groups) (number i : ℕ) → shared_groups groups ≡ now
    → IsGroupAt now number i → IsGroupAt (shared_groups groups) number i
at_seen groups now number i view at = subst (λ (gs : Groups). IsGroupAt gs number i) (sym view) at

-- a number below that of the first group has its place in front
pub gap_read : (groups : List GroupRef) (now : Groups) (number i : ℕ) (g : GroupRef)
    → shared_groups groups ≡ now → AreGroups now → i < length groups → g ≡ get_or groups i g → i ≡ 0
    → number < g.0 → IsGapFor now number 0
gap_read groups now number i g view are within read first less =
    let there : group_at now 0 ≡ (g.0, arc_value g.1) =
    ap (λ (gs : Groups). group_at gs 0) (sym view) ∙ ap (group_at (shared_groups groups)) (sym first)
    ∙ at-shared_groups groups i g within ∙ ap shared_group (sym read) in
    let some : length groups ≡ length now = sym (length-shared_groups groups) ∙ ap (λ (gs : Groups). length gs) view in
    gap_in_front now number are (omega (arith, some)) (omega (arith, less, ap (λ (e : ℕ × Places). e.0) there))

-- a page is read in its group
pub page_read : (groups : List GroupRef) (number i : ℕ) (g : GroupRef) (places : Places)
    → AreGroups (shared_groups groups) → IsGroupAt (shared_groups groups) (number / 64) i
    → places ≡ arc_value (get_or groups i g).1
    → page_at_place places (number % 64) ≡ page_in (shared_groups groups) number
page_read groups number i g places are at is =
    ap (λ ps. page_at_place ps (number % 64)) (is ∙ ap (λ (e : ℕ × Places). e.1) (sym (at-shared_groups groups i g (omega (arith, at.in_range, length-shared_groups groups)))))
    ∙ ap (λ o. page_in_group o (number % 64)) (sym (find_group (shared_groups groups) (number / 64) i are at))

-- and so it is read in the memory
pub page_read_in : (groups : List GroupRef) (now : Groups) (number i : ℕ) (g : GroupRef) (places : Places)
    → shared_groups groups ≡ now → AreGroups now → IsGroupAt now (number / 64) i
    → places ≡ arc_value (get_or groups i g).1
    → page_at_place places (number % 64) ≡ get (memory_in now) number
page_read_in groups now number i g places view are at is =
    page_read groups number i g places (subst AreGroups (sym view) are) (at_seen groups now (number / 64) i view at) is
    ∙ ap (λ (gs : Groups). page_in gs number) view
    ∙ sym (get_in_groups now number are)

-- where its group isn't there it has none
pub page_missing : (groups : Groups) (number i : ℕ) → AreGroups groups → IsGapFor groups (number / 64) i
    → None ≡ get (memory_in groups) number
page_missing groups number i are gap =
    ap (λ o. page_in_group o (number % 64)) (sym (find_in_gap groups (number / 64) i gap)) ∙ sym (get_in_groups groups number are)
