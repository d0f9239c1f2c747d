use Rattle.std.proofs.Common.{◌≡◌, ℕ, length, None, ap, sym, subst, ◌∙◌}
use Rattle.std.specs.Arc.{arc_value}
use Rattle.cow_pages.specs.Groups.{Places, Groups, IsGapFor, page_at_place, memory_in, shared_groups}
use Rattle.cow_pages.proofs.SharedChanges.{are_groups_with_new, memory_with_new, new_group_at}
use Rattle.cow_pages.proofs.groups.GroupList.group_place.Goals as goal

-- the new group has its places, and no page
size : (c : goal.In_ok-insert-in-Err) → length (arc_value c.in_ok-group-in-Err.group) ≡ 64
size c = ap length c.in_ok-group-in-Err.ensures.ok ∙ c.in_ok-new-in-Err.ensures.places

empty : (c : goal.In_ok-insert-in-Err) (place : ℕ) → page_at_place (arc_value c.in_ok-group-in-Err.group) place ≡ None
empty c place =
    ap (λ (ps : Places). page_at_place ps place) c.in_ok-group-in-Err.ensures.ok
    ∙ c.in_ok-new-in-Err.ensures.empty place

-- where it would stand
gap : (c : goal.In_ok-insert-in-Err) → IsGapFor (shared_groups c.self.inside.groups.items) c.args.number c.in-Err.place
gap c = subst (λ (gs : Groups). IsGapFor gs c.args.number c.in-Err.place) (sym c.self.view_is) c.in-Err.ensures.gap

pub invariant_of-self-in-Err : goal.invariant_of-self-in-Err
invariant_of-self-in-Err c =
    rw c.in_ok-insert-in-Err.ensures.items
    (are_groups_with_new c.self.inside.groups.items c.args.number c.in-Err.place c.in_ok-group-in-Err.group
    c.self.invariant (gap c) (size c) (empty c))

pub returns-in_ok-insert-in-Err-clause-same : goal.returns-in_ok-insert-in-Err-clause-same
returns-in_ok-insert-in-Err-clause-same c =
    rw c.in_ok-insert-in-Err.ensures.items
    (memory_with_new c.self.inside.groups.items c.args.number c.in-Err.place c.in_ok-group-in-Err.group
    c.self.invariant (gap c) (size c) (empty c) ∙ ap memory_in c.self.view_is)

pub returns-in_ok-insert-in-Err-clause-place : goal.returns-in_ok-insert-in-Err-clause-place
returns-in_ok-insert-in-Err-clause-place c =
    rw c.in_ok-insert-in-Err.ensures.items
    (new_group_at c.self.inside.groups.items c.args.number c.in-Err.place c.in_ok-group-in-Err.group
    c.self.invariant (gap c) (size c) (empty c))
