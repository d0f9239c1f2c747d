use Rattle.std.proofs.Common.{◌/◌, Some, ap, ◌∙◌}
use Rattle.std.specs.FinMap.{insert}
use Rattle.std.specs.Arc.{arc_value}
use Rattle.std.proofs.lemmas.Result.{on_ok_weaker, on_err_weaker}
use Rattle.cow_pages.specs.SymbolicMemory.{SymbolicMemory, SymbolicPage}
use Rattle.cow_pages.specs.Groups.{memory_in}
use Rattle.cow_pages.proofs.SharedGroups.{at_seen}
use Rattle.cow_pages.proofs.SharedChanges.{are_groups_then, memory_then, memory_kept}
use Rattle.cow_pages.proofs.groups.GroupList.add_page.Goals as goal

pub invariant_of-self : goal.invariant_of-self
invariant_of-self c =
    are_groups_then c.self-2.inside.groups.items c.args.number c.in_ok-group.group c.index_mut.result.now
    c.put_page.new.group c.self-2.invariant (at_seen c.self-2.inside.groups.items c.group_place.new.self (c.args.number / 64) c.in_ok-group.group c.self-2.view_is c.in_ok-group.ensures.place) c.index_mut.ensures.value
    c.put_page.result (Some (arc_value c.in_ok-page.page)) (rw c.in_ok-page.ensures.ok c.requires) c.put_page.ensures.ok c.put_page.ensures.err

pub returns-clause-ok : goal.returns-clause-ok
returns-clause-ok c =
    on_ok_weaker _
    (λ is.
    memory_then c.self-2.inside.groups.items c.args.number c.in_ok-group.group c.index_mut.result.now
    c.put_page.new.group c.self-2.invariant (at_seen c.self-2.inside.groups.items c.group_place.new.self (c.args.number / 64) c.in_ok-group.group c.self-2.view_is c.in_ok-group.ensures.place) c.index_mut.ensures.value
    (Some (arc_value c.in_ok-page.page)) (rw c.in_ok-page.ensures.ok c.requires) (λ none. cc none) is
    ∙ ap (λ (m : SymbolicMemory). insert m c.args.number (arc_value c.in_ok-page.page)) (ap memory_in c.self-2.view_is ∙ c.in_ok-group.ensures.same)
    ∙ ap (λ (p : SymbolicPage). insert (memory_in c.args.self.now) c.args.number p) c.in_ok-page.ensures.ok)
    c.put_page.ensures.ok

pub returns-clause-err : goal.returns-clause-err
returns-clause-err c =
    on_err_weaker _
    (λ is.
    memory_kept c.self-2.inside.groups.items c.args.number c.in_ok-group.group c.index_mut.result.now
    c.put_page.new.group c.self-2.invariant (at_seen c.self-2.inside.groups.items c.group_place.new.self (c.args.number / 64) c.in_ok-group.group c.self-2.view_is c.in_ok-group.ensures.place) c.index_mut.ensures.value is
    ∙ ap memory_in c.self-2.view_is ∙ c.in_ok-group.ensures.same)
    c.put_page.ensures.err
