use Rattle.std.proofs.Common.{◌≡◌, ◌/◌, ◌%◌, ap, subst, ◌∙◌}
use Rattle.std.specs.Prelude.{IfOk, is_some}
use Rattle.std.specs.FinMap.{get}
use Rattle.std.proofs.lemmas.Result.{on_ok_weaker, on_err_weaker}
use Rattle.cow_pages.specs.SymbolicMemory.{memory_with}
use Rattle.cow_pages.specs.Groups.{AreGroups, Groups, memory_in}
use Rattle.cow_pages.proofs.PageLookups.{pages_whole}
use Rattle.cow_pages.proofs.SharedGroups.{at_seen, page_missing}
use Rattle.cow_pages.proofs.SharedChanges.{are_groups_written, memory_written, memory_kept, memory_without, told_there}
use Rattle.cow_pages.proofs.groups.GroupList.write.Goals as goal

pub invariant_of-self : goal.invariant_of-self
invariant_of-self c =
    are_groups_written c.self.inside.groups.items (c.args.address / 256) c.in-Ok.group c.index_mut.result.now
    c.write_byte.new.group c.self.invariant (at_seen c.self.inside.groups.items c.args.self.now (c.args.address / 256 / 64) c.in-Ok.group c.self.view_is c.in-Ok.ensures.found) c.index_mut.ensures.value
    (c.args.address % 256) c.args.byte c.write_byte.result c.write_byte.ensures.ok c.write_byte.ensures.err

pub returns-in-Ok-clause-there : goal.returns-in-Ok-clause-there
returns-in-Ok-clause-there c =
    subst (λ (gs : Groups). IfOk c.write_byte.result (λ told. told ≡ is_some (get (memory_in gs) (c.args.address / 256)))) c.self.view_is
    (told_there c.self.inside.groups.items (c.args.address / 256) c.in-Ok.group c.index_mut.result.now
    c.write_byte.new.group c.self.invariant (at_seen c.self.inside.groups.items c.args.self.now (c.args.address / 256 / 64) c.in-Ok.group c.self.view_is c.in-Ok.ensures.found) c.index_mut.ensures.value c.write_byte.result c.write_byte.ensures.there)

pub returns-in-Ok-clause-whole : goal.returns-in-Ok-clause-whole
returns-in-Ok-clause-whole c = pages_whole c.args.self.now (c.args.address / 256) (subst AreGroups c.self.view_is c.self.invariant)

pub returns-in-Ok-clause-ok : goal.returns-in-Ok-clause-ok
returns-in-Ok-clause-ok c =
    on_ok_weaker _
    (λ is.
    memory_written c.self.inside.groups.items (c.args.address / 256) c.in-Ok.group c.index_mut.result.now
    c.write_byte.new.group c.self.invariant (at_seen c.self.inside.groups.items c.args.self.now (c.args.address / 256 / 64) c.in-Ok.group c.self.view_is c.in-Ok.ensures.found) c.index_mut.ensures.value
    (c.args.address % 256) c.args.byte is
    ∙ ap (λ (gs : Groups). memory_with (memory_in gs) c.args.address c.args.byte) c.self.view_is)
    c.write_byte.ensures.ok

pub returns-in-Ok-clause-err : goal.returns-in-Ok-clause-err
returns-in-Ok-clause-err c =
    on_err_weaker _
    (λ is.
    memory_kept c.self.inside.groups.items (c.args.address / 256) c.in-Ok.group c.index_mut.result.now
    c.write_byte.new.group c.self.invariant (at_seen c.self.inside.groups.items c.args.self.now (c.args.address / 256 / 64) c.in-Ok.group c.self.view_is c.in-Ok.ensures.found) c.index_mut.ensures.value is
    ∙ ap memory_in c.self.view_is)
    c.write_byte.ensures.err

pub returns-in-Err-clause-there : goal.returns-in-Err-clause-there
returns-in-Err-clause-there c =
    ap is_some (page_missing c.args.self.now (c.args.address / 256) c.in-Err.field-0 (subst AreGroups c.self.view_is c.self.invariant) c.in-Err.ensures.gap)

pub returns-in-Err-clause-whole : goal.returns-in-Err-clause-whole
returns-in-Err-clause-whole c = pages_whole c.args.self.now (c.args.address / 256) (subst AreGroups c.self.view_is c.self.invariant)

pub returns-in-Err-clause-ok : goal.returns-in-Err-clause-ok
returns-in-Err-clause-ok c =
    memory_without c.args.self.now (c.args.address / 256) c.in-Err.field-0 (c.args.address % 256) c.args.byte (subst AreGroups c.self.view_is c.self.invariant) c.in-Err.ensures.gap
