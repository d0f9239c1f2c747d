use Rattle.std.proofs.Common.{◌/◌, sym, ap, ◌∙◌}
use Rattle.std.specs.Prelude.{is_some}
use Rattle.std.specs.FinMap.{insert}
use Rattle.std.specs.Option.{option_copied}
use Rattle.std.proofs.lemmas.Result.{on_ok_weaker, on_err_weaker}
use Rattle.cow_pages.specs.SymbolicMemory.{SymbolicMemory, SymbolicPage}
use Rattle.cow_pages.specs.Groups.{memory_in}
use Rattle.cow_pages.proofs.ByteWrites.{is_some-copied}
use Rattle.cow_pages.proofs.Overlays.{on_ok, on_err, none_of, found_below, over_same, whole_above, whole_below, written_above, written_copy, unwritten}
use Rattle.cow_pages.proofs.groups.GroupList.write_over.Goals as goal

pub returns-in_err-write-clause-err : goal.returns-in_err-write-clause-err
returns-in_err-write-clause-err c = on_err _ (over_same c.args.base.now c.args.self.now c.write.new.self c.in_err-write.ensures.err)

pub returns-then-branch-clause-whole : goal.returns-then-branch-clause-whole
returns-then-branch-clause-whole c =
    whole_above c.args.base.now c.args.self.now (c.args.address / 256) (sym c.in_ok-write.ensures.there ∙ c.if-branch.true) c.in_ok-write.ensures.whole

pub returns-then-branch-clause-ok : goal.returns-then-branch-clause-ok
returns-then-branch-clause-ok c =
    written_above c.args.base.now c.args.self.now c.write.new.self c.args.address c.args.byte (sym c.in_ok-write.ensures.there ∙ c.if-branch.true) c.in_ok-write.ensures.ok

pub unwrap-page-requires : goal.unwrap-page-requires
unwrap-page-requires c =
    is_some-copied c.page.result
    ∙ ap is_some (c.page.ensures.value ∙ sym (found_below c.args.base.now c.args.self.now (c.args.address / 256) (none_of _ (sym c.in_ok-write.ensures.there ∙ c.if-branch.false))))
    ∙ c.requires

pub returns-in_err-copy-clause-err : goal.returns-in_err-copy-clause-err
returns-in_err-copy-clause-err c =
    on_err _
    (over_same c.args.base.now c.args.self.now c.write.new.self
    (unwritten c.args.base.now c.args.self.now c.write.new.self c.args.address c.args.byte (none_of _ (sym c.in_ok-write.ensures.there ∙ c.if-branch.false)) c.in_ok-write.ensures.ok))

pub returns-clause-whole : goal.returns-clause-whole
returns-clause-whole c =
    on_ok _ (whole_below c.args.base.now c.args.self.now (c.args.address / 256) (none_of _ (sym c.in_ok-write.ensures.there ∙ c.if-branch.false)) c.page.ensures.whole)

pub returns-clause-ok : goal.returns-clause-ok
returns-clause-ok c =
    on_ok_weaker _
    (λ is.
    written_copy c.args.base.now c.args.self.now c.add_page.new.self c.args.address c.args.byte c.unwrap-page.result.now
    (none_of _ (sym c.in_ok-write.ensures.there ∙ c.if-branch.false))
    (sym (ap option_copied c.unwrap-page.ensures) ∙ c.page.ensures.value)
    (is
    ∙ ap (λ (m : SymbolicMemory). insert m (c.args.address / 256) c.in_ok-copy.copy)
    (unwritten c.args.base.now c.args.self.now c.write.new.self c.args.address c.args.byte (none_of _ (sym c.in_ok-write.ensures.there ∙ c.if-branch.false)) c.in_ok-write.ensures.ok)
    ∙ ap (λ (p : SymbolicPage). insert (memory_in c.args.self.now) (c.args.address / 256) p) c.in_ok-copy.ensures))
    c.add_page.ensures.ok

pub returns-clause-err : goal.returns-clause-err
returns-clause-err c =
    on_err_weaker _
    (λ same.
    over_same c.args.base.now c.args.self.now c.add_page.new.self
    (same ∙ unwritten c.args.base.now c.args.self.now c.write.new.self c.args.address c.args.byte (none_of _ (sym c.in_ok-write.ensures.there ∙ c.if-branch.false)) c.in_ok-write.ensures.ok))
    c.add_page.ensures.err
