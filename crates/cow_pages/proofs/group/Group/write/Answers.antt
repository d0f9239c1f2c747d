use Rattle.std.proofs.Common.{◌<◌, length, arith}
use Rattle.std.proofs.lemmas.Result.{on_ok_weaker, on_err_weaker}
use Rattle.cow_pages.specs.SymbolicMemory.{with_byte_at}
use Rattle.cow_pages.proofs.SharedPlaces.{place_changed, place_kept}
use Rattle.cow_pages.proofs.group.Group.write.Goals as goal

pub returns-clause-ok : goal.returns-clause-ok
returns-clause-ok c =
    let there : c.args.place < length c.self.inside.pages.items = omega (arith, c.self.invariant, c.requires) in
    on_ok_weaker _
    (place_changed c.self.inside.pages.items c.args.self.now c.args.place c.index_mut.result.now c.write_page.new.page (λ p. with_byte_at p c.args.offset c.args.byte) c.self.view_is there c.index_mut.ensures.value)
    c.write_page.ensures.ok

pub returns-clause-err : goal.returns-clause-err
returns-clause-err c =
    let there : c.args.place < length c.self.inside.pages.items = omega (arith, c.self.invariant, c.requires) in
    on_err_weaker _
    (place_kept c.self.inside.pages.items c.args.self.now c.args.place c.index_mut.result.now c.write_page.new.page c.self.view_is there c.index_mut.ensures.value)
    c.write_page.ensures.err
