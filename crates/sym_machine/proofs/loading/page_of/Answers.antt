use Rattle.sym_machine.proofs.Loads.{on_this_page, page_made, page_stands}
use Rattle.sym_machine.proofs.Standing.{knows-grown}
use Rattle.sym_machine.proofs.loading.page_of.Goals as goal

pub number_at-requires-clause-knows : goal.number_at-requires-clause-knows
number_at-requires-clause-knows c = knows-grown _ _ c.in_ok-page.ensures.ok.grown c.requires.knows

pub number_at-requires-clause-stands : goal.number_at-requires-clause-stands
number_at-requires-clause-stands c =
    let made = page_made c.args.state.now c.combined.new.self c.args.term c.in_ok-page.page c.in_ok-page.ensures.ok in
    rw c.page_place.ensures (page_stands c.args.state.now c.combined.new.self c.args.width c.args.term c.in_ok-page.page
    c.requires.decides c.requires.aligned made)

pub returns-clause-ok : goal.returns-clause-ok
returns-clause-ok c =
    let made = page_made c.args.state.now c.combined.new.self c.args.term c.in_ok-page.page c.in_ok-page.ensures.ok in
    on_this_page c.args.state.now c.combined.new.self c.in_ok-number_at.field-0 c.args.width c.args.term c.in_ok-page.page c.requires.decides made c.in_ok-number_at.ensures.ok
