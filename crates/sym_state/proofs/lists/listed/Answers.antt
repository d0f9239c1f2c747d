use Rattle.std.proofs.Common.{◌∙◌, sym}
use Rattle.sym_state.proofs.Listing.{copied-more}
use Rattle.sym_state.proofs.lists.listed.Goals as goal

pub loop-at-preserved : goal.loop-at-preserved
loop-at-preserved g c =
    c.in_ok-push.ensures.items ∙ copied-more c.args.shared.now c.loop-at.items.items c.loop-at.at c.in-Some.item (sym c.in-Some.ensures) c.loop-at.invariant
