use Rattle.std.proofs.Common.{◌≤◌, ◌<◌, ◌+◌, ◌∙◌, ap, arith, drop, length, not, suc, sym, take}
use Rattle.std.proofs.lemmas.List.Elements.{All-append, All-drop, All-take}
use Rattle.sym_state.specs.KeptUpdates.{KeptUpdates}
use Rattle.sym_state.specs.Updates.{is_at}
use Rattle.sym_state.proofs.Dropping.{removed}
use Rattle.sym_state.proofs.updates.give_up.Goals as goal

pub loop-at-preserved-then-is_at : goal.loop-at-preserved-then-is_at
loop-at-preserved-then-is_at c =
    let inv = c.loop-at.invariant in
    let at = c.loop-at.at in
    let items = c.loop-at.updates.items in
    let is_short : KeptUpdates → Type 0 = λ t. t.site.stride.scale + t.site.stride.count ≤ 31 in
    let many = c.len.ensures in
    let test = c.loop-at-test.true in
    let below : at < length items = omega (arith, many, test) in
    let fewer = c.remove.ensures.len in
    record {
      short = rw c.remove.ensures.items
          (All-append is_short (take at items) (drop (suc at) items) (All-take is_short at items inv.short) (All-drop is_short (suc at) items inv.short));
      within = omega (arith, below, fewer);
      left = rw c.remove.ensures.items
          (removed (λ (t : KeptUpdates). not (is_at t.site c.args.address)) items at c.index.result.now below
          (ap (λ (t : KeptUpdates). not (is_at t.site c.args.address)) (sym c.index.ensures ∙ sym c.behind-updates.view_is)
          ∙ ap not (sym c.if-is_at.ensures)) ∙ inv.left);
    }
