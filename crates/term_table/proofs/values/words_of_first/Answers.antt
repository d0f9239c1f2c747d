use Rattle.std.proofs.Common.{sym, ◌∙◌}
use Rattle.term_table.specs.Entries.{nodes_of}
use Rattle.term_table.proofs.Keeping.{slice_get-nodes_of}
use Rattle.term_table.proofs.Worth.{fits_values, values-none, values_next}
use Rattle.term_table.proofs.values.words_of_first.Goals as goal

pub loop-id-init : goal.loop-id-init
loop-id-init c = c.in_ok-words.ensures.items ∙ sym (values-none c.args.input.now)

pub value-requires : goal.value-requires
value-requires c =
    rw c.deref.ensures.value
    (fits_values _ c.args.input.now _ _ c.loop-id.id _ c.requires.all_fit (slice_get-nodes_of c.args.entries.now c.loop-id.id c.entry_at.result c.entry_at.ensures) c.loop-id.invariant)

pub loop-id-preserved : goal.loop-id-preserved
loop-id-preserved c =
    rw (c.in_ok-push.ensures.items, c.value.ensures, c.deref.ensures.value)
    (values_next c.args.input.now (nodes_of c.args.entries.now) c.loop-id.words.items c.loop-id.id c.entry_at.result.node (slice_get-nodes_of c.args.entries.now c.loop-id.id c.entry_at.result c.entry_at.ensures) c.loop-id.invariant)
