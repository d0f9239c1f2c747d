use Rattle.std.proofs.Common.{◌≡◌, length, ap}
use Rattle.bv_dag.specs.BitVectors.{BitVector}
use Rattle.term_table.specs.Entries.{nodes_of}
use Rattle.term_table.proofs.Keeping.{slice_get-nodes_of}
use Rattle.term_table.proofs.Worth.{fits_values, value_of_next}
use Rattle.term_table.proofs.table.Terms.value_of.Goals as goal

pub value-word-requires : goal.value-word-requires
value-word-requires c =
    let each : length c.args.input.now ≡ c.self.inside.inputs = rw (← c.self.view_is) at c.requires.each_input in
    rw (each, c.deref.ensures.value)
    (fits_values _ c.args.input.now _ _ c.args.id _ c.self.invariant.0.all_fit (slice_get-nodes_of c.self.inside.entries c.args.id c.entry_at.result c.entry_at.ensures) c.in_ok-words.ensures)

pub returns : goal.returns
returns c =
    rw (← c.self.view_is, c.number.ensures.value, c.value-word.ensures, c.deref.ensures.value)
    (ap (λ (s : BitVector). s.number)
    (value_of_next c.args.input.now (nodes_of c.self.inside.entries) c.in_ok-words.words.items c.args.id c.entry_at.result.node (slice_get-nodes_of c.self.inside.entries c.args.id c.entry_at.result c.entry_at.ensures) c.in_ok-words.ensures))
