use Rattle.std.proofs.Common.{◌≡◌, take}
use Rattle.bv_dag.specs.Nodes.{values}
use Rattle.term_table.specs.Entries.{nodes_of}
use Rattle.term_table.proofs.values.words_of_first.Given as goal

abbrev pub invariant-loop-id : goal.invariant-loop-id
invariant-loop-id l = l.words.items ≡ values l.input (take l.id (nodes_of l.entries))
