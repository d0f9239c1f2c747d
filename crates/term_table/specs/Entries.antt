-- What the entries of a table keep.
use Rattle.std.specs.Prelude.{ℕ, List, map}
use Rattle.bv_dag.specs.declared.nodes.Node.{Node}
use Rattle.term_table.specs.declared.entry.TableEntry.{TableEntry}

abbrev pub nodes_of : List TableEntry → List Node
nodes_of entries = map (λ (e : TableEntry). e.node) entries

abbrev pub kept_widths : List TableEntry → List ℕ
kept_widths entries = map (λ (e : TableEntry). e.width) entries
