use Rattle.bv_dag.proofs.Fitting.{IsDag-take, widths_of-take}
use Rattle.term_table.specs.Entries.{nodes_of, kept_widths}
use Rattle.term_table.proofs.Keeping.{nodes_of-take, kept_widths-take}
use Rattle.term_table.proofs.table.Terms.truncate.Goals as goal

pub invariant_of-self : goal.invariant_of-self
invariant_of-self c =
    rw c.truncate.ensures (
      IsDag-take c.self.inside.inputs c.args.len (nodes_of c.self.inside.entries) _ c.self.invariant.0 (nodes_of-take c.args.len c.self.inside.entries),
      widths_of-take c.args.len (nodes_of c.self.inside.entries) _ (kept_widths c.self.inside.entries) _ c.self.invariant.1 (nodes_of-take c.args.len c.self.inside.entries) (kept_widths-take c.args.len c.self.inside.entries),
    )

pub returns : goal.returns
returns c = rw (← c.self.view_is, c.truncate.ensures, nodes_of-take c.args.len c.self.inside.entries)
