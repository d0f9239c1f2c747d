use Rattle.std.proofs.Common.{sym}
use Rattle.bv_dag.proofs.Fitting.{widths_of-none}
use Rattle.bv_dag.proofs.TermLaws.{IsDag-none}
use Rattle.term_table.proofs.table.Terms.new.Goals as goal

pub invariant_of-result : goal.invariant_of-result
invariant_of-result c = rw c.new.ensures (IsDag-none c.args.inputs, sym widths_of-none)
