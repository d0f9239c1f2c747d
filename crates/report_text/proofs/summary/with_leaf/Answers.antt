use Rattle.std.proofs.Common.{rules}
use Rattle.report_text.proofs.Counting.{counted_more}
use Rattle.report_text.proofs.summary.with_leaf.Goals as goal

pub returns-clause-counted : goal.returns-clause-counted
returns-clause-counted c =
    λ leaves leaf e1 e2 e3. counted_more c.args.before _ c.args.end c.args.steps leaves leaf (search rules) e1 e2 e3
