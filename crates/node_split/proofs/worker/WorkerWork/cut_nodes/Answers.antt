use Rattle.std.specs.Prelude.{Some}
use Rattle.std.proofs.lemmas.Result.{IfOk-weaker}
use Rattle.tree_core.specs.declared.cause.Cause.TheVariants.{Nodes}
use Rattle.node_split.proofs.Following.{ends_at}
use Rattle.node_split.proofs.worker.WorkerWork.cut_nodes.Goals as goal

pub returns : goal.returns
returns c =
    let worker = c.args.self.now in
    IfOk-weaker c.cut_nodes.result _ _
    (λ part leaf. ends_at worker.program worker.budgets (Some Nodes) (Some c.args.nodes) c.args.run part
    (leaf worker.program worker.budgets c.requires.well.room c.requires.full c.requires.well.is_open))
    c.cut_nodes.ensures.leaf
