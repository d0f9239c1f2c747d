use Rattle.std.proofs.Common.{arith}
use Rattle.std.specs.Prelude.{◌==◌}
use Rattle.bv_dag.proofs.TermLaws.{there}
use Rattle.run_sides.proofs.Branching.{branch_settled}
use Rattle.node_split.proofs.Parting.{sides_of_branch}
use Rattle.node_split.proofs.branch.at_branch.Goals as goal

pub sampled-requires : goal.sampled-requires
sampled-requires g c = there c.args.state.now.terms c.args.term 1 c.requires.at.is_term.width (omega arith)

pub returns-in_default : goal.returns-in_default
returns-in_default g c =
    branch_settled c.args.state.now c.args.term (c.number-side.result == 1) c.requires.at (rw c.in_default.is at c.in_ok-other.ensures.none)

pub returns : goal.returns
returns g c = λ p was few.
    rw c.in_ok-in_order.ensures
    (sides_of_branch c.args.budgets.now c.args.state.now c.args.term (c.number-side.result == 1) c.in_ok-own.own c.in-Some.other c.requires.at c.requires.some
    c.in_ok-own.ensures (rw c.in-Some.is at c.in_ok-other.ensures.some) p was few)
