use Rattle.node_split.proofs.Branching.{answered_each, branch_side, side_answered, side_unanswered, tested_sampled}
use Rattle.node_split.proofs.branch.other_side.Goals as goal

pub ask_run-requires-clause-sampled : goal.ask_run-requires-clause-sampled
ask_run-requires-clause-sampled g c =
    tested_sampled c.args.state.now c.args.term c.args.side c.in_ok-tested.tested c.in_ok-tested.ensures c.requires.sampled

pub open_side-requires-clause-each_input : goal.open_side-requires-clause-each_input
open_side-requires-clause-each_input g c =
    answered_each c.args.state.now c.args.term c.args.side c.in_ok-tested.tested c.in_ok-tested.ensures c.in-Sat.input (rw c.in-Sat.is at c.in_ok-ask_run.ensures)

pub returns-in-Unsat-clause-none : goal.returns-in-Unsat-clause-none
returns-in-Unsat-clause-none g c =
    side_unanswered c.args.state.now c.args.term c.args.side c.in_ok-tested.tested c.in_ok-tested.ensures (rw c.in-Unsat.is at c.in_ok-ask_run.ensures)

pub returns-in_ok-open_side-in-Sat-clause-some : goal.returns-in_ok-open_side-in-Sat-clause-some
returns-in_ok-open_side-in-Sat-clause-some g c =
    let on = side_answered c.args.state.now c.args.term c.args.side c.in_ok-tested.tested c.in_ok-tested.ensures c.in-Sat.input
    c.in_ok-open_side-in-Sat.ensures.bytes (rw c.in-Sat.is at c.in_ok-ask_run.ensures) in
    branch_side c.args.budgets.now c.args.state.now c.args.term c.args.side c.in_ok-open_side-in-Sat.field-0
    (c.in_ok-open_side-in-Sat.ensures.side c.args.state.now c.args.term c.requires.at c.in_ok-tested.ensures on.0 on.1)

pub spent_side-requires-clause-bit : goal.spent_side-requires-clause-bit
spent_side-requires-clause-bit g c = c.in_ok-tested.ensures.bit

pub returns-in_ok-spent_side-in-Spent-clause-some : goal.returns-in_ok-spent_side-in-Spent-clause-some
returns-in_ok-spent_side-in-Spent-clause-some g c =
    c.in_ok-spent_side-in-Spent.ensures c.args.budgets.now c.args.state.now c.args.term c.in_ok-tested.ensures (rw c.in-Spent.is at c.in_ok-ask_run.ensures)
