use Rattle.run_sides.proofs.Branching.{tested_no, tested_yes}
use Rattle.run_sides.proofs.branch.with_test.Goals as goal

pub returns-then-side : goal.returns-then-side
returns-then-side c = rw (c.if-side.true, c.in_ok-run.ensures.same) (tested_yes c.args.state.now c.args.term c.in_ok-run.ensures.formed c.requires.is_term.width)

pub returns : goal.returns
returns c =
    rw c.if-side.false
    (tested_no c.args.state.now c.negated.new.self c.args.term c.in_ok-test.test (rw c.in_ok-run.ensures.same at c.in_ok-test.ensures.ok))

pub negated-requires : goal.negated-requires
negated-requires c = record { bit = rw c.in_ok-run.ensures.same c.requires.is_term.width }
