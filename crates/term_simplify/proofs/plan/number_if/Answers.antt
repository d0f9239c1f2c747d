use Rattle.term_simplify.proofs.plan.number_if.Goals as goal

pub returns-then-test : goal.returns-then-test
returns-then-test c = λ graph tree m. rw c.if-test.true (c.number.ensures graph)
