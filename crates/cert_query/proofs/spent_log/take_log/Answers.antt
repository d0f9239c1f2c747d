use Rattle.std.proofs.Common.{◌≡◌, ◌∙◌, ◌≤◌, ◌<◌, arith, suc, true, false, inl, inr}
use Rattle.cert_query.specs.Spending.{IsLearnt}
use Rattle.cert_query.specs.Variables.{are_noted}
use Rattle.cert_query.proofs.Clauses.{begins_with_none}
use Rattle.cert_query.proofs.Spending.{all_learnt, fault_at_clause, fault_at_end, one_is_not_learnt, one_more_learnt, too_few, too_many}
use Rattle.cert_query.proofs.Taken.{of_none, of_some}
use Rattle.cert_query.proofs.spent_log.take_log.Goals as goal

pub returns-in_default-clause-refused : goal.returns-in_default-clause-refused
returns-in_default-clause-refused c =
    let few : suc c.loop.counter ≤ c.args.budget = omega (arith, c.loop-test.true) in
    λ whole. absurd (too_few (are_noted c.args.seen.now) c.args.checker.now c.loop.checker c.args.lines.now c.loop.rest.now c.loop.log c.loop.counter c.args.budget
    c.loop.invariant (begins_with_none c.loop.rest.now c.in_default.ensures) few whole)

pub returns-then-is_some-clause-refused : goal.returns-then-is_some-clause-refused
returns-then-is_some-clause-refused c =
    let found = of_some _ _ c.first_clause-2.result c.if-is_some.ensures c.first_clause-2.ensures in
    λ whole. absurd (too_many (are_noted c.args.seen.now) c.args.checker.now c.loop.checker c.args.lines.now c.loop.rest.now c.loop.log c.loop.counter c.args.budget found.0.0.now found.0.1.now
    c.loop.invariant found.1 (omega (arith, c.loop-test.false, c.loop.auto.counter-end)) whole)

pub returns-then-not-branch-clause-refused : goal.returns-then-not-branch-clause-refused
returns-then-not-branch-clause-refused c =
    let over = are_noted c.args.seen.now in
    let is : IsLearnt (are_noted c.args.seen.now) c.loop.checker c.learn.new.checker c.loop.log c.learn.new.log c.in-Some.step.now false = rw c.if-not-branch.true at c.in_ok-learn.ensures in
    λ whole. one_is_not_learnt over c.args.checker.now c.loop.checker c.learn.new.checker c.args.lines.now c.loop.rest.now c.in-Some.more.now c.loop.log c.learn.new.log c.loop.counter c.in-Some.step.now
    c.loop.invariant c.in-Some.ensures is

pub loop-preserved : goal.loop-preserved
loop-preserved c =
    let over = are_noted c.args.seen.now in
    let is : IsLearnt (are_noted c.args.seen.now) c.loop.checker c.learn.new.checker c.loop.log c.learn.new.log c.in-Some.step.now true = rw c.if-not-branch.false at c.in_ok-learn.ensures in
    one_more_learnt over c.args.checker.now c.loop.checker c.learn.new.checker c.args.lines.now c.loop.rest.now c.in-Some.more.now c.loop.log c.learn.new.log c.loop.counter c.in-Some.step.now
    c.loop.invariant c.in-Some.ensures is

pub returns-clause-taken : goal.returns-clause-taken
returns-clause-taken c =
    all_learnt (are_noted c.args.seen.now) c.args.checker.now c.loop.checker c.args.lines.now c.loop.rest.now c.loop.log c.loop.counter c.args.budget
    c.loop.invariant (begins_with_none c.loop.rest.now (of_none _ _ c.first_clause-2.result c.if-is_some.ensures c.first_clause-2.ensures))
    (omega (arith, c.loop-test.false, c.loop.auto.counter-end))

pub returns-in_default-clause-cause : goal.returns-in_default-clause-cause
returns-in_default-clause-cause c =
    let few : c.loop.counter < c.args.budget = omega (arith, c.loop-test.true) in
    fault_at_end (are_noted c.args.seen.now) c.args.checker.now c.loop.checker c.args.lines.now c.loop.rest.now c.loop.log c.loop.counter c.args.budget c.at.result
    c.loop.invariant c.in_default.ensures few c.at.ensures

pub returns-then-not-branch-clause-cause : goal.returns-then-not-branch-clause-cause
returns-then-not-branch-clause-cause c =
    let is : IsLearnt (are_noted c.args.seen.now) c.loop.checker c.learn.new.checker c.loop.log c.learn.new.log c.in-Some.step.now false = rw c.if-not-branch.true at c.in_ok-learn.ensures in
    fault_at_clause (are_noted c.args.seen.now) c.args.checker.now c.loop.checker c.args.lines.now c.loop.rest.now c.in-Some.more.now c.loop.log c.loop.counter c.args.budget c.in-Some.step.now
    c.at-then-not-branch.result c.loop.invariant c.in-Some.ensures (omega (arith, c.loop-test.true)) (inr is) c.at-then-not-branch.ensures

pub returns-then-is_some-clause-cause : goal.returns-then-is_some-clause-cause
returns-then-is_some-clause-cause c =
    let found = of_some _ _ c.first_clause-2.result c.if-is_some.ensures c.first_clause-2.ensures in
    let all : c.loop.counter ≡ c.args.budget = omega (arith, c.loop-test.false, c.loop.auto.counter-end) in
    fault_at_clause (are_noted c.args.seen.now) c.args.checker.now c.loop.checker c.args.lines.now c.loop.rest.now found.0.1.now c.loop.log c.loop.counter c.args.budget found.0.0.now
    c.at-then-is_some.result c.loop.invariant found.1 (omega (arith, all)) (inl (c.loop.invariant.whole ∙ all)) c.at-then-is_some.ensures
