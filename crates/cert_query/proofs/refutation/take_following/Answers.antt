use Rattle.std.proofs.Common.{◌≡◌, ◌∙◌, ◌==◌, List, ap, length, true, false}
use Rattle.cnf_form.specs.Literals.{Literal}
use Rattle.cnf_form.specs.Refutations.{is_empty_clause}
use Rattle.cert_query.specs.Refuting.{IsNoted}
use Rattle.cert_query.proofs.Clauses.{begins_with_none}
use Rattle.cert_query.proofs.Refuting.{are_not_refuting, are_refuting, empty_by_length, fault_at_clause, fault_at_end, none_so_far, one_does_not_follow, one_more_follows}
use Rattle.cert_query.proofs.refutation.take_following.Goals as goal

pub lines-init : goal.lines-init
lines-init c = none_so_far c.args.checker.now c.args.lines.now

pub returns-then-not-branch-clause-refused : goal.returns-then-not-branch-clause-refused
returns-then-not-branch-clause-refused c =
    let noted : IsNoted c.lines.checker c.note_following.new.checker c.in-Some.step.now false = rw c.if-not-branch.true at c.in_ok-note_following.ensures in
    one_does_not_follow c.args.checker.now c.lines.checker c.note_following.new.checker c.args.lines.now c.lines.rest.now c.in-Some.more.now c.lines.is_closed c.in-Some.step.now
    c.lines.invariant c.in-Some.ensures noted

pub lines-preserved : goal.lines-preserved
lines-preserved c =
    let noted : IsNoted c.lines.checker c.note_following.new.checker c.in-Some.step.now true = rw c.if-not-branch.false at c.in_ok-note_following.ensures in
    let ends : c.is_empty-is_closed.result ≡ is_empty_clause c.in-Some.step.now.clause =
    c.is_empty-is_closed.ensures ∙ ap (λ (ls : List Literal). length ls == 0) (c.literals.ensures.value ∙ c.clause.ensures) ∙ empty_by_length c.in-Some.step.now.clause in
    one_more_follows c.args.checker.now c.lines.checker c.note_following.new.checker c.args.lines.now c.lines.rest.now c.in-Some.more.now c.lines.is_closed c.is_empty-is_closed.result c.in-Some.step.now
    c.lines.invariant c.in-Some.ensures noted ends

pub returns-then-is_closed-clause-taken : goal.returns-then-is_closed-clause-taken
returns-then-is_closed-clause-taken c =
    are_refuting c.args.checker.now c.lines.checker c.args.lines.now c.lines.rest.now c.lines.is_closed c.lines.invariant
    (begins_with_none c.lines.rest.now c.in_default.ensures) c.if-is_closed.true

pub returns-else-is_closed-clause-refused : goal.returns-else-is_closed-clause-refused
returns-else-is_closed-clause-refused c =
    are_not_refuting c.args.checker.now c.lines.checker c.args.lines.now c.lines.rest.now c.lines.is_closed c.lines.invariant
    (begins_with_none c.lines.rest.now c.in_default.ensures) c.if-is_closed.false

pub returns-then-not-branch-clause-cause : goal.returns-then-not-branch-clause-cause
returns-then-not-branch-clause-cause c =
    let noted : IsNoted c.lines.checker c.note_following.new.checker c.in-Some.step.now false = rw c.if-not-branch.true at c.in_ok-note_following.ensures in
    fault_at_clause c.args.checker.now c.lines.checker c.note_following.new.checker c.args.lines.now c.lines.rest.now c.in-Some.more.now c.lines.is_closed c.in-Some.step.now c.at.result
    c.lines.invariant c.in-Some.ensures noted c.at.ensures

pub returns-else-is_closed-clause-cause : goal.returns-else-is_closed-clause-cause
returns-else-is_closed-clause-cause c =
    fault_at_end c.args.checker.now c.lines.checker c.args.lines.now c.lines.rest.now c.lines.is_closed c.at-else-is_closed.result c.lines.invariant
    c.in_default.ensures c.if-is_closed.false c.at-else-is_closed.ensures
