use Rattle.std.proofs.Common.{refl}
use Rattle.cert_audit.specs.Steps.{IsVisited}
use Rattle.cert_audit.specs.VisitFaults.{IsVisitFault}
use Rattle.cert_audit.proofs.Stopping.{asked_on, asked_room, leaf_err, leaf_ok, others_of, others_room}
use Rattle.cert_audit.proofs.visiting.visit_part.Goals as goal

pub take_conflicts-requires-clause-writable : goal.take_conflicts-requires-clause-writable
take_conflicts-requires-clause-writable c = asked_room c.args.budgets.now c.args.todo.now c.requires c.in-Conflicts.asked c.in-Conflicts.is

pub take_conflicts-requires-clause-small : goal.take_conflicts-requires-clause-small
take_conflicts-requires-clause-small c = (asked_on c.args.budgets.now c.args.todo.now c.requires c.in-Conflicts.asked c.in-Conflicts.is).small

pub take_targets-requires-clause-writable : goal.take_targets-requires-clause-writable
take_targets-requires-clause-writable c = others_room c.args.budgets.now c.args.todo.now c.requires c.in-Targets.others c.in-Targets.is

pub take_targets-requires-clause-unknown : goal.take_targets-requires-clause-unknown
take_targets-requires-clause-unknown c = (others_of c.args.budgets.now c.args.todo.now c.requires c.in-Targets.others c.in-Targets.is).unknown

pub take_targets-requires-clause-without : goal.take_targets-requires-clause-without
take_targets-requires-clause-without c = (others_of c.args.budgets.now c.args.todo.now c.requires c.in-Targets.others c.in-Targets.is).without

pub returns-in_ok-taken-in-Conflicts-clause-visited : goal.returns-in_ok-taken-in-Conflicts-clause-visited
returns-in_ok-taken-in-Conflicts-clause-visited c =
    let budgets = c.args.budgets.now in
    rw c.as_leaf.ensures (leaf_ok c.in_ok-taken-in-Conflicts.taken _ (IsVisited budgets c.args.todo.now c.args.lines.now)
    (λ t is. rw c.in-Conflicts.is (is budgets refl)) c.in_ok-taken-in-Conflicts.ensures.leaf)

pub returns-in_ok-taken-in-Targets-clause-visited : goal.returns-in_ok-taken-in-Targets-clause-visited
returns-in_ok-taken-in-Targets-clause-visited c =
    let budgets = c.args.budgets.now in
    rw c.as_leaf-in-Targets.ensures (leaf_ok c.in_ok-taken-in-Targets.taken _ (IsVisited budgets c.args.todo.now c.args.lines.now)
    (λ t is. rw c.in-Targets.is (is budgets refl)) c.in_ok-taken-in-Targets.ensures.leaf)

pub returns-in_ok-taken-in-Conflicts-clause-cause : goal.returns-in_ok-taken-in-Conflicts-clause-cause
returns-in_ok-taken-in-Conflicts-clause-cause c =
    rw c.as_leaf.ensures (leaf_err c.in_ok-taken-in-Conflicts.taken _ (IsVisitFault c.args.budgets.now c.args.todo.now c.args.lines.now)
    (λ fault refused. rw c.in-Conflicts.is refused) c.in_ok-taken-in-Conflicts.ensures.cause)

pub returns-in_ok-taken-in-Targets-clause-cause : goal.returns-in_ok-taken-in-Targets-clause-cause
returns-in_ok-taken-in-Targets-clause-cause c =
    rw c.as_leaf-in-Targets.ensures (leaf_err c.in_ok-taken-in-Targets.taken _ (IsVisitFault c.args.budgets.now c.args.todo.now c.args.lines.now)
    (λ fault refused. rw c.in-Targets.is refused) c.in_ok-taken-in-Targets.ensures.cause)
