use Rattle.std.proofs.Common.{rules, refl, sym, subst, ◌∷◌, ◌≡◌}
use Rattle.cert_form.specs.declared.line.CertLine.TheVariants.{CutNodes}
use Rattle.cert_audit.specs.Steps.{IsStopMet, IsUnparted}
use Rattle.cert_audit.specs.VisitFaults.{IsStopFault}
use Rattle.cert_audit.proofs.Stopping.{at_branch_underway, at_pin_underway, fork_err, fork_ok, leaf_err, leaf_ok, stopped_parted, stopped_unparted}
use Rattle.cert_audit.proofs.visiting.at_stop.Goals as goal

pub returns-in_ok-take_end-in-Ended-clause-met : goal.returns-in_ok-take_end-in-Ended-clause-met
returns-in_ok-take_end-in-Ended-clause-met c =
    let budgets = c.args.budgets.now in
    rw c.as_leaf.ensures (leaf_ok c.in_ok-take_end-in-Ended.field-0 _ (IsStopMet budgets c.args.run.now c.args.stop c.args.lines.now)
    (λ t is. rw c.in-Ended.is (is budgets)) c.in_ok-take_end-in-Ended.ensures.leaf)

pub returns-in_ok-take_cut_steps-in-Steps-clause-met : goal.returns-in_ok-take_cut_steps-in-Steps-clause-met
returns-in_ok-take_cut_steps-in-Steps-clause-met c =
    let budgets = c.args.budgets.now in
    rw c.as_leaf-in-Steps.ensures (leaf_ok c.in_ok-take_cut_steps-in-Steps.field-0 _ (IsStopMet budgets c.args.run.now c.args.stop c.args.lines.now)
    (λ t is. rw c.in-Steps.is (is budgets)) c.in_ok-take_cut_steps-in-Steps.ensures.leaf)

pub returns-in-Some-clause-met : goal.returns-in-Some-clause-met
returns-in-Some-clause-met c =
    let budgets = c.args.budgets.now in
    let run = c.args.run.now in
    let t = c.in_ok-taken-in-Branch.taken in
    let is : c.args.lines.now ≡ CutNodes ∷ c.in-Some.rest.now = search rules in
    stopped_unparted budgets run c.args.lines.now t.rest.now c.args.stop (at_branch_underway budgets run c.in-Branch.term c.args.stop c.in-Branch.is) t.leaf
    (subst (λ lines. IsUnparted budgets run lines t.leaf t.rest.now) (sym is) (c.in_ok-taken-in-Branch.ensures budgets refl))

pub returns-in-Some-behind_cut_nodes-clause-met : goal.returns-in-Some-behind_cut_nodes-clause-met
returns-in-Some-behind_cut_nodes-clause-met c =
    let budgets = c.args.budgets.now in
    let run = c.args.run.now in
    let t = c.in_ok-taken-in-Pin.taken in
    let is : c.args.lines.now ≡ CutNodes ∷ c.in-Some-behind_cut_nodes.rest.now = search rules in
    stopped_unparted budgets run c.args.lines.now t.rest.now c.args.stop (at_pin_underway budgets run c.in-Pin.place c.in-Pin.term c.args.stop c.in-Pin.is) t.leaf
    (subst (λ lines. IsUnparted budgets run lines t.leaf t.rest.now) (sym is) (c.in_ok-taken-in-Pin.ensures budgets refl))

pub returns-in_ok-at_branch-in-Branch-clause-met : goal.returns-in_ok-at_branch-in-Branch-clause-met
returns-in_ok-at_branch-in-Branch-clause-met c =
    let budgets = c.args.budgets.now in
    let run = c.args.run.now in
    rw c.as_fork.ensures (fork_ok c.in_ok-at_branch-in-Branch.field-0 _ (IsStopMet budgets run c.args.stop c.args.lines.now)
    (λ w is. stopped_parted budgets run c.args.lines.now w.rest.now c.args.stop (at_branch_underway budgets run c.in-Branch.term c.args.stop c.in-Branch.is)
    w.kids.items (is budgets)) c.in_ok-at_branch-in-Branch.ensures.went)

pub returns-in_ok-at_pin-in-Pin-clause-met : goal.returns-in_ok-at_pin-in-Pin-clause-met
returns-in_ok-at_pin-in-Pin-clause-met c =
    let budgets = c.args.budgets.now in
    let run = c.args.run.now in
    rw c.as_fork-in-Pin.ensures (fork_ok c.in_ok-at_pin-in-Pin.field-0 _ (IsStopMet budgets run c.args.stop c.args.lines.now)
    (λ w is. stopped_parted budgets run c.args.lines.now w.rest.now c.args.stop (at_pin_underway budgets run c.in-Pin.place c.in-Pin.term c.args.stop c.in-Pin.is)
    w.kids.items (is budgets)) c.in_ok-at_pin-in-Pin.ensures.went)

pub returns-in_ok-take_end-in-Ended-clause-cause : goal.returns-in_ok-take_end-in-Ended-clause-cause
returns-in_ok-take_end-in-Ended-clause-cause c =
    rw c.as_leaf.ensures (leaf_err c.in_ok-take_end-in-Ended.field-0 _ (IsStopFault c.args.budgets.now c.args.run.now c.args.stop c.args.lines.now)
    (λ fault refused. rw c.in-Ended.is refused) c.in_ok-take_end-in-Ended.ensures.cause)

pub returns-in_ok-take_cut_steps-in-Steps-clause-cause : goal.returns-in_ok-take_cut_steps-in-Steps-clause-cause
returns-in_ok-take_cut_steps-in-Steps-clause-cause c =
    rw c.as_leaf-in-Steps.ensures (leaf_err c.in_ok-take_cut_steps-in-Steps.field-0 _ (IsStopFault c.args.budgets.now c.args.run.now c.args.stop c.args.lines.now)
    (λ fault refused. rw c.in-Steps.is refused) c.in_ok-take_cut_steps-in-Steps.ensures.cause)

pub returns-in_ok-at_branch-in-Branch-clause-cause : goal.returns-in_ok-at_branch-in-Branch-clause-cause
returns-in_ok-at_branch-in-Branch-clause-cause c =
    rw c.as_fork.ensures (fork_err c.in_ok-at_branch-in-Branch.field-0 _ (IsStopFault c.args.budgets.now c.args.run.now c.args.stop c.args.lines.now)
    (λ fault refused. rw c.in-Branch.is (refused c.in_default.ensures)) c.in_ok-at_branch-in-Branch.ensures.cause)

pub returns-in_ok-at_pin-in-Pin-clause-cause : goal.returns-in_ok-at_pin-in-Pin-clause-cause
returns-in_ok-at_pin-in-Pin-clause-cause c =
    rw c.as_fork-in-Pin.ensures (fork_err c.in_ok-at_pin-in-Pin.field-0 _ (IsStopFault c.args.budgets.now c.args.run.now c.args.stop c.args.lines.now)
    (λ fault refused. rw c.in-Pin.is (refused c.in_default-behind_cut_nodes.ensures)) c.in_ok-at_pin-in-Pin.ensures.cause)
