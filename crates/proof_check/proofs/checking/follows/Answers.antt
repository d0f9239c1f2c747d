use Rattle.std.proofs.Common.{◌∙◌, ap, arith, ◌++◌, ◌-◌, length}
use Rattle.cnf_form.specs.Propagation.{follows, falsify, reaches_conflict}
use Rattle.cnf_form.specs.Refutations.{clauses_of}
use Rattle.proof_check.specs.Marking.{marked}
use Rattle.proof_check.proofs.Walks.{walk_empty, walk_last, accepted, refused}
use Rattle.proof_check.proofs.checking.follows.Goals as goal

pub returns-then-hints-eq0 : goal.returns-then-hints-eq0
unfolding follows
returns-then-hints-eq0 c = rw (← c.hints-hints.ensures) (walk_empty _ c.hints-hints.result.now (falsify c.args.step.now.clause) c.if-hints-eq0.true)

pub loop-i-init : goal.loop-i-init
unfolding follows
loop-i-init c =
    rw (← c.hints-hints.ensures)
    (ap (reaches_conflict (c.args.formula.now ++ clauses_of c.args.earlier.now) c.hints-hints.result.now) (c.in_ok-falsify.ensures ∙ ap falsify (c.literals.ensures.value ∙ c.clause.ensures)))

pub returns-in-None : goal.returns-in-None
returns-in-None c =
    refused (c.args.formula.now ++ clauses_of c.args.earlier.now) c.hints-hints.result.now c.loop-i.i _ (omega arith) c.in-None.ensures
    ∙ c.loop-i.invariant

pub loop-i-preserved : goal.loop-i-preserved
loop-i-preserved c =
    accepted (c.args.formula.now ++ clauses_of c.args.earlier.now) c.hints-hints.result.now c.loop-i.i _ _ c.in-Some.literal (omega arith) c.in-Some.ensures c.in_ok-assign-in-Some.ensures.ok
    ∙ c.loop-i.invariant

pub returns : goal.returns
returns c =
    c.hint_is_falsified.ensures
    ∙ walk_last (c.args.formula.now ++ clauses_of c.args.earlier.now) c.hints-hints.result.now c.loop-i.i (length c.hints-hints.result.now - 1) (marked c.loop-i.marks) (omega arith) (omega arith)
    ∙ c.loop-i.invariant
