use Rattle.std.proofs.Common.{◌++◌, ◌∙◌, sym, ap, arith, true, false, take}
use Rattle.std.proofs.lemmas.List.{drop_all}
use Rattle.cnf_form.specs.Refutations.{follows_all, clauses_of}
use Rattle.proof_check.proofs.Turns.{follows_kept, follows_lost, follows_none, follows_test}
use Rattle.proof_check.proofs.checking.check.Goals as goal

pub returns-then-not-branch : goal.returns-then-not-branch
returns-then-not-branch c =
    follows_lost c.args.formula.now c.steps-steps.result.now c.loop-i.i c.index-steps-i.result (omega arith)
    (follows_test _ c.clauses.result.now _ _ _ c.in_ok-follows.field-0 false c.index-steps-i.is c.clauses.ensures c.in_ok-follows.ensures c.if-not-branch.true)
    ∙ c.loop-i.invariant

pub loop-i-preserved : goal.loop-i-preserved
loop-i-preserved c =
    follows_kept c.args.formula.now c.steps-steps.result.now c.loop-i.i c.index-steps-i.result (omega arith)
    (follows_test _ c.clauses.result.now _ _ _ c.in_ok-follows.field-0 true c.index-steps-i.is c.clauses.ensures c.in_ok-follows.ensures c.if-not-branch.false)
    ∙ c.loop-i.invariant

pub returns : goal.returns
returns c =
    sym (ap (follows_all (c.args.formula.now ++ clauses_of (take c.loop-i.i c.steps-steps.result.now))) (drop_all c.loop-i.i c.steps-steps.result.now c.loop-i-test.false) ∙ follows_none _)
    ∙ c.loop-i.invariant
