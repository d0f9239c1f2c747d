use Rattle.std.proofs.Common.{◌∙◌, sym, ap, arith}
use Rattle.std.specs.List.{list_all}
use Rattle.std.proofs.lemmas.Bool.{and_from}
use Rattle.std.proofs.lemmas.List.{take_all}
use Rattle.std.proofs.lemmas.List.Folds.{list_all_more}
use Rattle.cnf_form.proofs.Occurs.{has_its_variable, occurs_at}
use Rattle.cdcl_core.specs.Trails.{trail_values}
use Rattle.cdcl_core.specs.Passes.{has_true}
use Rattle.cdcl_core.proofs.Reading.{got_at}
use Rattle.cdcl_core.proofs.Forcing.{below_at, false_clause}
use Rattle.cdcl_core.proofs.descent.open_literal.Goals as goal

pub state_of-requires-clause-below : goal.state_of-requires-clause-below
state_of-requires-clause-below c =
    let at = got_at c.args.clauses.now c.loop-i.i c.at.result.now c.at.ensures.value in
    below_at _ c.args.clauses.now c.loop-i.i c.at.result.now at.0 at.1 c.requires.below

pub returns-in-Falsified : goal.returns-in-Falsified
returns-in-Falsified c =
    let at = got_at c.args.clauses.now c.loop-i.i c.at.result.now c.at.ensures.value in
    false_clause c.args.clauses.now (trail_values c.args.trail.now.entries) c.loop-i.i c.at.result.now at.0 at.1 c.in-Falsified.ensures

pub returns-in-Forces : goal.returns-in-Forces
returns-in-Forces c =
    (c.requires.calm, c.in-Forces.ensures.1, occurs_at c.args.clauses.now c.loop-i.i c.at.result.now _ c.at.ensures.value (has_its_variable c.in-Forces.literal c.at.result.now c.in-Forces.ensures.2))

pub returns-in-Open : goal.returns-in-Open
returns-in-Open c =
    (c.requires.calm, c.in-Open.ensures.1, occurs_at c.args.clauses.now c.loop-i.i c.at.result.now _ c.at.ensures.value (has_its_variable c.in-Open.literal c.at.result.now c.in-Open.ensures.2))

pub loop-i-preserved : goal.loop-i-preserved
loop-i-preserved c =
    let at = got_at c.args.clauses.now c.loop-i.i c.at.result.now c.at.ensures.value in
    list_all_more (has_true (trail_values c.args.trail.now.entries)) c.args.clauses.now c.loop-i.i c.at.result.now at.0
    ∙ and_from _ _ c.loop-i.invariant (ap (has_true (trail_values c.args.trail.now.entries)) (sym at.1) ∙ c.in-Satisfied.ensures)

pub returns : goal.returns
returns c = ap (list_all (has_true (trail_values c.args.trail.now.entries))) (sym (take_all c.loop-i.i c.args.clauses.now (omega (arith, c.len-i-end.ensures, c.loop-i-test.false)))) ∙ c.loop-i.invariant
