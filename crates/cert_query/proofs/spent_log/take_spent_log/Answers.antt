use Rattle.std.proofs.Common.{◌≡◌, ◌∙◌}
use Rattle.bv_dag.specs.Inputs.{HasTwo, asserted_inputs}
use Rattle.circuit_spec.specs.Circuits.{clauses}
use Rattle.cert_query.specs.ClauseLines.{clauses_at}
use Rattle.cert_query.proofs.Spending.{is_not_spent, is_spending_fault, is_spent, is_wide}
use Rattle.cert_query.proofs.Taken.{of_fault, of_one}
use Rattle.cert_query.proofs.spent_log.take_spent_log.Goals as goal

pub returns-in_ok-encoding-in-MoreInputs-clause-taken : goal.returns-in_ok-encoding-in-MoreInputs-clause-taken
returns-in_ok-encoding-in-MoreInputs-clause-taken c =
    let q = c.args.query.now in
    let wide : HasTwo (asserted_inputs c.args.query.now) =
    is_wide q c.dag.result.now c.nodes.result.now c.asserted.result.now c.in_ok-occurring.field-0 c.dag.ensures c.nodes.ensures.value c.asserted.ensures.value c.in_ok-occurring.ensures c.in-MoreInputs.is in
    let same : c.formula.result.now ≡ clauses c.args.query.now = c.formula.ensures ∙ c.in_ok-encoding-in-MoreInputs.ensures.formula in
    of_one _ _ c.take_learnt.result
    (λ spent has. is_spent q c.formula.result.now c.args.budget c.args.lines.now spent.log spent.rest.now wide same has)
    c.take_learnt.ensures.taken

pub returns-in_ok-encoding-in-MoreInputs-clause-refused : goal.returns-in_ok-encoding-in-MoreInputs-clause-refused
returns-in_ok-encoding-in-MoreInputs-clause-refused c =
    let same : c.formula.result.now ≡ clauses c.args.query.now = c.formula.ensures ∙ c.in_ok-encoding-in-MoreInputs.ensures.formula in
    of_fault _ _ c.take_learnt.result
    (λ fault refused. is_not_spent c.args.query.now c.formula.result.now c.args.budget (clauses_at c.args.lines.now) same refused)
    c.take_learnt.ensures.refused

pub returns-in_ok-encoding-in-MoreInputs-clause-cause : goal.returns-in_ok-encoding-in-MoreInputs-clause-cause
returns-in_ok-encoding-in-MoreInputs-clause-cause c =
    let q = c.args.query.now in
    let wide : HasTwo (asserted_inputs c.args.query.now) =
    is_wide q c.dag.result.now c.nodes.result.now c.asserted.result.now c.in_ok-occurring.field-0 c.dag.ensures c.nodes.ensures.value c.asserted.ensures.value c.in_ok-occurring.ensures c.in-MoreInputs.is in
    let same : c.formula.result.now ≡ clauses c.args.query.now = c.formula.ensures ∙ c.in_ok-encoding-in-MoreInputs.ensures.formula in
    of_fault _ _ c.take_learnt.result
    (λ fault refused. is_spending_fault q c.formula.result.now c.args.budget c.args.lines.now fault wide same refused)
    c.take_learnt.ensures.cause
