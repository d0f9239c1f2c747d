use Rattle.std.proofs.lemmas.Result.{IfOk-weaker}
use Rattle.cert_audit.proofs.Showing.{fault_ok}
use Rattle.cert_audit.proofs.Stopping.{met_visited, still_open}
use Rattle.cert_audit.proofs.visiting.visit_node.Goals as goal

pub at_stop-requires : goal.at_stop-requires
at_stop-requires c = record {
  program = c.requires.program;
  few_inputs = c.requires.few_inputs;
  few_steps = c.requires.few_steps;
  stopped = still_open c.args.budgets.now c.args.run.now c.in_ok-run.field-0.run c.in_ok-run.field-0.stop c.requires.program c.in_ok-run.ensures c.requires.is_todo;
}

pub returns-clause-visited : goal.returns-clause-visited
returns-clause-visited c =
    IfOk-weaker c.at_stop.result _ _
    (λ visited is. IfOk-weaker visited _ _
    (λ v met. met_visited c.args.budgets.now c.args.run.now c.in_ok-run.field-0.run c.in_ok-run.field-0.stop c.args.lines.now v c.in_ok-run.ensures met) is)
    c.at_stop.ensures.met

pub returns-clause-cause : goal.returns-clause-cause
returns-clause-cause c =
    fault_ok c.at_stop.result _ _
    (λ fault refused. record { run = c.in_ok-run.field-0.run; stop = c.in_ok-run.field-0.stop; advances = c.in_ok-run.ensures; refused = refused })
    c.at_stop.ensures.cause
