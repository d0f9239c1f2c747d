use Rattle.std.proofs.lemmas.Result.{IfOk-weaker}
use Rattle.query_cache.proofs.Serving.{serves_sat, serves_unsat}
use Rattle.query_cache.proofs.shard.serves.Goals as goal

pub returns-in-Sat : goal.returns-in-Sat
returns-in-Sat c =
    let serves = serves_sat c.args.asked.now c.args.kept.now c.args.answer.now c.in-Sat.field-0 c.in-Sat.is in
    IfOk-weaker c.asks_no_more.result _ _ (λ yes tells. (λ h. serves.0 (tells.0 h), λ h. tells.1 (serves.1 h))) c.asks_no_more.ensures

pub returns-in-Unsat : goal.returns-in-Unsat
returns-in-Unsat c =
    let serves = serves_unsat c.args.asked.now c.args.kept.now c.args.answer.now c.in-Unsat.is in
    IfOk-weaker c.asks_no_more-in-Unsat.result _ _ (λ yes tells. (λ h. serves.0 (tells.0 h), λ h. tells.1 (serves.1 h))) c.asks_no_more-in-Unsat.ensures
