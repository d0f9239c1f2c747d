use Rattle.std.proofs.Common.{◌≡◌, ◌∙◌, subst}
use Rattle.bv_dag.specs.Graphs.{IsDag}
use Rattle.circuit_spec.specs.Circuits.{clauses}
use Rattle.cert_query.proofs.Refuting.{is_refuted}
use Rattle.cert_query.proofs.Taken.{of_one}
use Rattle.cert_query.proofs.refutation.take_refutation.Goals as goal

pub returns-clause-taken : goal.returns-clause-taken
returns-clause-taken c =
    let q = c.args.query.now in
    let dag : IsDag c.args.query.now.graph = subst IsDag c.dag.ensures c.nodes.ensures.fit in
    let same : c.in_ok-checker.checker ≡ clauses c.args.query.now = c.in_ok-checker.ensures ∙ c.formula.ensures ∙ c.in_ok-encoding.ensures.formula in
    of_one _ _ c.take_following.result
    (λ rest refutation. is_refuted q c.in_ok-checker.checker c.args.lines.now rest.now dag c.asserted.ensures.bits same refutation)
    c.take_following.ensures.taken
