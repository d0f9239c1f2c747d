use Rattle.std.proofs.Common.{◌≡◌, ◌∙◌, true, ap, map}
use Rattle.cnf_form.proofs.Soundness.{no_valuation}
use Rattle.cnf_form.specs.Valuations.{satisfies, valuation}
use Rattle.bv_dag.specs.Queries.{holds}
use Rattle.circuit_spec.specs.Bytes.{bytes_of, input_byte}
use Rattle.circuit_spec.specs.Circuits.{clauses}
use Rattle.circuit_spec.proofs.Solutions.{solution}
use Rattle.query_decide.proofs.Failing.{refuted_fails}
use Rattle.query_decide.proofs.deciding.decide_by_clauses.Goals as goal

pub returns-in-Found : goal.returns-in-Found
unfolding bytes_of
returns-in-Found c =
    let q = c.args.query.now in
    let v = valuation c.in-Found.values in
    let is = c.formula.ensures ∙ c.in_ok-encoding.ensures.formula in
    let found = rw (c.in-Found.is, is) at c.in_ok-values.ensures.found in
    let satisfied : satisfies v (clauses q) ≡ true = found in
    let bytes = c.in_ok-bytes-in-Found.ensures ∙ ap (map (input_byte v)) c.in_ok-encoding.ensures.inputs in
    ap (holds q) bytes ∙ solution q v c.requires.dag c.requires.bits satisfied

pub returns-in-Refuted : goal.returns-in-Refuted
returns-in-Refuted c =
    let q = c.args.query.now in
    let is = c.formula.ensures ∙ c.in_ok-encoding.ensures.formula in
    let shown = rw (c.in-Refuted.is, is) at c.in_ok-values.ensures.refuted in
    refuted_fails q c.requires.dag c.requires.bits (λ v. no_valuation v (clauses q) c.in-Refuted.field-0 shown)
