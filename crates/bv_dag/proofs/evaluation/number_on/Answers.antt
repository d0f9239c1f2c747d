use Rattle.std.proofs.Common.{ap, ◌∙◌}
use Rattle.bv_dag.specs.BitVectors.{BitVector}
use Rattle.bv_dag.proofs.Evaluating.{read_first}
use Rattle.bv_dag.proofs.evaluation.number_on.Goals as goal

pub returns-clause-value : goal.returns-clause-value
returns-clause-value c =
    c.number.ensures.value
    ∙ ap (λ (w : BitVector). w.number) (read_first c.args.terms.now c.args.input.now c.evaluate_to.new.words.items c.args.id c.index.result.now c.in_ok-evaluate_to.ensures.first c.in_ok-evaluate_to.ensures.reached c.index.ensures)
