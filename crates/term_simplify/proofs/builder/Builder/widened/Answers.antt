use Rattle.std.proofs.Common.{arith, ◌∙◌}
use Rattle.bv_dag.specs.Graphs.{val}
use Rattle.bv_dag.proofs.TermLaws.{width-val}
use Rattle.term_simplify.proofs.MachineBuilds.{Builds-worth}
use Rattle.term_simplify.proofs.OperationNumbers.{widened_number}
use Rattle.term_simplify.proofs.Stepping.{if_ok}
use Rattle.term_simplify.proofs.builder.Builder.widened.Goals as goal

pub returns-clause-ok : goal.returns-clause-ok
returns-clause-ok c =
    if_ok _ _ _ c.extend.ensures.ok (λ id n. Builds-worth
    (omega (arith, c.requires.width, c.requires.narrow))
    (λ input. widened_number c.args.bits c.args.signed (val c.args.self.now c.args.a input)
    c.requires.narrow (width-val c.args.self.now c.args.a input ∙ c.requires.width)) n)
