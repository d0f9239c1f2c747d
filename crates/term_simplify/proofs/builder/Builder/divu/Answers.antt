use Rattle.bv_dag.specs.BitVectors.{bvudiv}
use Rattle.rv_decode.specs.declared.ops.RegisterOp.TheVariants.{Divu}
use Rattle.term_simplify.proofs.Stepping.{if_ok}
use Rattle.term_simplify.proofs.MachineBuilds.{register_builds}
use Rattle.term_simplify.proofs.OperationNumbers.{divu_number}
use Rattle.term_simplify.proofs.builder.Builder.divu.Goals as goal

pub returns-clause-ok : goal.returns-clause-ok
returns-clause-ok c =
    if_ok _ _ _ c.udiv.ensures.ok (λ id n. register_builds Divu c.args.a c.args.b bvudiv
    divu_number c.requires.first c.requires.second c.requires.first n)
