use Rattle.bv_dag.specs.BitVectors.{bvurem}
use Rattle.rv_decode.specs.declared.ops.RegisterOp.TheVariants.{Remu}
use Rattle.term_simplify.proofs.Stepping.{if_ok}
use Rattle.term_simplify.proofs.MachineBuilds.{register_builds}
use Rattle.term_simplify.proofs.OperationNumbers.{remu_number}
use Rattle.term_simplify.proofs.builder.Builder.remu.Goals as goal

pub returns-clause-ok : goal.returns-clause-ok
returns-clause-ok c =
    if_ok _ _ _ c.urem.ensures.ok (λ id n. register_builds Remu c.args.a c.args.b bvurem
    remu_number c.requires.first c.requires.second c.requires.first n)
