use Rattle.std.proofs.Common.{◌*◌}
use Rattle.bv_dag.specs.Graphs.{val}
use Rattle.term_simplify.proofs.MachineBuilds.{Builds-worth}
use Rattle.term_simplify.proofs.OperationNumbers.{byte_width, byte_number}
use Rattle.term_simplify.proofs.Stepping.{if_ok}
use Rattle.term_simplify.proofs.builder.Builder.byte.Goals as goal

pub returns-clause-ok : goal.returns-clause-ok
returns-clause-ok c =
    if_ok _ _ _ c.extract.ensures.ok (λ id n. Builds-worth (byte_width (8 * c.args.at))
    (λ input. byte_number c.args.at (val c.args.self.now c.args.a input)) n)
