use Rattle.std.proofs.Common.{◌≡◌, ◌≤◌, length, arith}
use Rattle.bv_dag.specs.Graphs.{width_of}
use Rattle.cert_query.proofs.Faulted.{no_width_past}
use Rattle.cert_query.proofs.assertions.is_bit.Goals as goal

pub returns-else-id-len : goal.returns-else-id-len
returns-else-id-len c =
    let past : length c.args.dag.now.nodes ≤ c.args.id = omega (arith, c.len.ensures, c.if-id-len.false) in
    let none : width_of c.args.dag.now c.args.id ≡ 0 = no_width_past c.args.dag.now c.args.id past in
    grind (arith, none)
