use Rattle.std.proofs.Common.{◌≡◌}
use Rattle.fork_spec.specs.Walks.{value_side}
use Rattle.cert_audit.proofs.values.take_values.Goals as goal

pub returns-in_default-open_value-clause-all : goal.returns-in_default-open_value-clause-all
returns-in_default-open_value-clause-all c = λ value more same.
    let first : c.side-item.result ≡ value_side value = rw same at c.side-item.is in
    c.in_default-open_value.ensures value first
