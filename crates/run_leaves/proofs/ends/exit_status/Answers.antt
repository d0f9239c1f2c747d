use Rattle.std.proofs.Common.{ap, ◌∙◌}
use Rattle.sym_state.specs.Symbolic.{value_at}
use Rattle.run_leaves.proofs.Leaving.{status_made}
use Rattle.run_leaves.proofs.ends.exit_status.Goals as goal

pub returns : goal.returns
returns c =
    status_made c.byte_term.result c.args.state.now c.byte_at.new.self c.byte_term.new.self c.value-value.result c.in_ok-byte.byte
    (c.value-value.ensures.value ∙ ap (value_at c.args.state.now.registers) c.new.ensures) c.in_ok-byte.ensures.ok c.byte_term.ensures.ok
