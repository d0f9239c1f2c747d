use Rattle.std.proofs.Common.{arith}
use Rattle.sym_machine.proofs.Calls.{more_written, none_written}
use Rattle.sym_machine.proofs.call.emit.Goals as goal

pub loop-i-init : goal.loop-i-init
loop-i-init c = record { written = none_written c.args.state.now c.args.start }

pub loop-i-preserved : goal.loop-i-preserved
loop-i-preserved c = record {
  written = rw c.in_ok-emit.ensures.ok (more_written c.args.state.now c.loop-i.state c.args.start c.loop-i.i c.byte.result (omega arith)
      c.loop-i.invariant.written c.byte.ensures.value);
}
