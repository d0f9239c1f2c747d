use Rattle.std.proofs.Common.{arith}
use Rattle.cow_pages.specs.SymbolicMemory.{memory_flags}
use Rattle.rv_machine.proofs.Addresses.{mapped_none, mapped-more}
use Rattle.sym_machine.proofs.call.are_mapped.Goals as goal

pub loop-i-init : goal.loop-i-init
loop-i-init c = record { all = mapped_none (memory_flags c.args.state.now.memory) c.args.start }

pub loop-i-preserved : goal.loop-i-preserved
loop-i-preserved c = record {
  all = mapped-more (memory_flags c.args.state.now.memory) c.args.start c.loop-i.i c.loop-i.mapped c.is_mapped-mapped.result (omega arith) c.loop-i.invariant.all c.is_mapped-mapped.ensures;
}
