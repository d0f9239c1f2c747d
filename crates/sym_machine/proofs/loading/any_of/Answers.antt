use Rattle.sym_machine.proofs.Loads.{any_made}
use Rattle.sym_machine.proofs.loading.any_of.Goals as goal

pub returns : goal.returns
returns c = any_made c.args.state.now c.combined.new.self c.combined-2.new.self c.combined-2.result c.args.mask c.args.term c.in_ok-bits.bits c.in_ok-bits.ensures.ok c.combined-2.ensures.ok
