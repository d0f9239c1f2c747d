use Rattle.std.proofs.Common.{arith}
use Rattle.bv_dag.proofs.TermLaws.{there}
use Rattle.sym_state.specs.Undecided.{IsBranch, IsPin}
use Rattle.cert_complete.proofs.left_out.term_of.Goals as goal

pub returns-in-Branch : goal.returns-in-Branch
returns-in-Branch c =
    let at : IsBranch c.args.run.now c.in-Branch.term = rw c.in-Branch.is at c.requires in
    there c.args.run.now.terms c.in-Branch.term 1 at.is_term.width (omega arith)

pub returns-in-Pin : goal.returns-in-Pin
returns-in-Pin c =
    let at : IsPin c.args.run.now c.in-Pin.place c.in-Pin.term = rw c.in-Pin.is at c.requires in
    there c.args.run.now.terms c.in-Pin.term 32 at.is_term.width (omega arith)
