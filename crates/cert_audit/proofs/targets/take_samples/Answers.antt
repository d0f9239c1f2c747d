use Rattle.std.proofs.Common.{arith}
use Rattle.bv_dag.proofs.TermLaws.{there}
use Rattle.cert_audit.proofs.Valuing.{fault_at_witness, samples_are}
use Rattle.cert_audit.proofs.targets.take_samples.Goals as goal

pub new-requires : goal.new-requires
new-requires c = there c.args.others.now.fork.terms c.args.others.now.term 32 c.requires (omega arith)

pub returns-in-Ok-2-clause-samples : goal.returns-in-Ok-2-clause-samples
returns-in-Ok-2-clause-samples c =
    samples_are c.args.others.now c.args.targets c.args.lines.now c.in-Ok.taken.1.now c.in-Ok-2.rest.now c.in-Ok.taken.0.items c.in-Ok-2.witness
    c.in_ok-valued.valued c.in_ok-valued.ensures (rw (c.deref.ensures.value, c.in-Ok.is) at c.in_ok-taken.ensures.taken)
    (omega (arith, c.if-len-targets.false, c.len.ensures, c.args.others.now.values.ok.0)) (rw c.in-Ok-2.is at c.in_ok-witness.ensures.taken) (rw c.in-Ok-2.is at c.in_ok-witness.ensures.stands)

pub returns-clause-cause : goal.returns-clause-cause
returns-clause-cause c =
    fault_at_witness c.args.others.now c.args.targets c.args.lines.now c.in-Ok.taken.1.now c.in-Ok.taken.0.items c.in_ok-valued.valued c.in-Err-2.fault
    c.in_ok-valued.ensures (rw (c.deref.ensures.value, c.in-Ok.is) at c.in_ok-taken.ensures.taken)
    (omega (arith, c.if-len-targets.false, c.len.ensures, c.args.others.now.values.ok.0)) (rw c.in-Err-2.is at c.in_ok-witness.ensures.cause)
