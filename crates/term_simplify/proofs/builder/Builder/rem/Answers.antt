use Rattle.rv_decode.specs.declared.ops.RegisterOp.TheVariants.{Rem}
use Rattle.term_simplify.proofs.MachineBuilds.{settled_builds}
use Rattle.term_simplify.proofs.builder.Builder.rem.Goals as goal

pub returns-clause-ok : goal.returns-clause-ok
returns-clause-ok c =
    settled_builds c.args.self.now c.signed_remainder-answer.new.self c.settled.new.self
    c.signed_remainder-answer.result c.settled.result Rem c.args.a c.args.b _
    c.signed_remainder-answer.ensures.continues c.settled.ensures.same c.settled.ensures.ok
    c.signed_remainder-answer.ensures.ok
