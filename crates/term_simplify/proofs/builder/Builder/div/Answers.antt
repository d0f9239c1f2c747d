use Rattle.rv_decode.specs.declared.ops.RegisterOp.TheVariants.{Div}
use Rattle.term_simplify.proofs.MachineBuilds.{settled_builds}
use Rattle.term_simplify.proofs.builder.Builder.div.Goals as goal

pub returns-clause-ok : goal.returns-clause-ok
returns-clause-ok c =
    settled_builds c.args.self.now c.quotient-answer.new.self c.settled.new.self
    c.quotient-answer.result c.settled.result Div c.args.a c.args.b _
    c.quotient-answer.ensures.continues c.settled.ensures.same c.settled.ensures.ok
    c.quotient-answer.ensures.ok
