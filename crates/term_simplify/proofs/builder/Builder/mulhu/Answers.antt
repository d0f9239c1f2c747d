use Rattle.std.proofs.Common.{false}
use Rattle.rv_decode.specs.declared.ops.RegisterOp.TheVariants.{Mulhu}
use Rattle.term_simplify.proofs.MachineBuilds.{settled_builds, upper_combined}
use Rattle.term_simplify.proofs.MachineNumbers.{unsigned_number}
use Rattle.term_simplify.proofs.builder.Builder.mulhu.Goals as goal

pub returns-clause-ok : goal.returns-clause-ok
returns-clause-ok c =
    settled_builds c.args.self.now c.upper-answer.new.self c.settled.new.self c.upper-answer.result
    c.settled.result Mulhu c.args.a c.args.b _ c.upper-answer.ensures.continues
    c.settled.ensures.same c.settled.ensures.ok
    (upper_combined c.args.self.now c.upper-answer.new.self c.args.a c.args.b c.upper-answer.result
    Mulhu false false _ unsigned_number c.requires.first c.requires.second
    c.upper-answer.ensures.first c.upper-answer.ensures.second c.upper-answer.ensures.ok)
