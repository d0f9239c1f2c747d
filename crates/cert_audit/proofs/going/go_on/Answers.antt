use Rattle.std.proofs.Common.{ap, ◌∙◌}
use Rattle.sym_state.specs.Moves.{informed}
use Rattle.sym_state.specs.Symbolic.{Symbolic}
use Rattle.cert_audit.proofs.Parting.{decided_kid}
use Rattle.cert_audit.proofs.going.go_on.Goals as goal

pub returns-clause-kids : goal.returns-clause-kids
returns-clause-kids c =
    rw (c.in_ok-push.ensures.items, c.in_ok-kids.ensures.items)
    (decided_kid c.args.run.now c.know.new.self c.args.place c.args.decided
    (c.know.ensures.value ∙ ap (λ (r : Symbolic). informed r c.args.place c.args.decided) c.in_ok-on.ensures.same) c.know.ensures.formed c.requires)
