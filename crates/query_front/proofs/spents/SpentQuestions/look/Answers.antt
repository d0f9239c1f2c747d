use Rattle.std.proofs.Common.{sym}
use Rattle.query_front.proofs.KeptLogs.{spent_found}
use Rattle.query_front.proofs.spents.SpentQuestions.look.Goals as goal

pub returns-in_ok-copy_of-in-Some : goal.returns-in_ok-copy_of-in-Some
returns-in_ok-copy_of-in-Some c =
    spent_found c.self.inside.logs.entries c.args.asked.now c.in-Some.log.now c.in_ok-copy_of-in-Some.field-0 c.self.invariant c.in-Some.ensures (sym c.in_ok-copy_of-in-Some.ensures)
