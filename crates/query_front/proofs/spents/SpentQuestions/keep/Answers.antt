use Rattle.query_front.proofs.KeptLogs.{spent_put}
use Rattle.query_front.proofs.spents.SpentQuestions.keep.Goals as goal

pub invariant_of-self-2 : goal.invariant_of-self-2
invariant_of-self-2 c =
    spent_put c.self.inside.logs c.put.new.self c.args.question c.args.log c.in_ok-put.ensures.entries c.self.invariant c.requires
