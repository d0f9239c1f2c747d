use Rattle.std.proofs.Common.{◌∙◌, sym}
use Rattle.proof_check.proofs.Turns.{empty_by_length}
use Rattle.cdcl_core.proofs.proposals.is_empty.Goals as goal

pub returns : goal.returns
returns c = c.is_empty.ensures ∙ sym (empty_by_length c.args.clause.now)
