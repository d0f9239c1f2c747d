use Rattle.std.proofs.lemmas.List.Elements.{Contains-push}
use Rattle.cert_complete.proofs.left_out.other_side.Goals as goal

pub returns : goal.returns
returns c = rw c.in_ok-assert.ensures.ok (Contains-push c.into_parts-run.result.0.condition c.into_parts-run.result.1)
