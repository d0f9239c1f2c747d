use Rattle.query_slice.proofs.Kept.{no_more}
use Rattle.query_slice.proofs.laws.a_slice_rests_on_no_more.Goals as goal

pub returns : goal.returns
returns c = no_more
