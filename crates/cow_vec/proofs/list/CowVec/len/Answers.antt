use Rattle.std.proofs.Common.{sym}
use Rattle.cow_vec.proofs.Chunked.{length-items}
use Rattle.cow_vec.proofs.list.CowVec.len.Goals as goal

pub returns : goal.returns
returns g c = rw (← c.self.view_is) (sym (length-items _ c.self.inside.len c.self.invariant))
