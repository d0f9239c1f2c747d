use Rattle.std.proofs.Common.{length}
use Rattle.cert_query.proofs.Refuting.{FollowsSoFar}
use Rattle.cert_query.proofs.refutation.take_following.Given as goal

abbrev pub invariant-lines : goal.invariant-lines
invariant-lines l = FollowsSoFar l.initial.checker l.checker l.fn.lines l.rest l.is_closed

abbrev pub decreases-lines : goal.decreases-lines
decreases-lines l = length l.rest
