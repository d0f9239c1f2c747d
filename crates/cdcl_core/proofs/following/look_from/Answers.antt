use Rattle.std.proofs.Common.{◌+◌, nat_le, arith}
use Rattle.cdcl_core.proofs.Forcing.{followed_on}
use Rattle.cdcl_core.proofs.Pending.{from_next, from_end}
use Rattle.cdcl_core.proofs.following.look_from.Goals as goal

pub loop-place-preserved : goal.loop-place-preserved
loop-place-preserved c =
    record {
      followed = followed_on c.args.clauses.now c.args.trail.now c.loop-place.trail c.look.new.trail c.loop-place.invariant.followed c.in_ok-number.ensures.followed;
      looked = λ first late pending.
          c.in_ok-number.ensures.looked first (nat_le (c.loop-place.place + 1)) (omega (arith, late, c.loop-place.invariant.followed.longer))
          (from_next c.args.clauses.now c.loop-place.trail.entries first c.loop-place.place (c.loop-place.invariant.looked first late pending)) c.in_default.is;
    }

pub returns-clause-looked : goal.returns-clause-looked
returns-clause-looked c =
    λ first late pending none.
    from_end c.args.clauses.now c.loop-place.trail.entries first c.loop-place.place (omega (arith, c.len-place-end.ensures, c.loop-place-test.false)) (c.loop-place.invariant.looked first late pending)
