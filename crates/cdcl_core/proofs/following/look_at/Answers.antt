use Rattle.std.proofs.Common.{◌+◌, get_or, drop, arith}
use Rattle.cdcl_core.specs.Places.{is_among}
use Rattle.cdcl_core.proofs.Forcing.{followed_on}
use Rattle.cdcl_core.proofs.Pending.{drop_next, drop_none, among_next, among_none}
use Rattle.cdcl_core.proofs.following.look_at.Goals as goal

pub loop-place-preserved : goal.loop-place-preserved
loop-place-preserved c =
    record {
      followed = followed_on c.args.clauses.now c.args.trail.now c.loop-place.trail c.look.new.trail c.loop-place.invariant.followed c.in_ok-number.ensures.followed;
      looked = λ first late pending.
          c.in_ok-number.ensures.looked first (is_among (drop (c.loop-place.place-index + 1) c.args.places.now)) (omega (arith, late, c.loop-place.invariant.followed.longer))
          (among_next c.args.clauses.now c.loop-place.trail.entries first (get_or c.args.places.now c.loop-place.place-index 0) (drop c.loop-place.place-index c.args.places.now) (drop (c.loop-place.place-index + 1) c.args.places.now)
          (drop_next c.args.places.now c.loop-place.place-index c.loop-place-test.true) (c.loop-place.invariant.looked first late pending)) c.in_default.is;
    }

pub returns-clause-looked : goal.returns-clause-looked
returns-clause-looked c =
    λ first late pending none.
    among_none c.args.clauses.now c.loop-place.trail.entries first (drop c.loop-place.place-index c.args.places.now) (drop_none c.args.places.now c.loop-place.place-index c.loop-place-test.false) (c.loop-place.invariant.looked first late pending)
