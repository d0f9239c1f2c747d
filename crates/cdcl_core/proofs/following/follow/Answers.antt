use Rattle.std.proofs.Common.{◌<◌, refl, length, arith}
use Rattle.std.proofs.lemmas.Option.{slice_get_within}
use Rattle.cdcl_core.proofs.Pending.{all_looked}
use Rattle.cdcl_core.proofs.following.follow.Goals as goal

pub loop-literal-smaller : goal.loop-literal-smaller
loop-literal-smaller c =
    let at = c.in-Some.ensures.some in
    let within : c.loop-literal.place < length c.loop-literal.trail.entries = slice_get_within c.loop-literal.trail.entries c.loop-literal.place at.0 at.1 in
    omega (arith, within, c.in_ok-conflict.ensures.followed.no_more)

pub returns-clause-calm : goal.returns-clause-calm
returns-clause-calm c =
    λ pending none. all_looked c.args.clauses.now c.loop-literal.trail.entries c.loop-literal.place (c.in_default.ensures.none refl) (c.loop-literal.invariant.pending pending)
