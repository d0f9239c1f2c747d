use Rattle.std.proofs.Common.{◌∙◌, sym}
use Rattle.cdcl_core.specs.Trails.{trail_values}
use Rattle.cdcl_core.proofs.Spotting.{calm_by}
use Rattle.cdcl_core.proofs.spots.Spot.shows_calm.Goals as goal

pub returns : goal.returns
returns c =
    λ yes.
    calm_by (trail_values c.args.trail.now.entries) c.args.clause.now _ _ c.in-Some.first c.in-Some-get_literal.second (sym c.in-Some.ensures) (sym c.in-Some-get_literal.ensures) (sym c.keep_calm.ensures ∙ yes)
