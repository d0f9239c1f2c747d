use Rattle.std.proofs.Common.{◌++◌, [], ◌∷◌, ap, take, subst}
use Rattle.std.proofs.lemmas.Grind.{take_at_read}
use Rattle.fork_spec.specs.Evidence.{Found}
use Rattle.tree_core.specs.declared.choice.Choice.TheVariants.{Value}
use Rattle.node_split.specs.Splits.{AreSidesOf, IsRunOn, IsValueSide}
use Rattle.node_split.proofs.SidesOfValues.{sides-push}
use Rattle.node_split.proofs.pin.value_sides.Goals as goal

pub loop-at-preserved : goal.loop-at-preserved
loop-at-preserved c =
    let s = c.args.state.now in
    let term = c.args.pin.now.term in
    let before = take c.loop-at.at-index c.args.found.now in
    let kid = c.in_ok-run_kid.field-0 in
    let side : IsValueSide s term c.at-item.result kid = record {
      run = c.in_ok-side.side;
      on = subst (λ v. IsRunOn (Value v) c.in_ok-side.side kid) (ap (λ (f : Found). f.value) c.at.view_is) c.in_ok-run_kid.ensures;
      narrower = c.in_ok-side.ensures.narrower;
      sampled = c.in_ok-side.ensures.sampled;
    } in
    rw (c.in_ok-push.ensures.items, (take_at_read c.args.found.now c.loop-at.at-index c.at-item.result c.loop-at-test.true).1)
    (subst (λ f. AreSidesOf s term (before ++ f ∷ []) (c.loop-at.kids.items ++ kid ∷ [])) c.at-item.is
    (sides-push s term before c.loop-at.kids.items c.at-item.result kid c.loop-at.invariant side))
