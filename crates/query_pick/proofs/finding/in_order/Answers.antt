use Rattle.std.proofs.Common.{[], ◌∷◌, get_or, arith, sym, subst, take}
use Rattle.std.proofs.lemmas.List.{take_all, take_more}
use Rattle.query_pick.specs.Operands.{Adds}
use Rattle.query_pick.proofs.Pending.{added_in_turn}
use Rattle.query_pick.proofs.finding.in_order.Goals as goal

pub loop-id-preserved : goal.loop-id-preserved
loop-id-preserved c = (
  c.in_ok-add.ensures.increasing,
  subst (Adds [] c.add.new.places.items) (sym (take_more c.args.places.now c.loop-id.id-index 0 c.loop-id-test.true))
      (added_in_turn [] c.loop-id.all.items c.add.new.places.items (take c.loop-id.id-index c.args.places.now) (get_or c.args.places.now c.loop-id.id-index 0 ∷ []) c.loop-id.invariant.1 c.in_ok-add.ensures.adds),
)

pub returns-clause-adds : goal.returns-clause-adds
returns-clause-adds c =
    subst (Adds [] c.loop-id.all.items) (take_all c.loop-id.id-index c.args.places.now (omega (arith, c.loop-id-test.false))) c.loop-id.invariant.1
