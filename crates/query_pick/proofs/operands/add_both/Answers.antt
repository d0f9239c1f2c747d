use Rattle.std.specs.Prelude.{[], ◌∷◌}
use Rattle.std.proofs.lemmas.Result.{IfOk-weaker}
use Rattle.query_pick.proofs.Pending.{added_in_turn}
use Rattle.query_pick.proofs.operands.add_both.Goals as goal

pub returns-clause-adds : goal.returns-clause-adds
returns-clause-adds c =
    IfOk-weaker c.add-2.result _ _
    (λ _ second. added_in_turn c.args.places.now.items c.add.new.places.items c.add-2.new.places.items (c.args.first ∷ []) (c.args.second ∷ []) c.in_ok-add.ensures.adds second)
    c.add-2.ensures.adds
