use Rattle.std.specs.Prelude.{[], ◌∷◌}
use Rattle.std.proofs.lemmas.Result.{IfOk-weaker}
use Rattle.query_pick.proofs.Pending.{added_in_turn}
use Rattle.query_pick.proofs.operands.add_operands.Goals as goal

pub returns-in-Not-clause-adds : goal.returns-in-Not-clause-adds
returns-in-Not-clause-adds c = rw c.in-Not.is c.add.ensures.adds

pub returns-in-Neg-clause-adds : goal.returns-in-Neg-clause-adds
returns-in-Neg-clause-adds c = rw c.in-Neg.is c.add-in-Neg.ensures.adds

pub returns-in-Binary-clause-adds : goal.returns-in-Binary-clause-adds
returns-in-Binary-clause-adds c = rw c.in-Binary.is c.add_both.ensures.adds

pub returns-in-Compare-clause-adds : goal.returns-in-Compare-clause-adds
returns-in-Compare-clause-adds c = rw c.in-Compare.is c.add_both-in-Compare.ensures.adds

pub returns-in-Extract-clause-adds : goal.returns-in-Extract-clause-adds
returns-in-Extract-clause-adds c = rw c.in-Extract.is c.add-in-Extract.ensures.adds

pub returns-in-Extend-clause-adds : goal.returns-in-Extend-clause-adds
returns-in-Extend-clause-adds c = rw c.in-Extend.is c.add-in-Extend.ensures.adds

pub returns-in-Concat-clause-adds : goal.returns-in-Concat-clause-adds
returns-in-Concat-clause-adds c = rw c.in-Concat.is c.add_both-in-Concat.ensures.adds

pub returns-in_ok-add-in-Ite-clause-adds : goal.returns-in_ok-add-in-Ite-clause-adds
returns-in_ok-add-in-Ite-clause-adds c =
    rw c.in-Ite.is
    (IfOk-weaker c.add_both-in-Ite.result _ _
    (λ _ second. added_in_turn c.args.places.now.items c.add-in-Ite.new.places.items c.add_both-in-Ite.new.places.items (c.in-Ite.condition ∷ []) (c.in-Ite.yes ∷ c.in-Ite.no ∷ []) c.in_ok-add-in-Ite.ensures.adds second)
    c.add_both-in-Ite.ensures.adds)
