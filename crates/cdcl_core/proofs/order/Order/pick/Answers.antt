use Rattle.std.proofs.Common.{◌∙◌, Contains, subst, sym}
use Rattle.cdcl_core.proofs.order.Order.pick.Goals as goal

pub returns-then-may_be_chosen-clause-listed : goal.returns-then-may_be_chosen-clause-listed
returns-then-may_be_chosen-clause-listed c =
    subst (λ xs. Contains xs c.in-Some-get.literal.now)
    (c.deref.ensures.value ∙ c.loop-place.invariant) (
      c.in-Some.place,
      c.in-Some-get.ensures.lookup.3.0,
      sym (c.in-Some-get.ensures.lookup.3.1 c.in-Some-get.literal.now),
    )
