use Rattle.std.proofs.Common.{◌≡◌, ◌∙◌, true, ap}
use Rattle.cnf_form.specs.Clauses.{are_increasing}
use Rattle.cdcl_core.proofs.Backjumping.{walk_above, walk_between, walk_beneath, walk_done}
use Rattle.cdcl_core.proofs.backjump.second.Goals as goal
use Rattle.cdcl_core.proofs.backjump.second.Goals.{then-number-first, else-number-first+then-number-second, else-number-first+else-number-second}

pub loop-literal-preserved : goal.loop-literal-preserved
loop-literal-preserved c =
    let seen = c.literals-literal-items.result.now in
    let order : are_increasing seen ≡ true = ap are_increasing c.literals-literal-items.ensures.value ∙ c.literals-literal-items.ensures.in_order in
    elim c.if-number-first.branch [
      | then-number-first w ↦ rw (w.first-is, w.second-is)
          (walk_above c.args.trail.now.entries seen c.loop-literal.literal-index c.literal-item.result c.loop-literal.first c.loop-literal.second c.number-number.result
          order c.loop-literal-test.true c.literal-item.is c.number-number.ensures.after c.loop-literal.invariant w.if-number-first.true)
      | else-number-first+then-number-second w ↦ rw (w.first-is, w.second-is)
          (walk_between c.args.trail.now.entries seen c.loop-literal.literal-index c.literal-item.result c.loop-literal.first c.loop-literal.second c.number-number.result
          order c.loop-literal-test.true c.literal-item.is c.number-number.ensures.after c.loop-literal.invariant w.if-number-first.false)
      | else-number-first+else-number-second w ↦ rw (w.first-is, w.second-is)
          (walk_beneath c.args.trail.now.entries seen c.loop-literal.literal-index c.literal-item.result c.loop-literal.first c.loop-literal.second
          c.loop-literal-test.true c.literal-item.is c.loop-literal.invariant)
    ]

pub returns : goal.returns
returns c =
    walk_done c.args.trail.now.entries c.args.clause.now c.literals-literal-items.result.now c.loop-literal.literal-index c.loop-literal.first c.loop-literal.second c.literals-literal-items.ensures.value c.loop-literal-test.false c.loop-literal.invariant
