use Rattle.std.proofs.Common.{length, refl}
use Rattle.cdcl_core.specs.Trails.{trail_values}
use Rattle.cdcl_core.proofs.Scanning.{walk_begin, walk_true, walk_first, walk_second, walk_false, walk_none}
use Rattle.cdcl_core.proofs.propagation.state_of.Goals as goal
use Rattle.cdcl_core.proofs.propagation.state_of.Goals.{then-not-is_false+in_default, else-not-is_false}

pub loop-place-init : goal.loop-place-init
loop-place-init c = walk_begin (trail_values c.args.trail.now.entries) (length c.args.trail.now.marks)

pub returns-then-is_true : goal.returns-then-is_true
returns-then-is_true c =
    walk_true (trail_values c.args.trail.now.entries) c.args.clause.now c.args.clause.now c.loop-place.place c.index-clause-place.result c.is_true.result refl c.loop-place-test.true c.index-clause-place.is c.is_true.ensures c.if-is_true.true

pub loop-place-preserved : goal.loop-place-preserved
loop-place-preserved c =
    elim c.if-not-is_false.branch [
      | then-not-is_false+in_default w ↦
          walk_first (trail_values c.args.trail.now.entries) (length c.args.trail.now.marks) c.args.clause.now c.args.clause.now c.loop-place.place c.index-clause-place.result c.loop-place.open c.if-not-is_false.open c.is_true.result c.is_false.result
          refl c.requires.below c.loop-place-test.true c.index-clause-place.is c.is_true.ensures c.if-is_true.false c.is_false.ensures w.if-not-is_false.true c.loop-place.invariant w.in_default.is w.open-is
      | else-not-is_false w ↦
          walk_false (trail_values c.args.trail.now.entries) (length c.args.trail.now.marks) c.args.clause.now c.loop-place.place c.index-clause-place.result c.loop-place.open c.if-not-is_false.open c.is_false.result
          c.loop-place-test.true c.index-clause-place.is c.is_false.ensures w.if-not-is_false.false c.loop-place.invariant w.open-is
    ]

pub returns-in-Some : goal.returns-in-Some
returns-in-Some c =
    walk_second (trail_values c.args.trail.now.entries) (length c.args.trail.now.marks) c.args.clause.now c.args.clause.now c.loop-place.place c.index-clause-place.result c.in-Some.earlier c.loop-place.open c.is_true.result c.is_false.result
    refl c.requires.in_order c.requires.below c.loop-place-test.true c.index-clause-place.is c.is_true.ensures c.if-is_true.false c.is_false.ensures c.if-not-is_false.true c.loop-place.invariant c.in-Some.is

pub returns-in-None : goal.returns-in-None
returns-in-None c =
    walk_none (trail_values c.args.trail.now.entries) (length c.args.trail.now.marks) c.args.clause.now c.args.clause.now c.loop-place.place c.loop-place.open refl c.loop-place-test.false c.loop-place.invariant c.in-None.is
