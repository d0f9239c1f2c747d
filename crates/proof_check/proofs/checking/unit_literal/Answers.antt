use Rattle.std.proofs.Common.{◌∙◌, sym, arith}
use Rattle.proof_check.specs.Marking.{marked}
use Rattle.proof_check.proofs.Opened.{open_none, opened, passed, too_many_found}
use Rattle.proof_check.proofs.checking.unit_literal.Goals as goal
use Rattle.proof_check.proofs.checking.unit_literal.Goals.{then-not-is_false+else-is_some, else-not-is_false}

pub loop-literal-init : goal.loop-literal-init
loop-literal-init c = open_none _

pub returns-then-is_some : goal.returns-then-is_some
returns-then-is_some c =
    too_many_found (marked c.args.marks.now) c.args.clause.now c.loop-literal.literal-index c.loop-literal.open c.literal-item.result c.is_false.result (omega arith) c.literal-item.is c.is_false.ensures c.if-not-is_false.true (sym c.is_some.ensures ∙ c.if-is_some.true) c.loop-literal.invariant

pub loop-literal-preserved : goal.loop-literal-preserved
loop-literal-preserved c =
    elim c.if-not-is_false.branch [
      | then-not-is_false+else-is_some w ↦
          opened (marked c.args.marks.now) c.args.clause.now c.loop-literal.literal-index c.loop-literal.open c.if-not-is_false.open c.literal-item.result c.is_false.result (omega arith) c.literal-item.is c.is_false.ensures w.if-not-is_false.true (sym w.is_some.ensures ∙ w.if-is_some.false) c.loop-literal.invariant w.open-is
      | else-not-is_false w ↦
          passed (marked c.args.marks.now) c.args.clause.now c.loop-literal.literal-index c.loop-literal.open c.if-not-is_false.open c.literal-item.result c.is_false.result (omega arith) c.literal-item.is c.is_false.ensures w.if-not-is_false.false c.loop-literal.invariant w.open-is
    ]
