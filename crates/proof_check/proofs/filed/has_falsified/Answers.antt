use Rattle.std.proofs.Common.{◌-◌, ◌∙◌, sym, refl, arith}
use Rattle.proof_check.specs.Marking.{marked}
use Rattle.proof_check.proofs.Filing.{walk_begins, walk_smaller, walk_on, walk_ends, walk_finds}
use Rattle.proof_check.proofs.filed.has_falsified.Goals as goal

pub loop-number-init : goal.loop-number-init
loop-number-init c = walk_begins (marked c.args.marks.now) c.args.clauses.now c.args.index.now c.args.key c.last-number.result c.requires c.last-number.ensures

pub returns-then-is_falsified_at : goal.returns-then-is_falsified_at
returns-then-is_falsified_at c =
    walk_finds (marked c.args.marks.now) c.args.clauses.now c.args.key c.loop-number.number (c.loop-number.number - 1) c.loop-number.invariant c.loop-number-test.true refl (sym c.is_falsified_at.ensures ∙ c.if-is_falsified_at.true)

pub loop-number-smaller : goal.loop-number-smaller
loop-number-smaller c =
    walk_smaller (marked c.args.marks.now) c.args.clauses.now c.args.index.now c.args.key c.loop-number.number (c.loop-number.number - 1) c.before-number.result c.requires c.loop-number.invariant c.loop-number-test.true refl c.before-number.ensures

pub loop-number-preserved : goal.loop-number-preserved
loop-number-preserved c =
    walk_on (marked c.args.marks.now) c.args.clauses.now c.args.index.now c.args.key c.loop-number.number (c.loop-number.number - 1) c.before-number.result c.requires c.loop-number.invariant c.loop-number-test.true refl (sym c.is_falsified_at.ensures ∙ c.if-is_falsified_at.false) c.before-number.ensures

pub returns : goal.returns
returns c = walk_ends (marked c.args.marks.now) c.args.clauses.now c.args.key c.loop-number.number c.loop-number.invariant (omega (arith, c.loop-number-test.false))
