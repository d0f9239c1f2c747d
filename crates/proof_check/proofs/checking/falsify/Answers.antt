use Rattle.std.proofs.Common.{◌∙◌, sym, arith, refl}
use Rattle.proof_check.proofs.Walks.{falsify_none, falsify_more}
use Rattle.proof_check.proofs.checking.falsify.Goals as goal

pub loop-literal-init : goal.loop-literal-init
loop-literal-init c = c.clear.ensures ∙ sym falsify_none

pub loop-literal-preserved : goal.loop-literal-preserved
loop-literal-preserved c =
    c.in_ok-assign.ensures.ok
    ∙ rw (c.loop-literal.invariant, c.negated.ensures, falsify_more c.args.clause.now c.loop-literal.literal-index c.literal-item.result (omega arith), ← c.literal-item.is) refl
