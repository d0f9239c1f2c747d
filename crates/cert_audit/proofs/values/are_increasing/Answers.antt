use Rattle.std.proofs.Common.{arith, refl}
use Rattle.std.proofs.lemmas.Bool.{false≢true}
use Rattle.cert_audit.proofs.Leaving.{increases, increases_more, not_increasing_at}
use Rattle.cert_audit.proofs.values.are_increasing.Goals as goal

pub loop-at-preserved : goal.loop-at-preserved
loop-at-preserved c = increases_more c.args.values.now c.loop-at.at c.loop-at.invariant (omega arith) (omega arith)

pub returns : goal.returns
returns c = (
  λ _. increases c.args.values.now (λ k less. c.loop-at.invariant k (omega (arith, less))),
  λ _. refl,
)

pub returns-then-values-at : goal.returns-then-values-at
returns-then-values-at c = (
  λ shown. absurd (false≢true shown),
  λ is. absurd (not_increasing_at c.args.values.now c.loop-at.at (omega arith) (omega arith) (omega (arith, c.if-values-at.true)) is),
)
