use Rattle.std.proofs.Common.{subst}
use Rattle.std.specs.Iterator.{Yields}
use Rattle.model_pool.proofs.scanning.scan.Goals as goal

pub returns : goal.returns
returns g c =
    let e = c.into_iter-sample-iterator.ensures.into_iter_gives in
    (c.loop-sample.yielded, (c.next.new.self, (c.loop-sample.sample-iterator, subst (λ s. Yields g.I.Iterator.next_gives s c.loop-sample.yielded c.loop-sample.sample-iterator) e c.loop-sample.yielded_by, c.in-None.ensures.steps)), c.loop-sample.invariant)
