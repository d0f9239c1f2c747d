use Rattle.term_simplify.proofs.Telling.{come_home, come_on}
use Rattle.term_simplify.proofs.equalities.peeled.Goals as goal

pub loop-inner-preserved : goal.loop-inner-preserved
loop-inner-preserved c =
    come_on c.args.terms.now c.undone.ensures.fit c.args.e (record { term = c.loop-inner.term; number = c.loop-inner.number }) c.in-Some.inner
    c.loop-inner.invariant c.in-Some.ensures.is c.in-Some.ensures.there

pub returns-clause-is : goal.returns-clause-is
returns-clause-is c =
    come_home c.args.terms.now c.args.e (record { term = c.loop-inner.term; number = c.loop-inner.number }) c.loop-inner.invariant c.in_default.ensures.is
