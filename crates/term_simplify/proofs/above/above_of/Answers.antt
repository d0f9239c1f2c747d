use Rattle.term_simplify.proofs.AboveRules.{no_above, some_above}
use Rattle.term_simplify.proofs.above.above_of.Goals as goal

pub returns-in-Compare-clause-some : goal.returns-in-Compare-clause-some
returns-in-Compare-clause-some c =
    let k = c.in-Compare in
    rw k.is (some_above c.args.terms.now k.a k.b k.op c.above_by.result (rw k.is at c.requires) c.above_by.ensures.is c.above_by.ensures.some)

pub returns-in-Compare-clause-none : goal.returns-in-Compare-clause-none
returns-in-Compare-clause-none c = λ none.
    let k = c.in-Compare in
    rw k.is (no_above c.args.terms.now k.a k.b k.op c.above_by.result c.above_by.ensures.is none)
