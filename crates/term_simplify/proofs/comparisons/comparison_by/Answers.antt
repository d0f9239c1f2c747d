use Rattle.term_simplify.proofs.comparisons.comparison_by.Goals as goal

pub returns-in-Some-Some : goal.returns-in-Some-Some
returns-in-Some-Some c = rw (c.in-Some-Some.is-0, c.in-Some-Some.is-1, ← c.apply.ensures) (c.number.ensures c.args.terms.now)
