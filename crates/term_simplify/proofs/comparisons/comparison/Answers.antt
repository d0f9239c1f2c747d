use Rattle.term_simplify.specs.Plain.{plain_comparison}
use Rattle.term_simplify.proofs.Reading.{as_wide}
use Rattle.term_simplify.proofs.comparisons.comparison.Goals as goal

pub comparison_by-requires-clause-widths : goal.comparison_by-requires-clause-widths
comparison_by-requires-clause-widths c = as_wide c.args.terms.now c.args.a c.args.b _ _
    c.number_at.ensures.number c.number_at-2.ensures.number c.requires.1

pub returns-clause-makes : goal.returns-clause-makes
unfolding plain_comparison
returns-clause-makes c = rw (← c.number_at.ensures.number, ← c.number_at-2.ensures.number) c.comparison_by.ensures
