use Rattle.std.proofs.Common.{sym, ◌∙◌}
use Rattle.term_simplify.proofs.ComparisonPlans.{equal_excluded}
use Rattle.term_simplify.proofs.Reading.{Makes-same}
use Rattle.term_simplify.proofs.comparisons.equality.Goals as goal

pub returns-then-excludes : goal.returns-then-excludes
returns-then-excludes c = λ tree m. Makes-same c.args.terms.now _ _ _
    (c.number.ensures c.args.terms.now) (equal_excluded _ c.args.value tree c.zero.result
    (sym c.if-excludes.true ∙ c.excludes.ensures) c.zero.ensures)
