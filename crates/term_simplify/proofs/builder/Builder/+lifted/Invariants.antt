use Rattle.term_simplify.proofs.builder.Builder.+lifted.Given as goal

abbrev pub decreases-lifted : goal.decreases-lifted
decreases-lifted l = l.levels
