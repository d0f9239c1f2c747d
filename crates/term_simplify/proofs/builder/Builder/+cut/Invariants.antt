use Rattle.term_simplify.proofs.builder.Builder.+cut.Given as goal

abbrev pub decreases-cut : goal.decreases-cut
decreases-cut l = l.runs
