use Rattle.term_simplify.proofs.builder.Builder.+times.Given as goal

abbrev pub decreases-times : goal.decreases-times
decreases-times l = l.width
