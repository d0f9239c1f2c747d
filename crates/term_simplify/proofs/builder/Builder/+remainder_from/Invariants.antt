use Rattle.term_simplify.proofs.builder.Builder.+remainder_from.Given as goal

abbrev pub decreases-remainder_from : goal.decreases-remainder_from
decreases-remainder_from l = l.left
