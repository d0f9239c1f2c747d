use Rattle.term_simplify.proofs.builder.Builder.+quotient_from.Given as goal

abbrev pub decreases-quotient_from : goal.decreases-quotient_from
decreases-quotient_from l = l.left
