use Rattle.term_simplify.proofs.runs.+run_of.Given as goal

abbrev pub decreases-run_of : goal.decreases-run_of
decreases-run_of l = l.width
