use Rattle.query_cache.proofs.fingerprinted.Fingerprinted.may_ask_no_more.Given as goal

abbrev pub invariant-loop-print : goal.invariant-loop-print
invariant-loop-print l = Unit {0}
