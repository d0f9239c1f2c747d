use Rattle.std.proofs.Common.{◌≡◌, take}
use Rattle.query_cache.specs.Fingerprints.{digest_of}
use Rattle.query_cache.proofs.fingerprints.digest_of.Given as goal

abbrev pub invariant-loop-print : goal.invariant-loop-print
invariant-loop-print l = l.digest ≡ digest_of (take l.print-index l.prints)
