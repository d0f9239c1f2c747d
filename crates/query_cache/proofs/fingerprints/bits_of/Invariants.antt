use Rattle.std.proofs.Common.{◌≡◌, take}
use Rattle.query_cache.specs.Fingerprints.{bits_of}
use Rattle.query_cache.proofs.fingerprints.bits_of.Given as goal

abbrev pub invariant-loop-print : goal.invariant-loop-print
invariant-loop-print l = l.bits ≡ bits_of (take l.print-index l.prints)
