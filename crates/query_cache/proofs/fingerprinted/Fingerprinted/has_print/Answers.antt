use Rattle.std.proofs.Common.{◌≡◌}
use Rattle.std.specs.Prelude.{bit_and}
use Rattle.std.proofs.lemmas.Bool.{eq-eqb, eqb-true}
use Rattle.query_cache.specs.Fingerprints.{prints_of}
use Rattle.query_cache.proofs.Filtering.{bit_there_where_contains}
use Rattle.query_cache.proofs.fingerprinted.Fingerprinted.has_print.Goals as goal

pub returns-else-self-bit : goal.returns-else-self-bit
returns-else-self-bit c = (
  λ yes.
      let e : bit_and c.self.inside.bits c.bit_of-bit.result ≡ c.bit_of-bit.result = eqb-true (bit_and c.self.inside.bits c.bit_of-bit.result) c.bit_of-bit.result yes in
      absurd (c.if-self-bit.false e),
  λ h. eq-eqb (bit_and c.self.inside.bits c.bit_of-bit.result) c.bit_of-bit.result
      (rw (c.bit_of-bit.ensures, c.self.invariant.bits_are, c.self.invariant.each, c.self.view_is)
      (bit_there_where_contains (prints_of c.args.self.now) c.args.print h)),
)
