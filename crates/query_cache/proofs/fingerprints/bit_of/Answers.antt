use Rattle.std.proofs.Common.{refl}
use Rattle.query_cache.specs.Fingerprints.{bit_of}
use Rattle.query_cache.proofs.fingerprints.bit_of.Goals as goal

pub returns : goal.returns
unfolding bit_of
returns c = refl
