-- A field of a word is below a power of two.
use Rattle.std.proofs.Common.{ℕ, ◌<◌, ◌^◌, mod-lt}
use Rattle.std.proofs.lemmas.Nat.{pow_pos}
use Rattle.rv_decode.specs.Fields.{bits}

pub bits_below : (word low count : ℕ) → bits word low count < 2 ^ count
unfolding bits
bits_below word low count = mod-lt _ (pow_pos count)
