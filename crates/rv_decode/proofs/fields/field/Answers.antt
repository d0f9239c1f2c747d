use Rattle.std.proofs.lemmas.Nat.{one_shl, and_mask}
use Rattle.rv_decode.specs.Fields.{bits}
use Rattle.rv_decode.proofs.fields.field.Goals as goal

pub returns-clause-value : goal.returns-clause-value
unfolding bits
returns-clause-value c = rw (one_shl c.args.count 32 c.requires.count, and_mask)
