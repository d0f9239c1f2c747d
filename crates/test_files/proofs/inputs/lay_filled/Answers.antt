use Rattle.std.proofs.Common.{◌∙◌, length, ap}
use Rattle.test_files.specs.Seen.{all_seen}
use Rattle.test_files.proofs.Filling.{as_many_bytes}
use Rattle.test_files.proofs.inputs.lay_filled.Goals as goal

pub have_input-requires : goal.have_input-requires
have_input-requires c = ap length (c.deref.ensures.value ∙ c.in_ok-input.ensures) ∙ as_many_bytes (all_seen c.args.regions.now)
