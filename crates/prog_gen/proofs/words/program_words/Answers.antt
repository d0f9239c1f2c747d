use Rattle.std.proofs.Common.{arith}
use Rattle.prog_gen.proofs.Pushed.{all_pushed, push_one}
use Rattle.prog_gen.proofs.words.program_words.Goals as goal

pub loop-place-preserved : goal.loop-place-preserved
loop-place-preserved c = (
  push_one c.args.number c.loop-place.place c.loop-place.words.items _ c.loop-place.invariant.0 c.in_ok-push_byte_words.ensures,
  omega (arith, c.loop-place-test.true),
)

pub returns : goal.returns
returns c = all_pushed c.args.number c.loop-place.place c.loop-place.words.items _ c.loop-place-test.false c.loop-place.invariant.1 c.loop-place.invariant.0 c.in_ok-push_end_words.ensures
