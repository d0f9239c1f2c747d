use Rattle.std.proofs.Common.{◌+◌, subst, sym}
use Rattle.sym_state.specs.Scattering.{MakesBytes}
use Rattle.sym_state.proofs.Growing.{IsWide-grown}
use Rattle.sym_state.proofs.Scattered.{makes_more}
use Rattle.sym_state.proofs.scattering.low_bytes.Goals as goal

pub byte_at-requires-clause-wide : goal.byte_at-requires-clause-wide
byte_at-requires-clause-wide c = IsWide-grown _ _ c.args.value c.loop-at.invariant.continues c.requires.wide

pub loop-at-preserved : goal.loop-at-preserved
loop-at-preserved c =
    subst (MakesBytes c.args.terms.now c.byte_at.new.terms c.args.value (c.loop-at.at + 1)) (sym c.in_ok-push.ensures.items)
    (makes_more c.args.terms.now c.loop-at.terms c.byte_at.new.terms c.args.value c.loop-at.at c.loop-at.bytes.items c.in_ok-byte.byte
    c.requires.wide c.loop-at.invariant c.in_ok-byte.ensures.ok c.in_ok-byte.ensures.expression)
