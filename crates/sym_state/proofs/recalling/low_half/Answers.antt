use Rattle.sym_state.proofs.Growing.{IsByte-grown, IsWide-grown}
use Rattle.sym_state.proofs.LastStored.{half_expressed, half_gives}
use Rattle.sym_state.proofs.recalling.low_half.Goals as goal

pub byte_at-requires-2-clause-wide : goal.byte_at-requires-2-clause-wide
byte_at-requires-2-clause-wide c = IsWide-grown _ _ c.args.value c.in_ok-low.ensures.ok.continues c.requires.wide

pub from_half-requires-clause-low : goal.from_half-requires-clause-low
from_half-requires-clause-low c = IsByte-grown _ _ c.in_ok-low.low c.in_ok-high.ensures.ok.continues c.in_ok-low.ensures.ok.is_byte

pub returns-clause-ok : goal.returns-clause-ok
returns-clause-ok c =
    half_gives c.args.terms.now c.byte_at.new.terms c.byte_at-2.new.terms c.from_half.new.terms c.args.signed c.args.value c.in_ok-low.low c.in_ok-high.high
    c.requires.wide c.in_ok-low.ensures.ok c.in_ok-high.ensures.ok c.from_half.result c.from_half.ensures.ok

pub returns-clause-expression : goal.returns-clause-expression
returns-clause-expression c =
    half_expressed c.args.terms.now c.byte_at.new.terms c.byte_at-2.new.terms c.from_half.new.terms c.args.signed c.args.value c.in_ok-low.low c.in_ok-high.high
    c.requires.wide c.in_ok-low.ensures.ok c.in_ok-high.ensures.ok c.from_half.result c.in_ok-low.ensures.expression c.in_ok-high.ensures.expression
    c.from_half.ensures.expression
