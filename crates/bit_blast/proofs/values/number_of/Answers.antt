use Rattle.std.proofs.Common.{◌∙◌, ◌-◌, ◌*◌, ◌+◌, ap, arith, length}
use Rattle.cnf_form.specs.Valuations.{valuation}
use Rattle.circuit_spec.specs.Bytes.{bit_of}
use Rattle.bit_blast.proofs.Reading.{number_more, number_start, high_bound}
use Rattle.bit_blast.proofs.values.number_of.Goals as goal

pub loop-i-init : goal.loop-i-init
loop-i-init c = number_start (valuation c.args.values.now) c.args.row.now (length c.args.row.now) (omega arith)

pub with_low_bit-number-requires : goal.with_low_bit-number-requires
with_low_bit-number-requires c =
    rw c.loop-i.invariant (high_bound (valuation c.args.values.now) c.args.row.now (c.loop-i.i - 1) c.loop-i.i (omega arith) c.requires)

pub loop-i-preserved : goal.loop-i-preserved
loop-i-preserved c =
    c.with_low_bit-number.ensures ∙ ap (λ b. bit_of b + 2 * c.loop-i.number) c.literal_value-bit.ensures
    ∙ number_more (valuation c.args.values.now) c.args.row.now (c.loop-i.i - 1) c.loop-i.i c.loop-i.number _ (omega arith) (omega arith) c.index-row-i.is c.loop-i.invariant
