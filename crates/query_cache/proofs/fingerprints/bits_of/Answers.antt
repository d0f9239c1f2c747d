use Rattle.std.proofs.Common.{get_or, sym, ap, ◌∙◌}
use Rattle.std.specs.Prelude.{bit_or}
use Rattle.query_cache.specs.Fingerprints.{bit_of}
use Rattle.query_cache.proofs.Prints.{bits_of-more, bits_of-none}
use Rattle.query_cache.proofs.fingerprints.bits_of.Goals as goal

pub loop-print-init : goal.loop-print-init
loop-print-init c = sym bits_of-none

pub loop-print-preserved : goal.loop-print-preserved
loop-print-preserved c =
    ap (bit_or c.loop-print.bits) c.bit_of-bits.ensures
    ∙ ap (λ n. bit_or n (bit_of (get_or c.args.prints.now c.loop-print.print-index 0))) c.loop-print.invariant
    ∙ sym (bits_of-more c.args.prints.now c.loop-print.print-index c.loop-print-test.true)
