use Rattle.std.proofs.Common.{get_or, sym, ap, ◌∙◌}
use Rattle.query_cache.specs.Fingerprints.{stirred_in}
use Rattle.query_cache.proofs.Prints.{digest_of-more, digest_of-none}
use Rattle.query_cache.proofs.fingerprints.digest_of.Goals as goal

pub loop-print-init : goal.loop-print-init
loop-print-init c = sym digest_of-none

pub loop-print-preserved : goal.loop-print-preserved
loop-print-preserved c =
    c.stirred_in-digest.ensures
    ∙ ap (λ n. stirred_in n (get_or c.args.prints.now c.loop-print.print-index 0)) c.loop-print.invariant
    ∙ sym (digest_of-more c.args.prints.now c.loop-print.print-index c.loop-print-test.true)
