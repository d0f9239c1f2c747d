use Rattle.std.proofs.Common.{not, sym, ap, ◌∙◌}
use Rattle.elf_load.specs.Fits.{is_in_image}
use Rattle.elf_load.proofs.Walking.{later_pass}
use Rattle.elf_load.proofs.fitting.has_unmapped.Goals as goal

pub loop-i-preserved : goal.loop-i-preserved
loop-i-preserved c =
    later_pass (λ address. not (is_in_image c.args.image.now address)) c.args.region.now.start c.args.region.now.count c.loop-i.i
    c.loop-i.invariant c.loop-i-test.true (ap not (sym c.is_on_page.ensures ∙ c.if-not-is_on_page.false))
