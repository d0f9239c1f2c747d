use Rattle.std.proofs.Common.{◌∙◌, refl, arith}
use Rattle.rv_machine.specs.Pages.{flags_on}
use Rattle.rv_machine.proofs.Addresses.{mapped_none, mapped-more}
use Rattle.rv_machine.proofs.call.are_mapped.Goals as goal

pub loop-i-init : goal.loop-i-init
loop-i-init c = record { same = refl; all = mapped_none (flags_on c.args.hart.now.pages) c.args.start }

pub loop-i-preserved : goal.loop-i-preserved
loop-i-preserved c = record {
  same = c.is_mapped-mapped.ensures.same ∙ c.loop-i.invariant.same;
  all = mapped-more (flags_on c.args.hart.now.pages) c.args.start c.loop-i.i c.loop-i.mapped c.is_mapped-mapped.result (omega arith) c.loop-i.invariant.all
      (rw c.loop-i.invariant.same at c.is_mapped-mapped.ensures.value);
}
