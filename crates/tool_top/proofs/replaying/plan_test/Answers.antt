use Rattle.std.proofs.Common.{◌≡◌, ◌∙◌, sym, ap, Some}
use Rattle.elf_load.specs.Fits.{unfit}
use Rattle.tool_top.proofs.ReplayPlans.{replays_misfit}
use Rattle.tool_top.proofs.replaying.plan_test.Goals as goal

pub returns-in-Err : goal.returns-in-Err
returns-in-Err c =
    let is : unfit c.args.image.now c.args.test.now.regions ≡ Some c.in-Err.why = sym (ap (λ t. unfit c.args.image.now t.regions) c.test.view_is) ∙ sym c.in-Err.ensures in
    replays_misfit c.args.bytes.now c.args.text.now c.args.image.now c.args.test.now _ c.refuse_input.result c.requires.loads c.requires.reads is
    c.refuse_input.ensures.verdict c.refuse_input.ensures.files c.refuse_input.ensures.text
