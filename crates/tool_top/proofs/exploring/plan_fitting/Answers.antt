use Rattle.std.proofs.Common.{◌≡◌, ◌∙◌, List, ap, subst, sym}
use Rattle.elf_load.specs.declared.region.Region.{Region}
use Rattle.fork_spec.specs.Leaves.{IsSmall}
use Rattle.rv_spec.specs.Memory.{count_of}
use Rattle.sym_state.specs.Programs.{Program}
use Rattle.tool_top.proofs.Plans.{few_bytes}
use Rattle.tool_top.proofs.exploring.plan_fitting.Goals as goal

pub new-requires-clause-few_inputs : goal.new-requires-clause-few_inputs
new-requires-clause-few_inputs g c =
    let same : c.new-program.result.regions ≡ c.args.asked.now.regions = ap (λ (p : Program). p.regions) c.new-program.ensures ∙ c.in_ok-try_clone.ensures in
    subst (λ (rs : List Region). IsSmall (count_of rs)) (sym same) (few_bytes c.args.image c.args.asked.now.regions c.requires.fits)
