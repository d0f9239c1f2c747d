use Rattle.std.proofs.Common.{◌≡◌, ◌∙◌, List, ap, arith, subst}
use Rattle.elf_load.specs.declared.region.Region.{Region}
use Rattle.fork_spec.specs.Parts.{Part}
use Rattle.node_split.specs.Rules.{Worker, leaf_place}
use Rattle.report_text.specs.Entries.{IsReportOfTree}
use Rattle.sym_state.specs.Places.{run_place}
use Rattle.sym_state.specs.Programs.{Program}
use Rattle.sym_state.specs.Runs.{IsFirst}
use Rattle.tree_core.specs.declared.budgets.Budgets.{Budgets}
use Rattle.tool_top.proofs.Explored.{is_report_of}
use Rattle.tool_top.proofs.exploring.plan_report.Goals as goal

pub returns-clause-report : goal.returns-clause-report
returns-clause-report g c =
    let worker : Worker = c.args.worker.now in
    let story = c.in_ok-tree.tree.story in
    let files = c.in_ok-report.report.files.items in
    let summary = c.in_ok-report.report.summary in
    let opening = c.in_ok-tree.ensures.opening in
    let regions : c.regions-regions.result.now ≡ worker.program.regions =
    c.regions-regions.ensures.value ∙ ap (λ (p : Program). p.regions) c.program-2.ensures.value in
    rw (c.into_parts-files.ensures.files, c.into_parts-files.ensures.summary)
    (is_report_of worker.program worker.budgets c.in_ok-root.root opening.0 story opening.1
    (subst (λ (p : Program). IsFirst p c.in_ok-root.root) c.program.ensures.value c.in_ok-root.ensures.first) opening.2.0
    c.in_ok-tree.ensures.drained c.args.workers c.in_ok-tree.ensures.few c.in_ok-tree.ensures.releases (omega arith) c.requires.within c.args.out.now files summary
    (subst (λ (rs : List Region). IsReportOfTree (λ (part : Part). part) run_place leaf_place c.args.out.now rs worker.budgets c.args.workers story files summary) regions
    (subst (λ (budgets : Budgets). IsReportOfTree (λ (part : Part). part) run_place leaf_place c.args.out.now c.regions-regions.result.now budgets c.args.workers story files summary)
    c.budgets-budgets.ensures.value c.in_ok-report.ensures)))
