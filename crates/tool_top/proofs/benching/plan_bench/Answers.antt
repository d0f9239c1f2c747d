use Rattle.std.proofs.Common.{◌≡◌, ◌∙◌, List, ap, subst}
use Rattle.elf_load.specs.Images.{Image, Loads}
use Rattle.elf_load.specs.Refusals.{refusal}
use Rattle.elf_load.specs.declared.region.Region.{Region}
use Rattle.node_split.specs.Rules.{Worker}
use Rattle.prog_gen.proofs.Programs.{input_fits, refused_by_nothing}
use Rattle.prog_gen.specs.Generated.{generated_file, generated_regions}
use Rattle.sym_state.specs.Programs.{Program}
use Rattle.tool_words.specs.Limits.{default_budgets}
use Rattle.tool_top.specs.Lines.{bench_line}
use Rattle.tool_top.specs.Reports.{IsReportOf}
use Rattle.tool_top.proofs.benching.plan_bench.Goals as goal

pub load_whole-requires : goal.load_whole-requires
load_whole-requires g c =
    let bytes : c.as_slice.result.now ≡ generated_file c.args.number = c.as_slice.ensures ∙ c.in_ok-file.ensures.file in
    ap refusal bytes ∙ refused_by_nothing c.args.number c.requires.number.0 c.requires.number.1

pub new-requires : goal.new-requires
new-requires g c =
    let image : Image = c.in_ok-image.image in
    let bytes : c.as_slice.result.now ≡ generated_file c.args.number = c.as_slice.ensures ∙ c.in_ok-file.ensures.file in
    let loads : Loads (generated_file c.args.number) image = subst (λ b. Loads b image) bytes c.in_ok-image.ensures in
    rw c.in_ok-file.ensures.regions (record { fitted = input_fits c.args.number image c.requires.number.0 c.requires.number.1 loads })

pub returns : goal.returns
returns g c =
    let image : Image = c.in_ok-image.image in
    let bytes : c.as_slice.result.now ≡ generated_file c.args.number = c.as_slice.ensures ∙ c.in_ok-file.ensures.file in
    let loads : Loads (generated_file c.args.number) image = subst (λ b. Loads b image) bytes c.in_ok-image.ensures in
    let report = c.in_ok-plan.plan in
    let program : c.new.result ≡ record { image = image; regions = generated_regions c.args.number } =
    c.new.ensures ∙ ap (λ (rs : List Region). record { image = image; regions = rs }) c.in_ok-file.ensures.regions in
    let worker : c.in_ok-worker.worker ≡ record { program = record { image = image; regions = generated_regions c.args.number }; budgets = default_budgets } =
    c.in_ok-worker.ensures ∙ ap (λ (p : Program). record { program = p; budgets = default_budgets }) program in
    record {
      image = image;
      loads = loads;
      fits = input_fits c.args.number image c.requires.number.0 c.requires.number.1 loads;
      done = c.in_ok-plan.ensures.verdict;
      summary = report.text;
      report =
          subst (λ (w : Worker). IsReportOf c.args.out.now w.program.image w.program.regions w.budgets c.args.workers report.files.items report.text) worker c.in_ok-plan.ensures.report;
      line = c.in_ok-plan-2.ensures ∙ ap (bench_line c.args.number) c.as_slice-2.ensures;
    }
