use Rattle.std.proofs.Common.{rules, ◌≡◌, ◌∙◌, ap, option_map, map, Some, Err, refl}
use Rattle.clap.specs.Words.{found_of}
use Rattle.tool_words.specs.Job.{explore_with}
use Rattle.tool_words.specs.Region.{regions_said}
use Rattle.tool_words.specs.Seen.{job_seen}
use Rattle.tool_words.proofs.Exploring.{explore_job_is, no_budgets, no_workers, same_error}
use Rattle.tool_words.proofs.words.read_explore.Goals.{in_default-via-in-Some+in-Some+in-Some+in-Some+in_default, in_default-via-in-Some+in-Some+in-Some+in_default, in_default-via-in-Some+in-Some+in_default, in_default-via-in-Some+in_default, in_default-via-in_default}
use Rattle.tool_words.proofs.words.read_explore.Goals as goal

pub returns-in_default : goal.returns-in_default
returns-in_default c =
    let job = explore_job_is (found_of c.args.found.now) (option_map (λ s. s.now) c.get_str.result) (option_map (λ s. s.now) c.get_str-2.result)
    (option_map (λ s. map (λ v. v.now) s.now) c.get_raw.result) c.read_budgets.result c.read_workers.result c.get_str.ensures c.get_str-2.ensures c.get_raw.ensures
    c.read_budgets.ensures c.read_workers.ensures in
    elim c.in_default.branch [
      | in_default-via-in-Some+in-Some+in-Some+in-Some+in_default w ↦ rw (w.in_default.is-0, w.in_default.is-1, w.in_default.is-2, w.in_default.is-3, w.in_default.is-4) at job ∙ no_workers _ _ _ _
      | in_default-via-in-Some+in-Some+in-Some+in_default w ↦ rw (w.in_default.is-0, w.in_default.is-1, w.in_default.is-2, w.in_default.is-3) at job ∙ no_budgets _ _ _ _
      | in_default-via-in-Some+in-Some+in_default w ↦ rw (w.in_default.is-0, w.in_default.is-1, w.in_default.is-2) at job
      | in_default-via-in-Some+in_default w ↦ rw (w.in_default.is-0, w.in_default.is-1) at job
      | in_default-via-in_default w ↦ rw w.in_default.is-0 at job
    ]

pub returns-in_err-regions : goal.returns-in_err-regions
returns-in_err-regions c =
    let job = explore_job_is (found_of c.args.found.now) (option_map (λ s. s.now) c.get_str.result) (option_map (λ s. s.now) c.get_str-2.result)
    (option_map (λ s. map (λ v. v.now) s.now) c.get_raw.result) c.read_budgets.result c.read_workers.result c.get_str.ensures c.get_str-2.ensures c.get_raw.ensures
    c.read_budgets.ensures c.read_workers.ensures in
    let found = c.in-Some-Some-Some-Some-Some in
    let there = rw (found.is-0, found.is-1, found.is-2, found.is-3, found.is-4) at job in
    let is : c.read_regions.result ≡ Err c.in_err-regions.field-0.0 = search rules in
    let also : c.from_residual.result ≡ Err c.in_err-regions.field-0.0 = search rules in
    same_error _ _ c.read_regions.result job_seen _ c.from_residual.result c.in_err-regions.field-0.0 is also c.read_regions.ensures
    (λ none. there ∙ ap (λ regions. explore_with (Some found.program.now) (Some found.out.now) regions (Some found.budgets) (Some found.workers)) none)

pub returns : goal.returns
returns c =
    let job = explore_job_is (found_of c.args.found.now) (option_map (λ s. s.now) c.get_str.result) (option_map (λ s. s.now) c.get_str-2.result)
    (option_map (λ s. map (λ v. v.now) s.now) c.get_raw.result) c.read_budgets.result c.read_workers.result c.get_str.ensures c.get_str-2.ensures c.get_raw.ensures
    c.read_budgets.ensures c.read_workers.ensures in
    let found = c.in-Some-Some-Some-Some-Some in
    let there = rw (found.is-0, found.is-1, found.is-2, found.is-3, found.is-4) at job in
    let regions : regions_said (map (λ v. v.now) found.inputs.now) ≡ Some c.in_ok-regions.regions = search rules in
    there ∙ rw (regions, c.in_ok-from_str.ensures.ok, c.in_ok-from_str-2.ensures.ok) refl
