use Rattle.std.proofs.Common.{◌≡◌, ◌∙◌, ◌++◌, ℕ, Vec, Global, ap, codes, false, map, string_bytes}
use Rattle.serde_json.specs.View.{view}
use Rattle.serde_json.specs.Written.{compact_text, has_float}
use Rattle.report_text.specs.ReportData.{report_data}
use Rattle.report_text.proofs.ReportTexts.{report_has_no_float, text_of_report}
use Rattle.report_text.proofs.report_json.write_report.Goals as goal

pub returns : goal.returns
returns g c =
    let budgets = c.args.budgets.now in
    let workers = c.args.workers in
    let regions = c.args.regions.now in
    let entries = map g.E.Reported.leaf_node c.args.leaves.now in
    let is : view c.in_ok-value.value ≡ report_data budgets workers regions entries =
    c.in_ok-value.ensures in
    let whole : has_float (view c.in_ok-value.value) ≡ false =
    ap has_float is ∙ report_has_no_float budgets workers regions entries in
    let text : string_bytes c.in_ok-text.text
    ≡ compact_text (report_data budgets workers regions entries) =
    c.in_ok-text.ensures.text whole ∙ ap compact_text is in
    c.from_vec.ensures ∙ ap (λ (v : Vec ℕ Global). v.items) c.into_bytes.ensures.value
    ∙ c.in_ok-push_str.ensures.bytes
    ∙ ap (λ bytes. bytes ++ codes "\n") text ∙ text_of_report budgets workers regions entries
