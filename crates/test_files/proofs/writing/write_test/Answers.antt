use Rattle.std.proofs.Common.{◌≡◌, ◌∙◌, ◌++◌, ℕ, Vec, Global, ap, codes, false, string_bytes}
use Rattle.serde_json.specs.View.{view}
use Rattle.serde_json.specs.Written.{compact_text, has_float}
use Rattle.test_files.specs.TestData.{test_data}
use Rattle.test_files.proofs.TestTexts.{test_has_no_float, text_of_test}
use Rattle.test_files.proofs.writing.write_test.Goals as goal

pub returns : goal.returns
returns c =
    let test = c.args.test.now in
    let is : view c.in_ok-value.value ≡ test_data test = c.in_ok-value.ensures in
    let whole : has_float (view c.in_ok-value.value) ≡ false = ap has_float is ∙ test_has_no_float test in
    let text : string_bytes c.in_ok-text.text ≡ compact_text (test_data test) = c.in_ok-text.ensures.text whole ∙ ap compact_text is in
    c.from_vec.ensures ∙ ap (λ (v : Vec ℕ Global). v.items) c.into_bytes.ensures.value ∙ c.in_ok-push_str.ensures.bytes
    ∙ ap (λ bytes. bytes ++ codes "\n") text ∙ text_of_test test
