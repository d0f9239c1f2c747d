-- The text of a test is that of no other.
use Rattle.std.proofs.Common.{◌≡◌, ◌∙◌, map, sym, ap, codes}
use Rattle.std.specs.Prelude.{option_and_then}
use Rattle.std.proofs.lemmas.Option.{same_Some}
use Rattle.hex.specs.Hex.{encode_lower}
use Rattle.serde_json.specs.Find.{as_array, get}
use Rattle.serde_json.specs.Read.{read}
use Rattle.text_parts.proofs.DigitsBack.{bytes_by_digits}
use Rattle.test_files.specs.Inputs.{all_filled, input_filled, regions_filled}
use Rattle.test_files.specs.Reading.{end_in, items_in, number_at, path_in, text_at}
use Rattle.test_files.specs.TestData.{test_data}
use Rattle.test_files.specs.Tests.{Test, filled, test_text}
use Rattle.test_files.specs.Writable.{IsLegible}
use Rattle.test_files.proofs.Filling.{bytes_of_filled, filled_back, input_of_filled, item_of, regions_of_filled, starts_of_filled}
use Rattle.test_files.proofs.FormsBack.{end_back, path_back}
use Rattle.test_files.proofs.JsonBack.{text_back}
use Rattle.test_files.proofs.ReadBack.{items_back}

-- the text is that of one JSON value
same_data : (test other : Test) → IsLegible test → IsLegible other → test_text test ≡ test_text other → test_data test ≡ test_data other
same_data test other legible also e =
    same_Some (test_data test) (test_data other) (sym (text_back test legible.leaf_fits legible.steps_fit) ∙ ap read e ∙ text_back other also.leaf_fits also.steps_fit)

-- and that value has the same regions with their bytes
same_filled : (test other : Test) → IsLegible test → IsLegible other → test_data test ≡ test_data other → filled test.regions test.input ≡ filled other.regions other.input
same_filled test other legible also value =
    let first = filled test.regions test.input in
    let second = filled other.regions other.input in
    let items : map item_of first ≡ map item_of second =
    same_Some (map item_of first) (map item_of second)
    (sym (items_back first (starts_of_filled test.regions test.input legible.starts))
    ∙ ap (λ v. option_and_then items_in (option_and_then as_array (get (codes "inputs") v))) value
    ∙ items_back second (starts_of_filled other.regions other.input also.starts)) in
    same_Some first second
    (sym (filled_back first (bytes_of_filled test.regions test.input legible.input_bytes)) ∙ ap all_filled items
    ∙ filled_back second (bytes_of_filled other.regions other.input also.input_bytes))

-- and says each part of the test
pub test_by_text : (test other : Test) → IsLegible test → IsLegible other → test_text test ≡ test_text other → test ≡ other
test_by_text test other legible also e =
    let value : test_data test ≡ test_data other = same_data test other legible also e in
    let inputs = same_filled test other legible also value in
    let leaf : test.leaf ≡ other.leaf = same_Some test.leaf other.leaf (ap (number_at (codes "leaf")) value) in
    let steps : test.steps ≡ other.steps = same_Some test.steps other.steps (ap (number_at (codes "steps")) value) in
    let regions : test.regions ≡ other.regions =
    sym (regions_of_filled test.regions test.input legible.input_long) ∙ ap regions_filled inputs ∙ regions_of_filled other.regions other.input also.input_long in
    let input : test.input ≡ other.input =
    sym (input_of_filled test.regions test.input legible.input_long) ∙ ap input_filled inputs ∙ input_of_filled other.regions other.input also.input_long in
    let path : test.path ≡ other.path =
    same_Some test.path other.path (sym (path_back test.path legible.targets) ∙ ap path_in value ∙ path_back other.path also.targets) in
    let end : test.end ≡ other.end =
    same_Some test.end other.end (sym (end_back test.end legible.status) ∙ ap end_in value ∙ end_back other.end also.status) in
    let output : test.output ≡ other.output =
    bytes_by_digits test.output other.output legible.output_bytes also.output_bytes
    (same_Some (encode_lower test.output) (encode_lower other.output) (ap (text_at (codes "output")) value)) in
    λ k. record { leaf = leaf k; regions = regions k; input = input k; steps = steps k; path = path k; end = end k; output = output k }
