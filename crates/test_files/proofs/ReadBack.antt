-- A test that was written is read back.
use Rattle.std.proofs.Common.{◌≡◌, ◌∙◌, ◌<◌, ◌≤◌, ◌^◌, ℕ, suc, true, false, List, [], ◌∷◌, length, map, nat_le, nat_lt, Some, Ok, refl, ap, ap₂, arith}
use Rattle.std.specs.List.{All}
use Rattle.std.specs.Str.{is_utf8}
use Rattle.std.proofs.lemmas.Bool.Decides.{nat_tests}
use Rattle.std.proofs.lemmas.Str.{is_utf8-from_IsUtf8}
use Rattle.hex.specs.Hex.{encode_lower}
use Rattle.hex.proofs.HexLemmas.{decode_of-encode_lower}
use Rattle.elf_load.specs.Regions.{put_first}
use Rattle.serde_json.specs.View.{items_of}
use Rattle.text_parts.proofs.DigitsBack.{hex_back}
use Rattle.test_files.specs.Inputs.{apart, laid}
use Rattle.test_files.specs.Reading.{Said, if_between, item_with, items_in, most_bytes, reading, said_in, test_in, test_said, test_with_bytes}
use Rattle.test_files.specs.TestData.{filled_data, test_data}
use Rattle.test_files.specs.Tests.{Filled, Test, filled, test_text}
use Rattle.test_files.specs.Writable.{IsWritable}
use Rattle.test_files.specs.declared.format.Format.TheVariants.{Apart}
use Rattle.test_files.proofs.Filling.{bytes_of_filled, filled_back, input_of_filled, item_of, regions_of_filled, starts_of_filled}
use Rattle.test_files.proofs.FormsBack.{end_back, path_back}
use Rattle.test_files.proofs.JsonBack.{text_back}
use Rattle.test_files.proofs.Utf8Texts.{text_utf8}

-- what the keys of a test say
abbrev said : Test → Said
said test = record {
  end = test.end;
  inputs = apart (map item_of (filled test.regions test.input));
  leaf = test.leaf;
  output = encode_lower test.output;
  path = test.path;
  steps = test.steps;
}

between_back : (least most n : ℕ) → least ≤ n → n ≤ most → if_between least most n ≡ Some n
between_back least most n low high =
    let first : nat_le least n ≡ true = grind (arith, nat_tests) in
    let second : nat_le n most ≡ true = grind (arith, nat_tests) in
    rw (first, second) refl

pub items_back : (regions : List Filled) → All (λ (f : Filled). f.start < 2 ^ 32) regions → items_in (items_of (map filled_data regions)) ≡ Some (map item_of regions)
items_back [] starts = refl
items_back (region ∷ regions) starts =
    ap₂ (λ start others. put_first (item_with start (Some (encode_lower region.bytes))) others)
    (hex_back region.start (starts 0 region (omega arith)))
    (items_back regions (λ k d lt. starts (suc k) d (omega (arith, lt))))

said_back : (test : Test) → IsWritable test → said_in Apart (test_data test) ≡ Some (said test)
unfolding said_in
said_back test w =
    rw (
      between_back 0 (2 ^ 53) test.leaf (omega arith) w.bounded.leaf_within,
      between_back 1 1000000 test.steps w.bounded.steps_there w.bounded.steps_within,
      end_back test.end w.bounded.legible.status,
      path_back test.path w.bounded.legible.targets,
      items_back (filled test.regions test.input) (starts_of_filled test.regions test.input w.bounded.legible.starts),
    ) refl

laid_back : (test : Test) → IsWritable test → laid (said test).inputs ≡ Ok (record { regions = test.regions; input = test.input })
laid_back test w =
    let long = w.bounded.legible.input_long in
    rw (
      filled_back (filled test.regions test.input) (bytes_of_filled test.regions test.input w.bounded.legible.input_bytes),
      regions_of_filled test.regions test.input long,
      input_of_filled test.regions test.input long,
      w.inputs,
    ) refl

with_bytes_back : (test : Test) → IsWritable test → test_with_bytes (said test) ≡ Ok test
with_bytes_back test w =
    rw (decode_of-encode_lower test.output w.bounded.legible.output_bytes, laid_back test w) refl

data_back : (test : Test) → IsWritable test → test_in (test_data test) ≡ Ok test
unfolding test_in
data_back test w = ap test_said (said_back test w) ∙ with_bytes_back test w

pub test_back : (test : Test) → IsWritable test → reading (test_text test) ≡ Ok test
unfolding reading
test_back test w =
    let fits : nat_lt most_bytes (length (test_text test)) ≡ false = grind (arith, nat_tests, w.text_within) in
    let legible = w.bounded.legible in
    let utf8 : is_utf8 (test_text test) ≡ true = is_utf8-from_IsUtf8 (test_text test) (text_utf8 test legible.leaf_fits legible.steps_fit legible.status) in
    rw (fits, utf8, text_back test legible.leaf_fits legible.steps_fit) (data_back test w)
