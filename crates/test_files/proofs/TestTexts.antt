-- The compact text of a test's JSON value.
use Rattle.std.proofs.Common.{◌≡◌, ◌∙◌, ℕ, List, [], ◌∷◌, ◌++◌, ◌||◌, Bool, false, map, ap, ap₂, refl, append_assoc, arith, codes, decimal}
use Rattle.std.proofs.lemmas.Fmt.{decimal_digit}
use Rattle.hex.specs.Hex.{encode_lower}
use Rattle.text_parts.specs.Names.{eight_digits, path_text}
use Rattle.json.specs.Print.{quoted}
use Rattle.serde_json.specs.View.{items_of}
use Rattle.serde_json.specs.Written.{compact_text, items_text, has_float, items_have_float}
use Rattle.serde_json.proofs.OnLiterals.{serde_json_on_literals}
use Rattle.test_files.specs.TestData.{filled_data, test_data}
use Rattle.test_files.specs.Tests.{Filled, Test, end_text, filled, filled_text, test_text, with_commas}

no_floats : (regions : List Filled) → items_have_float (items_of (map filled_data regions)) ≡ false
no_floats [] = refl
no_floats (region ∷ regions) = no_floats regions

-- a test has no numbers but whole ones
pub test_has_no_float : (test : Test) → has_float (test_data test) ≡ false
test_has_no_float test = ap (λ (b : Bool). b || false) (no_floats (filled test.regions test.input))

-- ---- the regions with their bytes

regroup_one : (a b c at bytes : List ℕ) → a ++ (at ++ (b ++ (bytes ++ c))) ≡ a ++ at ++ b ++ bytes ++ c
regroup_one a b c at bytes = simp append_assoc

text_of_filled : (region : Filled) → compact_text (filled_data region) ≡ filled_text region
unfolding serde_json_on_literals
text_of_filled region =
    let at = quoted (eight_digits region.start) in
    let bytes = quoted (encode_lower region.bytes) in
    let object : compact_text (filled_data region) ≡ codes "{\"at\":" ++ (at ++ (codes ",\"bytes\":" ++ (bytes ++ codes "}"))) = refl in
    object ∙ regroup_one (codes "{\"at\":") (codes ",\"bytes\":") (codes "}") at bytes

regroup_more : (first others comma last : List ℕ) → first ++ (comma ++ (others ++ last)) ≡ (first ++ comma ++ others) ++ last
regroup_more first others comma last = simp append_assoc

-- all of them, with the closing bracket
inputs_text : (regions : List Filled) → items_text false (items_of (map filled_data regions)) ≡ with_commas (map filled_text regions) ++ codes "]"
inputs_text [] = refl
inputs_text (region ∷ []) = ap (λ text. text ++ codes "]") (text_of_filled region)
inputs_text (region ∷ next ∷ regions) =
    ap₂ (λ first others. first ++ (codes "," ++ others)) (text_of_filled region) (inputs_text (next ∷ regions))
    ∙ regroup_more (filled_text region) (with_commas (map filled_text (next ∷ regions))) (codes ",") (codes "]")

-- ---- the test

regroup : (a b c d e f g h end inputs leaf output path steps last : List ℕ) →
    (a ++ (end ++ (b ++ ((inputs ++ c) ++ (d ++ (leaf ++ (e ++ (output ++ (f ++ (path ++ (g ++ (steps ++ h)))))))))))) ++ last
    ≡ a ++ end ++ b ++ inputs ++ (c ++ d) ++ leaf ++ e ++ output ++ f ++ path ++ g ++ steps ++ (h ++ last)
regroup a b c d e f g h end inputs leaf output path steps last = simp append_assoc

-- the text of the object, and a line feed
pub text_of_test : (test : Test) → compact_text (test_data test) ++ codes "\n" ≡ test_text test
unfolding test_text serde_json_on_literals
text_of_test test =
    let two : decimal 2 ≡ codes "2" = decimal_digit 2 (omega arith) in
    let regions = filled test.regions test.input in
    let end = quoted (end_text test.end) in
    let inputs = with_commas (map filled_text regions) in
    let output = quoted (encode_lower test.output) in
    let path = quoted (path_text test.path) in
    let object : compact_text (test_data test) ≡
    codes "{\"end\":" ++ (end ++ (codes ",\"format\":2,\"inputs\":[" ++ ((inputs ++ codes "]")
    ++ (codes ",\"leaf\":" ++ (decimal test.leaf ++ (codes ",\"output\":" ++ (output
    ++ (codes ",\"path\":" ++ (path ++ (codes ",\"steps\":" ++ (decimal test.steps ++ codes "}"))))))))))) =
    rw (inputs_text regions, two) refl in
    ap (λ text. text ++ codes "\n") object
    ∙ regroup (codes "{\"end\":") (codes ",\"format\":2,\"inputs\":[") (codes "]") (codes ",\"leaf\":") (codes ",\"output\":") (codes ",\"path\":")
    (codes ",\"steps\":") (codes "}") end inputs (decimal test.leaf) output path (decimal test.steps) (codes "\n")
