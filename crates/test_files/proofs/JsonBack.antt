-- The text of a test is read back as its JSON value.
use Rattle.std.proofs.Common.{◌≡◌, ◌∙◌, ◌≤◌, ◌<◌, ◌^◌, List, [], ◌∷◌, ◌++◌, map, Some, option_and_then, refl, sym, ap, append-nil, codes, arith}
use Rattle.json.specs.Json as json
use Rattle.json.specs.Lex.{tokens}
use Rattle.json.specs.Tree as tree
use Rattle.json.specs.Tree.{HasNumbers, ItemsHaveNumbers, json_tokens}
use Rattle.json.proofs.Printed.Decimals.{IsNumber-decimal}
use Rattle.json.proofs.Printed.Trees.{ArePrintable-json_tokens, value-json_tokens}
use Rattle.serde_json.specs.Data.{Data, Items}
use Rattle.serde_json.specs.Read.{max_depth, of_items, of_json, read}
use Rattle.serde_json.specs.View.{items_of}
use Rattle.serde_json.specs.Written.{compact_text, items_outline, outline}
use Rattle.serde_json.proofs.Numbers.{number_of-decimal}
use Rattle.serde_json.proofs.Texts.{print-outline}
use Rattle.test_files.specs.TestData.{filled_data, test_data}
use Rattle.test_files.specs.Tests.{Filled, Test, filled, test_text}
use Rattle.test_files.proofs.LineEnds.{tokens-line}
use Rattle.test_files.proofs.TestTexts.{text_of_test}

-- the compact text of a value, and a line feed
read_line : (d : Data) → HasNumbers (outline d) → tree.depth (outline d) ≤ max_depth → of_json (outline d) ≡ Some d → read (compact_text d ++ codes "\n") ≡ Some d
read_line d numbers shallow back =
    let ts = json_tokens (outline d) in
    let lexed : tokens (compact_text d ++ codes "\n") ≡ ts =
    ap (λ text. tokens (text ++ codes "\n")) (sym (print-outline d)) ∙ tokens-line ts (ArePrintable-json_tokens (outline d) numbers) in
    let parsed : json.value max_depth (tokens (compact_text d ++ codes "\n")) ≡ Some (outline d, []) =
    ap (json.value max_depth) (lexed ∙ sym (append-nil ts)) ∙ value-json_tokens (outline d) max_depth [] shallow in
    ap (λ o. option_and_then of_json (option_and_then (λ p. json.if_last p.0 p.1) o)) parsed ∙ back

-- ---- the regions with their bytes

abbrev objects : List Filled → Items
objects regions = items_of (map filled_data regions)

objects_have_numbers : (regions : List Filled) → ItemsHaveNumbers (items_outline (objects regions))
objects_have_numbers [] = tt
objects_have_numbers (region ∷ regions) = ((tt, (tt, tt)), objects_have_numbers regions)

objects_depth : (regions : List Filled) → tree.items_depth (items_outline (objects regions)) ≤ 1
objects_depth [] = omega arith
objects_depth (region ∷ regions) = omega (arith, objects_depth regions)

objects_back : (regions : List Filled) → of_items (items_outline (objects regions)) ≡ Some (objects regions)
objects_back [] = refl
objects_back (region ∷ regions) = rw (objects_back regions) refl

-- ---- the test

data_depth : (test : Test) → tree.depth (outline (test_data test)) ≤ max_depth
data_depth test = omega (arith, objects_depth (filled test.regions test.input))

data_numbers : (test : Test) → test.leaf < 2 ^ 64 → test.steps < 2 ^ 64 → HasNumbers (outline (test_data test))
data_numbers test leaf steps =
    (tt, (IsNumber-decimal 2 (omega arith), (objects_have_numbers (filled test.regions test.input), (IsNumber-decimal test.leaf leaf, (tt, (tt, (IsNumber-decimal test.steps steps, tt)))))))

data_back : (test : Test) → test.leaf < 2 ^ 64 → test.steps < 2 ^ 64 → of_json (outline (test_data test)) ≡ Some (test_data test)
data_back test leaf steps =
    rw (number_of-decimal 2 (omega arith), number_of-decimal test.leaf leaf, objects_back (filled test.regions test.input), number_of-decimal test.steps steps) refl

pub text_back : (test : Test) → test.leaf < 2 ^ 64 → test.steps < 2 ^ 64 → read (test_text test) ≡ Some (test_data test)
text_back test leaf steps = ap read (sym (text_of_test test)) ∙ read_line (test_data test) (data_numbers test leaf steps) (data_depth test) (data_back test leaf steps)
