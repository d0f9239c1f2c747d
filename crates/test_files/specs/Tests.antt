-- A test: an assignment of the input bytes, what the run of it does, and its text.
use Rattle.std.specs.Prelude.{ℕ, List, [], ◌∷◌, ◌++◌, Option, Some, None, codes, decimal, drop, map, take}
use Rattle.hex.specs.Hex.{encode_lower}
use Rattle.json.specs.Print.{quoted}
use Rattle.elf_load.specs.declared.region.Region.{Region}
use Rattle.rv_decode.specs.Ends.{trap_name}
use Rattle.rv_decode.specs.declared.ends.End.{End}
use Rattle.rv_decode.specs.declared.ends.End.TheVariants.{Exit, Trapped}
use Rattle.rv_decode.specs.declared.ends.PathStep.{PathStep}
use Rattle.text_parts.specs.Names.{eight_digits, path_text}

pub record Test : Type 0 where
  -- the rank of its leaf
  pub leaf : ℕ
  pub regions : List Region
  pub input : List ℕ
  pub steps : ℕ
  pub path : List PathStep
  -- how the run ends, and none where it is still running after these steps
  pub end : Option End
  pub output : List ℕ

-- a region with its bytes
pub record Filled : Type 0 where
  -- the address of the first
  pub start : ℕ
  pub bytes : List ℕ

-- each region with its bytes, which stand one after another in the input
abbrev pub filled : List Region → List ℕ → List Filled
filled [] input = []
filled (region ∷ regions) input =
    (record { start = region.start; bytes = take region.count input })
    ∷ filled regions (drop region.count input)

-- ---- texts

-- an address in eight digits, a colon, and how many bytes
abbrev pub region_text : Region → List ℕ
region_text region = eight_digits region.start ++ codes ":" ++ decimal region.count

-- texts as JSON strings, with commas between
abbrev pub quoted_all : List (List ℕ) → List ℕ
quoted_all [] = []
quoted_all (text ∷ []) = quoted text
quoted_all (text ∷ next ∷ texts) = quoted text ++ codes "," ++ quoted_all (next ∷ texts)

-- texts with commas between
abbrev pub with_commas : List (List ℕ) → List ℕ
with_commas [] = []
with_commas (text ∷ []) = text
with_commas (text ∷ next ∷ texts) = text ++ codes "," ++ with_commas (next ∷ texts)

-- a JSON object: the address of a region, and its bytes
abbrev pub filled_text : Filled → List ℕ
filled_text region =
    codes "{\"at\":" ++ quoted (eight_digits region.start)
    ++ codes ",\"bytes\":" ++ quoted (encode_lower region.bytes)
    ++ codes "}"

abbrev pub end_text : Option End → List ℕ
end_text (Some (Exit status)) = codes "exit " ++ decimal status
end_text (Some (Trapped trap)) = codes "trap " ++ trap_name trap
end_text None = codes "running"

-- a JSON object (RFC 8259) with its keys in order and no blanks, and a line feed: format 2 of tests
unfoldable pub test_text : Test → List ℕ
test_text test =
    codes "{\"end\":" ++ quoted (end_text test.end)
    ++ codes ",\"format\":2,\"inputs\":["
    ++ with_commas (map filled_text (filled test.regions test.input))
    ++ codes "],\"leaf\":" ++ decimal test.leaf
    ++ codes ",\"output\":" ++ quoted (encode_lower test.output)
    ++ codes ",\"path\":" ++ quoted (path_text test.path)
    ++ codes ",\"steps\":" ++ decimal test.steps
    ++ codes "}\n"
