-- The test that a text is, or why it is none.
use Rattle.std.specs.Prelude.{ℕ, ◌^◌, Bool, ◌&&◌, ◌==◌, nat_lt, nat_le, if◌then◌else◌, List, [], ◌∷◌, length, Option, None, Some, is_some, codes, Result, Ok, Err, option_and_then, option_map}
use Rattle.std.specs.List.{list_all}
use Rattle.std.specs.Str.{is_utf8}
use Rattle.serde_json.specs.Data.{Data, Items, no_items, item}
use Rattle.serde_json.specs.Find.{as_array, as_number, as_object, as_str, as_u64, get}
use Rattle.serde_json.specs.Read.{read}
use Rattle.elf_load.specs.Regions.{put_first}
use Rattle.elf_load.specs.declared.region.Region.{Region}
use Rattle.rv_decode.specs.declared.ends.End.{End}
use Rattle.rv_decode.specs.declared.ends.PathStep.{PathStep}
use Rattle.text_parts.specs.Digits.{hex_number}
use Rattle.test_files.specs.Forms.{end_said, path_of, region_of}
use Rattle.test_files.specs.Inputs.{Inputs, Item, Laid, apart, bytes_written, joined, laid}
use Rattle.test_files.specs.Tests.{Test}
use Rattle.test_files.specs.declared.format.Format.{Format}
use Rattle.test_files.specs.declared.format.Format.TheVariants.{Joined, Apart}
use Rattle.test_files.specs.declared.reading.TheConstants.{MOST_BYTES}
use Rattle.test_files.specs.declared.refused.TestRefused.{TestRefused}
use Rattle.test_files.specs.declared.refused.TestRefused.TheVariants.{NotJson, Missing, Kind, Hex, TooBig}

-- the most bytes of a test
abbrev pub most_bytes : ℕ
most_bytes = MOST_BYTES

-- the string at a key of an object
abbrev pub text_at : List ℕ → Data → Option (List ℕ)
text_at key value = option_and_then as_str (get key value)

-- the number at a key, which is written as an integer and not below 0
abbrev pub number_at : List ℕ → Data → Option ℕ
number_at key value = option_and_then as_u64 (option_and_then as_number (get key value))

-- ---- the format

-- format 1 has the input joined, format 2 has it apart
abbrev pub format_numbered : Option ℕ → Result Format TestRefused
format_numbered (Some n) =
    if n == 1 then Ok Joined else if n == 2 then Ok Apart else Err Kind
format_numbered None = Err Kind

-- the format that an object says
abbrev pub format_in : Data → Result Format TestRefused
format_in value =
    if is_some (get (codes "format") value)
    then format_numbered (number_at (codes "format") value) else Err Missing

-- the other keys that a test of the format has to have
abbrev pub keys : Format → List (List ℕ)
keys Joined = codes "end" ∷ codes "input" ∷ codes "leaf" ∷ codes "output" ∷ codes "path"
    ∷ codes "regions" ∷ codes "steps" ∷ []
keys Apart = codes "end" ∷ codes "inputs" ∷ codes "leaf" ∷ codes "output" ∷ codes "path"
    ∷ codes "steps" ∷ []

-- each key is there
abbrev pub has_keys : Format → Data → Bool
has_keys format value = list_all (λ key. is_some (get key value)) (keys format)

-- ---- the form of each value

-- a number from the least to the most
abbrev pub if_between : ℕ → ℕ → ℕ → Option ℕ
if_between least most n = if nat_le least n && nat_le n most then Some n else None

-- the rank of the leaf is one that each reader of JSON has exactly
abbrev pub leaf_in : Data → Option ℕ
leaf_in value = option_and_then (if_between 0 (2 ^ 53)) (number_at (codes "leaf") value)

-- from one step to a million
abbrev pub steps_in : Data → Option ℕ
steps_in value = option_and_then (if_between 1 1000000) (number_at (codes "steps") value)

-- how the run ends
abbrev pub end_in : Data → Option (Option End)
end_in value = option_and_then end_said (text_at (codes "end") value)

-- the path of the run
abbrev pub path_in : Data → Option (List PathStep)
path_in value = option_and_then path_of (text_at (codes "path") value)

-- ---- the regions and the input of format 1

-- the region that a string says
abbrev pub region_in : Data → Option Region
region_in value = option_and_then region_of (as_str value)

-- the region of each item, where each is a string that says one
abbrev pub regions_of : Items → Option (List Region)
regions_of no_items = Some []
regions_of (item value values) = put_first (region_in value) (regions_of values)

-- the regions of a list
abbrev pub regions_in : Data → Option (List Region)
regions_in value = option_and_then regions_of
    (option_and_then as_array (get (codes "regions") value))

abbrev pub joined_with : Option (List Region) → Option (List ℕ) → Option Inputs
joined_with (Some regions) (Some digits) = Some (joined regions digits)
joined_with _ _ = None

-- ---- those of format 2

abbrev pub item_with : Option ℕ → Option (List ℕ) → Option Item
item_with (Some start) (Some digits) = Some (record { start = start; digits = digits })
item_with _ _ = None

-- the region that an object says: its address in eight digits, and the digits of its bytes
abbrev pub item_in : Data → Option Item
item_in value = item_with (option_and_then hex_number (text_at (codes "at") value))
    (text_at (codes "bytes") value)

-- the region of each item, where each says one
abbrev pub items_in : Items → Option (List Item)
items_in no_items = Some []
items_in (item value values) = put_first (item_in value) (items_in values)

-- ---- what the keys say

-- the regions and the input, in a format
abbrev pub inputs_in : Format → Data → Option Inputs
inputs_in Joined value = joined_with (regions_in value) (text_at (codes "input") value)
inputs_in Apart value = option_map apart
    (option_and_then items_in (option_and_then as_array (get (codes "inputs") value)))

-- What the keys say. The input and the output are still in hexadecimal digits.
pub record Said : Type 0 where
  pub end : Option End
  pub inputs : Inputs
  pub leaf : ℕ
  pub output : List ℕ
  pub path : List PathStep
  pub steps : ℕ

-- where each is there
abbrev pub said_with : Option (Option End) → Option Inputs → Option ℕ → Option (List ℕ)
    → Option (List PathStep) → Option ℕ → Option Said
said_with (Some end) (Some inputs) (Some leaf) (Some output) (Some path) (Some steps) =
    Some (record {
      end = end;
      inputs = inputs;
      leaf = leaf;
      output = output;
      path = path;
      steps = steps;
    })
said_with _ _ _ _ _ _ = None

-- what the keys say, where each has a value of its form
unfoldable pub said_in : Format → Data → Option Said
said_in format value = said_with (end_in value) (inputs_in format value) (leaf_in value)
    (text_at (codes "output") value) (path_in value) (steps_in value)

-- ---- all of it

-- the test with these regions, this input and this output
abbrev pub test_laid : Said → List ℕ → Result Laid TestRefused → Result Test TestRefused
test_laid said output (Ok laid) =
    Ok (record {
      leaf = said.leaf;
      regions = laid.regions;
      input = laid.input;
      steps = said.steps;
      path = said.path;
      end = said.end;
      output = output;
    })
test_laid said output (Err why) = Err why

-- the test with this output, whose digits are refused first
abbrev pub test_from : Said → Option (List ℕ) → Result Test TestRefused
test_from said (Some output) = test_laid said output (laid said.inputs)
test_from said None = Err Hex

-- the test that the keys say
abbrev pub test_with_bytes : Said → Result Test TestRefused
test_with_bytes said = test_from said (bytes_written said.output)

-- the test of what the keys say, where each has a value of its form
abbrev pub test_said : Option Said → Result Test TestRefused
test_said (Some said) = test_with_bytes said
test_said None = Err Kind

-- the test of this format that an object is
abbrev pub test_formatted : Result Format TestRefused → Data → Result Test TestRefused
test_formatted (Ok format) value =
    if has_keys format value then test_said (said_in format value) else Err Missing
test_formatted (Err why) value = Err why

-- the test that a JSON value is
unfoldable pub test_in : Data → Result Test TestRefused
test_in value =
    if is_some (as_object value) then test_formatted (format_in value) value else Err Kind

-- the JSON value of a text in UTF-8
abbrev pub json_of : List ℕ → Option Data
json_of text = if is_utf8 text then read text else None

-- the test of a text that has this JSON value
abbrev pub test_read : Option Data → Result Test TestRefused
test_read (Some value) = test_in value
test_read None = Err NotJson

-- the test that a text is, or the first reason why it is none
unfoldable pub reading : List ℕ → Result Test TestRefused
reading text = if nat_lt most_bytes (length text) then Err TooBig else test_read (json_of text)
