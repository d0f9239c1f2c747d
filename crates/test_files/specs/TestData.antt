-- A test as a JSON value.
use Rattle.std.specs.Prelude.{List, codes, map}
use Rattle.hex.specs.Hex.{encode_lower}
use Rattle.serde_json.specs.Data.{Data, number, unsigned, string, array, object, member, no_members}
use Rattle.serde_json.specs.View.{items_of}
use Rattle.elf_load.specs.declared.region.Region.{Region}
use Rattle.text_parts.specs.Names.{eight_digits, path_text}
use Rattle.test_files.specs.Tests.{Filled, Test, end_text, filled, region_text}

-- the regions, each as a string
abbrev pub regions_data : List Region → Data
regions_data regions = array (items_of (map (λ region. string (region_text region)) regions))

-- a region with its bytes: the object, its keys in order
abbrev pub filled_data : Filled → Data
filled_data region = object (
    member (codes "at") (string (eight_digits region.start)) (
    member (codes "bytes") (string (encode_lower region.bytes)) no_members))

-- the regions with their bytes
abbrev pub inputs_data : List Filled → Data
inputs_data regions = array (items_of (map filled_data regions))

-- the object, its keys in order
abbrev pub test_data : Test → Data
test_data test = object (
    member (codes "end") (string (end_text test.end)) (
    member (codes "format") (number (unsigned 2)) (
    member (codes "inputs") (inputs_data (filled test.regions test.input)) (
    member (codes "leaf") (number (unsigned test.leaf)) (
    member (codes "output") (string (encode_lower test.output)) (
    member (codes "path") (string (path_text test.path)) (
    member (codes "steps") (number (unsigned test.steps)) no_members)))))))
