-- Regions and input bytes that texts say: a byte for each place, and regions at addresses.
use Rattle.std.proofs.Common.{◌≡◌, ◌<◌, ◌^◌, ◌==◌, ℕ, zero, suc, Bool, true, false, List, [], ◌∷◌, ◌++◌, length, Option, None, Some, Result, Ok, Err, refl, subst, arith}
use Rattle.std.specs.Prelude.{IsTrue, codes, if◌then◌else◌, option_and_then}
use Rattle.std.specs.List.{All}
use Rattle.std.proofs.lemmas.Bool.Decides.{nat_tests}
use Rattle.std.proofs.lemmas.List.Elements.{All-cons, All-map, All-nil}
use Rattle.std.proofs.lemmas.Option.{same_Some}
use Rattle.hex.specs.Hex.{IsBytes, decode_of}
use Rattle.hex.specs.declared.error.FromHexError.{FromHexError}
use Rattle.hex.proofs.HexLemmas.{decode_of-ok}
use Rattle.elf_load.specs.declared.region.Region.{Region}
use Rattle.serde_json.specs.Data.{Data, Items, no_items, item}
use Rattle.serde_json.specs.Find.{as_array, as_str, get}
use Rattle.text_parts.specs.Digits.{hex_number}
use Rattle.text_parts.proofs.Options.{map_from, then_from}
use Rattle.test_files.specs.Forms.{region_of}
use Rattle.test_files.specs.Inputs.{Inputs, Item, Laid, all_filled, apart, bytes_in, bytes_written, filled_with, has_inputs, if_decoded, input_filled, joined, laid, laid_apart, laid_joined, regions_filled}
use Rattle.test_files.specs.Reading.{inputs_in, item_in, item_with, items_in, joined_with, region_in, regions_in, regions_of, text_at}
use Rattle.test_files.specs.Tests.{Filled}
use Rattle.test_files.specs.declared.format.Format.{Format}
use Rattle.test_files.specs.declared.format.Format.TheVariants.{Joined, Apart}
use Rattle.test_files.specs.declared.refused.TestRefused.TheVariants.{Length}
use Rattle.test_files.proofs.Filling.{as_many_bytes}
use Rattle.test_files.proofs.Formed.{address_small, first_from, start_small}

abbrev pub AreAddresses : List Region → Type 0
AreAddresses regions = All (λ (r : Region). r.start < 2 ^ 32) regions

-- regions and digits that stand at addresses
abbrev pub HaveAddresses : Inputs → Type 0
HaveAddresses (joined regions digits) = AreAddresses regions
HaveAddresses (apart items) = All (λ (i : Item). i.start < 2 ^ 32) items

-- ---- what the keys say

regions_placed : (values : Items) (regions : List Region) → regions_of values ≡ Some regions → AreAddresses regions
regions_placed no_items regions is = subst AreAddresses (same_Some [] regions is) (All-nil (λ (r : Region). r.start < 2 ^ 32))
regions_placed (item value values) regions is =
    let found = first_from (region_in value) (regions_of values) regions is in
    let text = then_from region_of (as_str value) found.0 found.2 in
    subst AreAddresses found.4
    (All-cons (λ (r : Region). r.start < 2 ^ 32) found.0 found.1 (start_small text.0 found.0 text.2) (regions_placed values found.1 found.3))

item_placed : (start : Option ℕ) (digits : Option (List ℕ)) (i : Item) → ((n : ℕ) → start ≡ Some n → n < 2 ^ 32) → item_with start digits ≡ Some i → i.start < 2 ^ 32
item_placed (Some start) (Some digits) i small is =
    subst (λ (i : Item). i.start < 2 ^ 32) (same_Some (record { start = start; digits = digits }) i is) (small start refl)
item_placed (Some start) None i small is = cc
item_placed None digits i small is = cc

address_in : (text : Option (List ℕ)) (n : ℕ) → option_and_then hex_number text ≡ Some n → n < 2 ^ 32
address_in text n is = let found = then_from hex_number text n is in address_small found.0 n found.2

items_placed : (values : Items) (items : List Item) → items_in values ≡ Some items → All (λ (i : Item). i.start < 2 ^ 32) items
items_placed no_items items is = subst (All (λ (i : Item). i.start < 2 ^ 32)) (same_Some [] items is) (All-nil (λ (i : Item). i.start < 2 ^ 32))
items_placed (item value values) items is =
    let found = first_from (item_in value) (items_in values) items is in
    let small = item_placed (option_and_then hex_number (text_at (codes "at") value)) (text_at (codes "bytes") value) found.0 (address_in (text_at (codes "at") value)) found.2 in
    subst (All (λ (i : Item). i.start < 2 ^ 32)) found.4
    (All-cons (λ (i : Item). i.start < 2 ^ 32) found.0 found.1 small (items_placed values found.1 found.3))

joined_placed : (regions : Option (List Region)) (digits : Option (List ℕ)) (inputs : Inputs) → ((rs : List Region) → regions ≡ Some rs → AreAddresses rs)
    → joined_with regions digits ≡ Some inputs → HaveAddresses inputs
joined_placed (Some regions) (Some digits) inputs placed is = subst HaveAddresses (same_Some (joined regions digits) inputs is) (placed regions refl)
joined_placed (Some regions) None inputs placed is = cc
joined_placed None digits inputs placed is = cc

pub inputs_placed : (format : Format) (value : Data) (inputs : Inputs) → inputs_in format value ≡ Some inputs → HaveAddresses inputs
inputs_placed Joined value inputs is =
    joined_placed (regions_in value) (text_at (codes "input") value) inputs
    (λ regions found. let list = then_from regions_of (option_and_then as_array (get (codes "regions") value)) regions found in regions_placed list.0 regions list.2) is
inputs_placed Apart value inputs is =
    let found = map_from apart (option_and_then items_in (option_and_then as_array (get (codes "inputs") value))) inputs is in
    let list = then_from items_in (option_and_then as_array (get (codes "inputs") value)) found.0 found.1 in
    subst HaveAddresses found.2 (items_placed list.0 found.0 list.2)

-- ---- the bytes

pub written_bytes : (digits bytes : List ℕ) → bytes_written digits ≡ Some bytes → IsBytes bytes
written_bytes digits bytes is = go (decode_of digits) refl is
  where
    go : (r : Result (List ℕ) FromHexError) → decode_of digits ≡ r → if_decoded r ≡ Some bytes → IsBytes bytes
    go (Ok found) decoded is = subst IsBytes (same_Some found bytes is) (decode_of-ok digits found decoded).3
    go (Err why) decoded is = cc

bytes_append : (xs ys : List ℕ) → IsBytes xs → IsBytes ys → IsBytes (xs ++ ys)
bytes_append [] ys first others i = others i
bytes_append (x ∷ xs) ys first others zero = first 0
bytes_append (x ∷ xs) ys first others (suc i) = bytes_append xs ys (λ k. first (suc k)) others i

input_bytes : (regions : List Filled) → All (λ (f : Filled). IsBytes f.bytes) regions → IsBytes (input_filled regions)
input_bytes [] bytes i = omega arith
input_bytes (region ∷ regions) bytes i =
    bytes_append region.bytes (input_filled regions) (bytes 0 region (omega arith)) (input_bytes regions (λ k d lt. bytes (suc k) d (omega (arith, lt)))) i

pub record IsFilled (f : Filled) : Type 0 where
  pub start : f.start < 2 ^ 32
  pub bytes : IsBytes f.bytes

all_are_filled : (items : List Item) (regions : List Filled) → All (λ (i : Item). i.start < 2 ^ 32) items → all_filled items ≡ Some regions → All IsFilled regions
all_are_filled [] regions small is = subst (All IsFilled) (same_Some [] regions is) (All-nil IsFilled)
all_are_filled (i ∷ items) regions small is =
    let found = first_from (filled_with i.start (bytes_written i.digits)) (all_filled items) regions is in
    let bytes = map_from (λ (bytes : List ℕ). record { start = i.start; bytes = bytes }) (bytes_written i.digits) found.0 found.2 in
    let here : IsFilled found.0 = subst IsFilled bytes.2 (record { start = small 0 i (omega arith); bytes = written_bytes i.digits bytes.0 bytes.1 }) in
    subst (All IsFilled) found.4
    (All-cons IsFilled found.0 found.1 here (all_are_filled items found.1 (λ k d lt. small (suc k) d (omega (arith, lt))) found.3))

-- ---- regions and bytes that were laid out

pub record IsLaid (is : Laid) : Type 0 where
  pub starts : AreAddresses is.regions
  pub long : length is.input ≡ bytes_in is.regions
  pub bytes : IsBytes is.input

joined_laid : (regions : List Region) (o : Option (List ℕ)) (is : Laid) → AreAddresses regions → ((bytes : List ℕ) → o ≡ Some bytes → IsBytes bytes)
    → laid_joined regions o ≡ Ok is → IsLaid is
joined_laid regions (Some input) is starts bytes e = go (length input == bytes_in regions) refl e
  where
    go : (b : Bool) → (length input == bytes_in regions) ≡ b → (if b then Ok (record { regions = regions; input = input }) else Err Length) ≡ Ok is → IsLaid is
    go true long e =
        let same : record { regions = regions; input = input } ≡ is = cc in
        subst IsLaid same (record { starts = starts; long = grind (arith, nat_tests, long); bytes = bytes input refl })
    go false long e = cc
joined_laid regions None is starts bytes e = cc

filled_laid : (regions : List Filled) (is : Laid) → All IsFilled regions → laid_apart (Some regions) ≡ Ok is → IsLaid is × IsTrue (has_inputs is.regions)
filled_laid regions is filled e = go (has_inputs (regions_filled regions)) refl e
  where
    go : (b : Bool) → has_inputs (regions_filled regions) ≡ b
        → (if b then Ok (record { regions = regions_filled regions; input = input_filled regions }) else Err Length) ≡ Ok is → IsLaid is × IsTrue (has_inputs is.regions)
    go true has e =
        let same : record { regions = regions_filled regions; input = input_filled regions } ≡ is = cc in
        let laid : IsLaid (record { regions = regions_filled regions; input = input_filled regions }) = record {
          starts = All-map (λ (r : Region). r.start < 2 ^ 32) (λ (f : Filled). record { start = f.start; count = length f.bytes }) regions (λ k d lt. (filled k d lt).start);
          long = as_many_bytes regions;
          bytes = input_bytes regions (λ k d lt. (filled k d lt).bytes);
        } in
        subst (λ (is : Laid). IsLaid is × IsTrue (has_inputs is.regions)) same (laid, has)
    go false has e = cc

apart_laid : (items : List Item) (o : Option (List Filled)) (is : Laid) → ((regions : List Filled) → o ≡ Some regions → All IsFilled regions) → laid_apart o ≡ Ok is
    → IsLaid is × IsTrue (has_inputs is.regions)
apart_laid items (Some regions) is filled e = filled_laid regions is (filled regions refl) e
apart_laid items None is filled e = cc

-- regions with their bytes have inputs
pub items_laid : (items : List Item) (is : Laid) → All (λ (i : Item). i.start < 2 ^ 32) items → laid (apart items) ≡ Ok is → IsLaid is × IsTrue (has_inputs is.regions)
items_laid items is small e = apart_laid items (all_filled items) is (λ regions. all_are_filled items regions small) e

pub are_laid : (inputs : Inputs) (is : Laid) → HaveAddresses inputs → laid inputs ≡ Ok is → IsLaid is
are_laid (joined regions digits) is starts e = joined_laid regions (bytes_written digits) is starts (written_bytes digits) e
are_laid (apart items) is small e = (items_laid items is small e).0
