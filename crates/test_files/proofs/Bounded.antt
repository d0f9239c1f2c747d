-- A test that a text is, in either format, is legible and has its numbers within their bounds.
use Rattle.std.proofs.Common.{◌≡◌, ℕ, Bool, true, false, ◌≤◌, ◌^◌, ◌&&◌, List, length, nat_le, nat_lt, Option, Some, None, Result, Ok, Err, refl, sym, ap, ◌∙◌, subst, arith}
use Rattle.std.specs.Prelude.{IsTrue, codes, if◌then◌else◌, is_some, option_and_then}
use Rattle.std.specs.List.{All}
use Rattle.std.proofs.lemmas.Bool.Decides.{nat_tests}
use Rattle.hex.specs.Hex.{IsBytes}
use Rattle.rv_decode.specs.declared.ends.End.{End}
use Rattle.rv_decode.specs.declared.ends.PathStep.{PathStep}
use Rattle.serde_json.specs.Data.{Data}
use Rattle.serde_json.specs.Find.{as_array, as_object, get}
use Rattle.text_parts.proofs.Options.{map_from, then_from}
use Rattle.test_files.specs.Forms.{end_said, path_of}
use Rattle.test_files.specs.Inputs.{Inputs, Laid, apart, bytes_written, has_inputs, laid}
use Rattle.test_files.specs.Reading.{Said, end_in, format_in, has_keys, if_between, inputs_in, items_in, json_of, leaf_in, most_bytes, number_at, path_in, reading, said_in, said_with, steps_in, test_formatted, test_from, test_in, test_laid, test_read, test_said, text_at}
use Rattle.test_files.specs.Tests.{Test}
use Rattle.test_files.specs.Writable.{HasStatus, HasTarget, IsBounded, IsLegible}
use Rattle.test_files.specs.declared.format.Format.{Format}
use Rattle.test_files.specs.declared.format.Format.TheVariants.{Apart}
use Rattle.test_files.specs.declared.refused.TestRefused.{TestRefused}
use Rattle.test_files.specs.declared.refused.TestRefused.TheVariants.{Kind, Missing, TooBig}
use Rattle.test_files.proofs.Formed.{status_small, targets_small}
use Rattle.test_files.proofs.LaidOut.{HaveAddresses, are_laid, inputs_placed, items_laid, written_bytes}

between : (least most n m : ℕ) → if_between least most n ≡ Some m → (least ≤ m) × (m ≤ most)
between least most n m is = go (nat_le least n) (nat_le n most) refl refl is
  where
    go : (a b : Bool) → nat_le least n ≡ a → nat_le n most ≡ b → (if a && b then Some n else None) ≡ Some m → (least ≤ m) × (m ≤ most)
    go true true low high is =
        let same : n ≡ m = cc in
        rw (← same) (grind (arith, nat_tests, low), grind (arith, nat_tests, high))
    go true false low high is = cc
    go false b low high is = cc

number_between : (least most : ℕ) (o : Option ℕ) (m : ℕ) → option_and_then (if_between least most) o ≡ Some m → (least ≤ m) × (m ≤ most)
number_between least most None m is = cc
number_between least most (Some n) m is = between least most n m is

-- ---- what the keys say

pub record SaysSo (end : Option (Option End)) (inputs : Option Inputs) (leaf : Option ℕ) (path : Option (List PathStep)) (steps : Option ℕ) (said : Said) : Type 0 where
  pub same_end : end ≡ Some said.end
  pub same_inputs : inputs ≡ Some said.inputs
  pub same_leaf : leaf ≡ Some said.leaf
  pub same_path : path ≡ Some said.path
  pub same_steps : steps ≡ Some said.steps

parts : (end : Option (Option End)) (inputs : Option Inputs) (leaf : Option ℕ) (output : Option (List ℕ)) (path : Option (List PathStep)) (steps : Option ℕ) (said : Said)
    → said_with end inputs leaf output path steps ≡ Some said → SaysSo end inputs leaf path steps said
parts (Some end) (Some inputs) (Some leaf) (Some output) (Some path) (Some steps) said is =
    let same : record { end = end; inputs = inputs; leaf = leaf; output = output; path = path; steps = steps } ≡ said = cc in
    rw (← same) (record { same_end = refl; same_inputs = refl; same_leaf = refl; same_path = refl; same_steps = refl })
parts None inputs leaf output path steps said is = cc
parts (Some end) None leaf output path steps said is = cc
parts (Some end) (Some inputs) None output path steps said is = cc
parts (Some end) (Some inputs) (Some leaf) None path steps said is = cc
parts (Some end) (Some inputs) (Some leaf) (Some output) None steps said is = cc
parts (Some end) (Some inputs) (Some leaf) (Some output) (Some path) None said is = cc

-- what the keys say is within its bounds
pub record SaysWithin (format : Format) (value : Data) (said : Said) : Type 0 where
  pub leaf_within : said.leaf ≤ 2 ^ 53
  pub steps_there : 1 ≤ said.steps
  pub steps_within : said.steps ≤ 1000000
  pub status : HasStatus said.end
  pub targets : All HasTarget said.path
  pub addresses : HaveAddresses said.inputs
  pub same_inputs : inputs_in format value ≡ Some said.inputs

says_within : (format : Format) (value : Data) (said : Said) → said_in format value ≡ Some said → SaysWithin format value said
unfolding said_in
says_within format value said is =
    let found = parts (end_in value) (inputs_in format value) (leaf_in value) (text_at (codes "output") value) (path_in value) (steps_in value) said is in
    let leaf = number_between 0 (2 ^ 53) (number_at (codes "leaf") value) said.leaf found.same_leaf in
    let steps = number_between 1 1000000 (number_at (codes "steps") value) said.steps found.same_steps in
    let end = then_from end_said (text_at (codes "end") value) said.end found.same_end in
    let path = then_from path_of (text_at (codes "path") value) said.path found.same_path in
    record {
      leaf_within = leaf.1;
      steps_there = steps.0;
      steps_within = steps.1;
      status = status_small end.0 said.end end.2;
      targets = targets_small path.0 said.path path.2;
      addresses = inputs_placed format value said.inputs found.same_inputs;
      same_inputs = found.same_inputs;
    }

-- ---- the test

-- the object of this format says the test
pub record IsRead (format : Format) (value : Data) (test : Test) : Type 0 where
  pub said : Said
  pub within : SaysWithin format value said
  pub bounded : IsBounded test
  pub laid_out : Laid
  pub from : laid said.inputs ≡ Ok laid_out
  pub same_regions : laid_out.regions ≡ test.regions

laid_read : (format : Format) (value : Data) (said : Said) (output : List ℕ) (r : Result Laid TestRefused) (test : Test) → SaysWithin format value said → IsBytes output
    → laid said.inputs ≡ r → test_laid said output r ≡ Ok test → IsRead format value test
laid_read format value said output (Ok is) test within bytes from e =
    let same : record { leaf = said.leaf; regions = is.regions; input = is.input; steps = said.steps; path = said.path; end = said.end; output = output } ≡ test = cc in
    let out = are_laid said.inputs is within.addresses from in
    let legible : IsLegible (record { leaf = said.leaf; regions = is.regions; input = is.input; steps = said.steps; path = said.path; end = said.end; output = output }) = record {
      leaf_fits = omega (arith, within.leaf_within);
      steps_fit = omega (arith, within.steps_within);
      status = within.status;
      targets = within.targets;
      starts = out.starts;
      input_long = out.long;
      input_bytes = out.bytes;
      output_bytes = bytes;
    } in
    subst (IsRead format value) same (record {
      said = said;
      within = within;
      bounded = record { legible = legible; leaf_within = within.leaf_within; steps_there = within.steps_there; steps_within = within.steps_within };
      laid_out = is;
      from = from;
      same_regions = refl;
    })
laid_read format value said output (Err why) test within bytes from e = cc

written_read : (format : Format) (value : Data) (said : Said) (o : Option (List ℕ)) (test : Test) → SaysWithin format value said → ((bytes : List ℕ) → o ≡ Some bytes → IsBytes bytes)
    → test_from said o ≡ Ok test → IsRead format value test
written_read format value said (Some output) test within bytes e = laid_read format value said output (laid said.inputs) test within (bytes output refl) refl e
written_read format value said None test within bytes e = cc

object_read : (format : Format) (value : Data) (b : Bool) (o : Option Said) (test : Test) → said_in format value ≡ o → (if b then test_said o else Err Missing) ≡ Ok test → IsRead format value test
object_read format value true (Some said) test from e =
    written_read format value said (bytes_written said.output) test (says_within format value said from) (written_bytes said.output) e
object_read format value true None test from e = cc
object_read format value false o test from e = cc

value_read : (value : Data) (test : Test) → test_in value ≡ Ok test → (format : Format) × (format_in value ≡ Ok format) × IsRead format value test
unfolding test_in
value_read value test e = go (is_some (as_object value)) (format_in value) refl e
  where
    go : (b : Bool) (r : Result Format TestRefused) → format_in value ≡ r → (if b then test_formatted r value else Err Kind) ≡ Ok test
        → (format : Format) × (format_in value ≡ Ok format) × IsRead format value test
    go true (Ok format) from e = (format, from, object_read format value (has_keys format value) (said_in format value) test refl e)
    go true (Err why) from e = cc
    go false r from e = cc

pub read_bounded : (text : List ℕ) (test : Test) → reading text ≡ Ok test → IsBounded test
unfolding reading
read_bounded text test is = go (nat_lt most_bytes (length text)) (json_of text) is
  where
    go : (b : Bool) (o : Option Data) → (if b then Err TooBig else test_read o) ≡ Ok test → IsBounded test
    go true o is = cc
    go false None is = cc
    go false (Some value) is = (value_read value test is).2.bounded

-- ---- format 2

has_inputs_read : (value : Data) (test : Test) → IsRead Apart value test → IsTrue (has_inputs test.regions)
has_inputs_read value test is =
    let found = map_from apart (option_and_then items_in (option_and_then as_array (get (codes "inputs") value))) is.said.inputs is.within.same_inputs in
    let out = items_laid found.0 is.laid_out (subst HaveAddresses (sym found.2) is.within.addresses) (ap laid found.2 ∙ is.from) in
    subst (λ regions. IsTrue (has_inputs regions)) is.same_regions out.1

pub format_2_has_inputs : (value : Data) (test : Test) → format_in value ≡ Ok Apart → test_in value ≡ Ok test → IsTrue (has_inputs test.regions)
format_2_has_inputs value test format e =
    let read = value_read value test e in
    let same : Apart ≡ read.0 = cc in
    has_inputs_read value test (subst (λ format. IsRead format value test) (sym same) read.2)
