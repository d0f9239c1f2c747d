-- JSON values of texts.
use Rattle.std.proofs.Common.{ℕ, Bool, true, false, List, ◌≡◌, Some, None, refl}
use Rattle.std.specs.Prelude.{if◌then◌else◌}
use Rattle.std.specs.Str.{IsUtf8, is_utf8}
use Rattle.std.proofs.lemmas.Str.{IsUtf8-from_is_utf8, is_utf8-from_IsUtf8}
use Rattle.serde_json.specs.Data.{Data}
use Rattle.serde_json.specs.Read.{read}
use Rattle.test_files.specs.Reading.{json_of}

pub json_there : (text : List ℕ) (value : Data) → IsUtf8 text × (read text ≡ Some value) → json_of text ≡ Some value
json_there text value is = rw (is_utf8-from_IsUtf8 text is.0) is.1

pub json_absent : (text : List ℕ) → (IsUtf8 text → read text ≡ None) → json_of text ≡ None
json_absent text refused = go (is_utf8 text) refl (IsUtf8-from_is_utf8 text)
  where
    go : (b : Bool) → is_utf8 text ≡ b → (is_utf8 text ≡ true → IsUtf8 text) → (if b then read text else None) ≡ None
    go true is utf8 = refused (utf8 is)
    go false is utf8 = refl
