-- What the upgrade of a text gives.
use Rattle.std.proofs.Common.{◌≡◌, ◌∙◌, ◌≤◌, ℕ, Bool, true, false, List, length, Ok, Err, refl, sym, ap, subst}
use Rattle.std.specs.Prelude.{IsTrue, if◌then◌else◌}
use Rattle.test_files.specs.Inputs.{has_inputs}
use Rattle.test_files.specs.Reading.{most_bytes, reading}
use Rattle.test_files.specs.Tests.{Test, test_text}
use Rattle.test_files.specs.Upgrading.{text_of, upgraded}
use Rattle.test_files.specs.Writable.{IsWritable}
use Rattle.test_files.specs.declared.refused.TestRefused.TheVariants.{Length}
use Rattle.test_files.proofs.Bounded.{read_bounded}
use Rattle.test_files.proofs.ReadBack.{test_back}

-- the text that a test has, and that it has inputs
text_given : (test : Test) (new : List ℕ) → text_of test ≡ Ok new → IsTrue (has_inputs test.regions) × (test_text test ≡ new)
text_given test new e = go (has_inputs test.regions) refl e
  where
    go : (b : Bool) → has_inputs test.regions ≡ b → (if b then Ok (test_text test) else Err Length) ≡ Ok new → IsTrue (has_inputs test.regions) × (test_text test ≡ new)
    go true has e = (has, cc)
    go false has e = cc

-- it reads as that test
pub reads_alike : (text : List ℕ) (test : Test) (new : List ℕ) → reading text ≡ Ok test → text_of test ≡ Ok new → length new ≤ most_bytes → reading new ≡ reading text
reads_alike text test new from e within =
    let given = text_given test new e in
    let short : length (test_text test) ≤ most_bytes = subst (λ (t : List ℕ). length t ≤ most_bytes) (sym given.1) within in
    ap reading (sym given.1) ∙ test_back test (record { bounded = read_bounded text test from; inputs = given.0; text_within = short }) ∙ sym from

-- what was written stays
pub written_stays : (test : Test) → IsWritable test → upgraded (reading (test_text test)) ≡ Ok (test_text test)
written_stays test w = ap upgraded (test_back test w) ∙ (rw w.inputs refl)

pub kept : (text : List ℕ) (test other : Test) (new : List ℕ) → IsWritable test → text ≡ test_text test → reading text ≡ Ok other → text_of other ≡ Ok new → new ≡ text
kept text test other new w same from e =
    let both : Ok new ≡ Ok (test_text test) = sym e ∙ ap upgraded (sym from) ∙ ap (λ t. upgraded (reading t)) same ∙ written_stays test w in
    let one : new ≡ test_text test = cc in
    one ∙ sym same

-- a test without inputs has no text
pub no_text : (test : Test) → has_inputs test.regions ≡ false → text_of test ≡ Err Length
no_text test none = rw none refl
