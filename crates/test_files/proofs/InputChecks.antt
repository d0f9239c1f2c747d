-- What the checks of regions and their bytes show.
use Rattle.std.proofs.Common.{◌≡◌, ◌∙◌, ◌<◌, ◌≤◌, ◌==◌, ◌&&◌, ℕ, zero, suc, Bool, true, false, List, [], ◌∷◌, get_or, length, nat_le, refl, sym, ap, arith}
use Rattle.std.specs.List.{list_all}
use Rattle.std.proofs.lemmas.Bool.Decides.{nat_tests}
use Rattle.elf_load.specs.declared.region.Region.{Region}
use Rattle.test_files.specs.Inputs.{bytes_in, has_inputs, regions_filled}
use Rattle.test_files.specs.Seen.{all_seen}
use Rattle.test_files.specs.declared.inputs.Filled.{Filled}
use Rattle.test_files.proofs.Filling.{bytes_more}

-- regions with their bytes, as the code has them
pub none_empty_seen : (regions : List Filled) → list_all (λ (f : Filled). nat_le 1 (length f.bytes.items)) regions ≡ list_all (λ (r : Region). nat_le 1 r.count) (regions_filled (all_seen regions))
none_empty_seen [] = refl
none_empty_seen (region ∷ regions) = ap (λ b. nat_le 1 (length region.bytes.items) && b) (none_empty_seen regions)

pub length_seen : (regions : List Filled) → length (regions_filled (all_seen regions)) ≡ length regions
length_seen [] = refl
length_seen (region ∷ regions) = omega (arith, length_seen regions)

-- one check after the other
pub all_checked : (regions : List Filled) (bytes : ℕ) → bytes ≡ bytes_in (regions_filled (all_seen regions)) → (length regions == 0) ≡ false
    → list_all (λ (f : Filled). nat_le 1 (length f.bytes.items)) regions ≡ true → nat_le bytes 1024 ≡ has_inputs (regions_filled (all_seen regions))
all_checked regions bytes same some none_empty =
    let there : nat_le 1 (length (regions_filled (all_seen regions))) ≡ true = grind (arith, nat_tests, some, length_seen regions) in
    rw (there, sym (none_empty_seen regions) ∙ none_empty, same) refl

pub none_checked : (regions : List Filled) → (length regions == 0) ≡ true → has_inputs (regions_filled (all_seen regions)) ≡ false
none_checked [] none = refl
none_checked (region ∷ regions) none = absurd (grind (arith, nat_tests, none))

pub empty_checked : (regions : List Filled) → list_all (λ (f : Filled). nat_le 1 (length f.bytes.items)) regions ≡ false → has_inputs (regions_filled (all_seen regions)) ≡ false
empty_checked regions empty =
    rw (sym (none_empty_seen regions) ∙ empty) (other (nat_le 1 (length (regions_filled (all_seen regions)))) (nat_le (bytes_in (regions_filled (all_seen regions))) 1024))
  where
    other : (a b : Bool) → (a && false && b) ≡ false
    other true b = refl
    other false b = refl

-- each has no more bytes than all
pub few_each : (regions : List Filled) (k : ℕ) (d : Filled) → k < length regions → length (get_or regions k d).bytes.items ≤ bytes_in (regions_filled (all_seen regions))
few_each [] k d within = absurd (omega (arith, within))
few_each (region ∷ regions) zero d within =
    omega (arith, bytes_more (record { start = region.start; count = length region.bytes.items }) (regions_filled (all_seen regions)))
few_each (region ∷ regions) (suc k) d within =
    omega (arith, bytes_more (record { start = region.start; count = length region.bytes.items }) (regions_filled (all_seen regions)), few_each regions k d (omega (arith, within)))
