-- Regions as texts say them.
use Rattle.std.proofs.Common.{ℕ, ◌≢◌, List, ◌≡◌, ◌<◌, ◌-◌, true, false, ◌==◌, length, length-drop, take, take_all, drop, get_or, Option, None, refl, arith}
use Rattle.std.proofs.lemmas.Bool.Decides.{nat_tests}
use Rattle.std.proofs.lemmas.List.{get_or_past}
use Rattle.text_parts.specs.Digits.{hex_number}
use Rattle.elf_load.specs.Regions.{region_with}
use Rattle.test_files.specs.Forms.{region_of, short_number}

-- a slice to the end
pub to_end : (text : List ℕ) (k : ℕ) → take (length text - k) (drop k text) ≡ drop k text
to_end text k = take_all (length text - k) (drop k text) (omega (arith, length-drop k text))

pub region_there : (text : List ℕ) (start count : Option ℕ) → (get_or text 8 0 == 58) ≡ true → hex_number (take 8 text) ≡ start
    → short_number (drop 9 text) ≡ count → region_with start count ≡ region_of text
unfolding region_of
region_there text start count colon at_start at_count = rw (colon, at_start, at_count) refl

pub no_start : (text : List ℕ) → (get_or text 8 0 == 58) ≡ true → hex_number (take 8 text) ≡ None → region_of text ≡ None
unfolding region_of
no_start text colon none = rw (colon, none) refl

pub no_colon : (text : List ℕ) → get_or text 8 0 ≢ 58 → region_of text ≡ None
unfolding region_of
no_colon text other =
    let none : (get_or text 8 0 == 58) ≡ false = grind (arith, nat_tests, other) in
    rw none refl

pub too_short : (text : List ℕ) → length text < 9 → region_of text ≡ None
too_short text short = no_colon text (λ is. omega (arith, is, get_or_past text 8 0 (omega arith)))
