-- What the texts in a test say is within its type: statuses, targets and addresses.
use Rattle.std.proofs.Common.{◌≡◌, ◌∙◌, ◌⊎◌, inl, inr, ◌<◌, ◌≤◌, ◌^◌, ◌==◌, ℕ, zero, suc, Bool, true, false, List, [], ◌∷◌, drop, get_or, length, nat_lt, take, Option, None, Some, option_map, Result, Ok, Err, refl, sym, subst, arith, length-drop}
use Rattle.std.specs.Prelude.{codes, if◌then◌else◌}
use Rattle.std.specs.Int.{from_be_bytes, w32}
use Rattle.std.specs.List.{All}
use Rattle.std.specs.Str.{bytes_eq}
use Rattle.std.proofs.lemmas.Bool.{cases_eq, cases_lt}
use Rattle.std.proofs.lemmas.Bool.Decides.{nat_tests}
use Rattle.std.proofs.lemmas.List.Elements.{All-cons, All-nil}
use Rattle.std.proofs.lemmas.Option.{same_Some}
use Rattle.hex.specs.Hex.{decode_sized}
use Rattle.hex.specs.declared.error.FromHexError.{FromHexError}
use Rattle.hex.proofs.HexLemmas.{decode_of-ok, decode_sized-ok, decode_sized-twice}
use Rattle.elf_load.specs.Regions.{put_first, region_with}
use Rattle.elf_load.specs.declared.region.Region.{Region}
use Rattle.rv_decode.specs.declared.ends.End.{End}
use Rattle.rv_decode.specs.declared.ends.End.TheVariants.{Exit, Trapped}
use Rattle.rv_decode.specs.declared.ends.PathStep.{PathStep}
use Rattle.rv_decode.specs.declared.ends.PathStep.TheVariants.{Taken, NotTaken, Target}
use Rattle.rv_decode.specs.declared.ends.Trap.{Trap}
use Rattle.text_parts.specs.Digits.{has_upper_case, hex_number, number_of_bytes}
use Rattle.text_parts.proofs.Options.{map_from}
use Rattle.test_files.specs.Forms.{begins_with, branch_of, end_said, exit_with, path_of, region_of, short_number, trap_named}
use Rattle.test_files.specs.Writable.{HasStatus, HasTarget}
use Rattle.test_files.proofs.PathForms.{branch_at, short_at, target_at}

-- ---- a first one and the others

pub first_from : {A : Type 0} (first : Option A) (others : Option (List A)) (all : List A) → put_first first others ≡ Some all
    → (x : A) × (xs : List A) × (first ≡ Some x) × (others ≡ Some xs) × (x ∷ xs ≡ all)
first_from (Some x) (Some xs) all is = (x, xs, refl, refl, same_Some (x ∷ xs) all is)
first_from (Some x) None all is = cc
first_from None others all is = cc

-- ---- addresses

of_four_bytes : (bytes : List ℕ) → ((i : ℕ) → get_or bytes i 0 < 256) → from_be_bytes w32 bytes < 2 ^ 32
of_four_bytes bytes small = omega (arith, small 0, small 1, small 2, small 3)

number_small : (digits : List ℕ) (r : Result (List ℕ) FromHexError) (n : ℕ) → decode_sized digits 4 ≡ r → number_of_bytes r ≡ Some n → n < 2 ^ 32
number_small digits (Ok bytes) n decoded is =
    let long = decode_sized-ok digits 4 bytes decoded in
    let plain = decode_of-ok digits bytes (sym (decode_sized-twice digits 4 long) ∙ decoded) in
    subst (λ (m : ℕ). m < 2 ^ 32) (same_Some _ n is) (of_four_bytes bytes plain.3)
number_small digits (Err why) n decoded is = cc

pub address_small : (digits : List ℕ) (n : ℕ) → hex_number digits ≡ Some n → n < 2 ^ 32
unfolding hex_number
address_small digits n is = go (has_upper_case digits) is
  where
    go : (b : Bool) → (if b then None else number_of_bytes (decode_sized digits 4)) ≡ Some n → n < 2 ^ 32
    go true is = cc
    go false is = number_small digits (decode_sized digits 4) n refl is

region_small : (start count : Option ℕ) (r : Region) → ((n : ℕ) → start ≡ Some n → n < 2 ^ 32) → region_with start count ≡ Some r → r.start < 2 ^ 32
region_small (Some start) (Some count) r small is =
    subst (λ (r : Region). r.start < 2 ^ 32) (same_Some (record { start = start; count = count }) r is) (small start refl)
region_small (Some start) None r small is = cc
region_small None count r small is = cc

pub start_small : (text : List ℕ) (r : Region) → region_of text ≡ Some r → r.start < 2 ^ 32
unfolding region_of
start_small text r is = go (get_or text 8 0 == 58) is
  where
    go : (b : Bool) → (if b then region_with (hex_number (take 8 text)) (short_number (drop 9 text)) else None) ≡ Some r → r.start < 2 ^ 32
    go true is = region_small (hex_number (take 8 text)) (short_number (drop 9 text)) r (address_small (take 8 text)) is
    go false is = cc

-- ---- ends

exit_status : (o : Option ℕ) (end : Option End) → option_map Some (exit_with o) ≡ Some end → HasStatus end
exit_status None end is = cc
exit_status (Some n) end is = go (nat_lt n 256) refl is
  where
    go : (b : Bool) → nat_lt n 256 ≡ b → option_map Some (if b then Some (Exit n) else None) ≡ Some end → HasStatus end
    go true small is = subst HasStatus (same_Some (Some (Exit n)) end is) (grind (arith, nat_tests, small))
    go false small is = cc

trap_status : (o : Option Trap) (end : Option End) → option_map (λ trap. Some (Trapped trap)) o ≡ Some end → HasStatus end
trap_status None end is = cc
trap_status (Some trap) end is = subst HasStatus (same_Some (Some (Trapped trap)) end is) tt

pub status_small : (text : List ℕ) (end : Option End) → end_said text ≡ Some end → HasStatus end
unfolding end_said
status_small text end is = go (bytes_eq text (codes "running")) (begins_with (codes "exit ") text) (begins_with (codes "trap ") text) is
  where
    go : (a b c : Bool) → (if a then Some None else (if b then option_map Some (exit_with (short_number (drop 5 text)))
        else (if c then option_map (λ trap. Some (Trapped trap)) (trap_named (drop 5 text)) else None))) ≡ Some end → HasStatus end
    go true b c is = subst HasStatus (same_Some None end is) tt
    go false true c is = exit_status (short_number (drop 5 text)) end is
    go false false true is = trap_status (trap_named (drop 5 text)) end is
    go false false false is = cc

-- ---- paths

branch_small : (letter : ℕ) (step : PathStep) → branch_of letter ≡ Some step → HasTarget step
branch_small letter step is = go (letter == 84) (letter == 78) is
  where
    go : (a b : Bool) → (if a then Some Taken else (if b then Some NotTaken else None)) ≡ Some step → HasTarget step
    go true b is = subst HasTarget (same_Some Taken step is) tt
    go false true is = subst HasTarget (same_Some NotTaken step is) tt
    go false false is = cc

target_small : (digits : List ℕ) (step : PathStep) → option_map Target (hex_number digits) ≡ Some step → HasTarget step
target_small digits step is =
    let found = map_from Target (hex_number digits) step is in
    subst HasTarget found.2 (address_small digits found.0 found.1)

-- the first entry is a branch or a target
first_entry : (text : List ℕ) → 0 < length text
    → (path_of text ≡ put_first (branch_of (get_or text 0 0)) (path_of (drop 1 text)))
    ⊎ (path_of text ≡ put_first (option_map Target (hex_number (take 8 (drop 1 text)))) (path_of (drop 9 text)))
first_entry text some =
    elim (cases_eq (get_or text 0 0) 64) [
      | inr other ↦ inl (branch_at text some other)
      | inl at ↦ elim (cases_lt (length text) 9) [
        | inl short ↦ inl (short_at text some short)
        | inr enough ↦ inr (target_at text (omega (arith, enough)) at)
      ]
    ]

-- texts of so many bytes at most
targets_within : (n : ℕ) (text : List ℕ) (path : List PathStep) → length text ≤ n → path_of text ≡ Some path → All HasTarget path
unfolding path_of
targets_within n [] path within is = subst (All HasTarget) (same_Some [] path is) (All-nil HasTarget)
targets_within zero (letter ∷ rest) path within is = absurd (omega (arith, within))
targets_within (suc n) (letter ∷ rest) path within is =
    elim (first_entry (letter ∷ rest) (omega arith)) [
      | inl branch ↦
          let found = first_from (branch_of letter) (path_of rest) path (sym branch ∙ is) in
          subst (All HasTarget) found.4
          (All-cons HasTarget found.0 found.1 (branch_small letter found.0 found.2) (targets_within n rest found.1 (omega (arith, within)) found.3))
      | inr target ↦
          let found = first_from (option_map Target (hex_number (take 8 rest))) (path_of (drop 8 rest)) path (sym target ∙ is) in
          subst (All HasTarget) found.4
          (All-cons HasTarget found.0 found.1 (target_small (take 8 rest) found.0 found.2)
          (targets_within n (drop 8 rest) found.1 (omega (arith, within, length-drop 8 rest)) found.3))
    ]

pub targets_small : (text : List ℕ) (path : List PathStep) → path_of text ≡ Some path → All HasTarget path
targets_small text path is = targets_within (length text) text path (omega arith) is
