-- Addresses that follow one another.
use Rattle.std.proofs.Common.{◌≡◌, ℕ, zero, suc, ◌+◌, ◌%◌, ◌^◌, ◌<◌, Bool, true, false, ◌&&◌, List, [], ◌∷◌, ◌++◌, length, map, refl, sym, ap, ◌∙◌, arith, add-one}
use Rattle.std.specs.Prelude.{Option}
use Rattle.std.specs.List.{list_all}
use Rattle.std.proofs.lemmas.List.{map-append, append_assoc, append-nil}
use Rattle.std.proofs.lemmas.List.Folds.{list_all-append}
use Rattle.rv_spec.specs.Arithmetic.{sum32}
use Rattle.rv_spec.specs.Machine.{addresses}
use Rattle.rv_spec.specs.Memory.{is_mapped}

and-true : (b : Bool) → (b && true) ≡ b
and-true true = refl
and-true false = refl

addresses-suc : (start count : ℕ) → start < 2 ^ 32 → addresses start (suc count) ≡ addresses start count ++ (start + count) % 2 ^ 32 ∷ []
unfolding addresses
addresses-suc start zero small =
    let here : start ≡ (start + 0) % 2 ^ 32 = omega (arith, small) in ap (λ a. a ∷ []) here
addresses-suc start (suc count) small =
    let next : (sum32 start 1 + count) % 2 ^ 32 ≡ (start + suc count) % 2 ^ 32 = omega (arith, small) in
    ap (λ xs. start ∷ xs) (addresses-suc (sum32 start 1) count (omega arith) ∙ ap (λ a. addresses (sum32 start 1) count ++ a ∷ []) next)

-- one address more
addresses-more : (start count : ℕ) → start < 2 ^ 32 → addresses start (count + 1) ≡ addresses start count ++ (start + count) % 2 ^ 32 ∷ []
addresses-more start count small = ap (addresses start) (add-one count) ∙ addresses-suc start count small

pub mapped_none : (flags : ℕ → Option ℕ) (start : ℕ) → true ≡ list_all (is_mapped flags) (addresses start 0)
unfolding addresses
mapped_none flags start = refl

pub mapped-more : (flags : ℕ → Option ℕ) (start count : ℕ) (mapped one : Bool) → start < 2 ^ 32 → mapped ≡ list_all (is_mapped flags) (addresses start count) → one ≡ is_mapped flags ((start + count) % 2 ^ 32)
    → (mapped && one) ≡ list_all (is_mapped flags) (addresses start (count + 1))
mapped-more flags start count mapped one small is more =
    let all : list_all (is_mapped flags) (addresses start (count + 1)) ≡ (list_all (is_mapped flags) (addresses start count) && (is_mapped flags ((start + count) % 2 ^ 32) && true))
    = ap (list_all (is_mapped flags)) (addresses-more start count small) ∙ list_all-append (is_mapped flags) (addresses start count) ((start + count) % 2 ^ 32 ∷ []) in
    cc (all, is, more, and-true (is_mapped flags ((start + count) % 2 ^ 32)))

pub bytes_none : {A : Type 0} (byte : ℕ → A) (start : ℕ) (output : List A) → output ≡ output ++ map byte (addresses start 0)
unfolding addresses
bytes_none byte start output = sym (append-nil output)

pub bytes-more : {A : Type 0} (byte : ℕ → A) (start count : ℕ) (b : A) (before output : List A) → start < 2 ^ 32 → output ≡ before ++ map byte (addresses start count) → b ≡ byte ((start + count) % 2 ^ 32)
    → output ++ b ∷ [] ≡ before ++ map byte (addresses start (count + 1))
bytes-more byte start count b before output small is read =
    ap (λ o. o ++ b ∷ []) is
    ∙ ap (λ n. (before ++ map byte (addresses start count)) ++ n ∷ []) read
    ∙ append_assoc before (map byte (addresses start count)) (byte ((start + count) % 2 ^ 32) ∷ [])
    ∙ ap (λ xs. before ++ xs) (sym (ap (map byte) (addresses-more start count small) ∙ map-append byte (addresses start count) ((start + count) % 2 ^ 32 ∷ [])))

pub length-addresses : (start count : ℕ) → length (addresses start count) ≡ count
unfolding addresses
length-addresses start zero = refl
length-addresses start (suc count) = ap suc (length-addresses (sum32 start 1) count)
