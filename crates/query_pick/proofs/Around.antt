-- From any value on, 256 steps around a byte meet each of its values.
use Rattle.std.proofs.Common.{◌≡◌, ◌<◌, ◌≤◌, ◌+◌, ◌-◌, ◌%◌, ◌⊎◌, inl, inr, ℕ, subst, arith}
use Rattle.std.proofs.lemmas.Bool.{cases_lt}

around : (P : ℕ → Type 0) (first b : ℕ) → first < 256 → b < 256 → ((k : ℕ) → k < 256 → P ((first + k) % 256)) → (b < first) ⊎ (first ≤ b) → P b
around P first b small byte each (inl before) =
    let same : (first + (b + 256 - first)) % 256 ≡ b = omega (arith, small, byte, before) in
    subst P same (each (b + 256 - first) (omega (arith, small, byte, before)))
around P first b small byte each (inr behind) =
    let same : (first + (b - first)) % 256 ≡ b = omega (arith, small, byte, behind) in
    subst P same (each (b - first) (omega (arith, small, byte, behind)))

pub all_around : (P : ℕ → Type 0) (first : ℕ) → first < 256 → ((k : ℕ) → k < 256 → P ((first + k) % 256)) → (b : ℕ) → b < 256 → P b
all_around P first small each b byte = around P first b small byte each (cases_lt b first)
