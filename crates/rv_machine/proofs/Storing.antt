-- A store stays on its page.
use Rattle.std.proofs.Common.{◌≡◌, ℕ, ◌/◌, true, ap, refl, ◌∙◌, rules}
use Rattle.std.specs.Prelude.{Option, None, Some, is_some}
use Rattle.rv_spec.specs.Memory.{can_write, has_w, is_mapped}

writable_mapped : (found : Option ℕ) → has_w found ≡ true → is_some found ≡ true
writable_mapped None can = search (rules, can)
writable_mapped (Some flags) can = refl

-- an address on a page that can be written is mapped, also after bytes were written
pub mapped_beside : (before now : ℕ → Option ℕ) (address at : ℕ) → now ≡ before → can_write before address ≡ true → at / 256 ≡ address / 256 → is_mapped now at ≡ true
mapped_beside before now address at same can page =
    ap (λ (flags : ℕ → Option ℕ). is_some (flags (at / 256))) same
    ∙ ap (λ n. is_some (before n)) page
    ∙ writable_mapped (before (address / 256)) can

-- what is mapped stays so
pub mapped_same : (before now : ℕ → Option ℕ) (at : ℕ) → now ≡ before → is_mapped before at ≡ true → is_mapped now at ≡ true
mapped_same before now at same mapped = ap (λ (flags : ℕ → Option ℕ). is_some (flags (at / 256))) same ∙ mapped
