-- The bytes and flags of a memory after a byte was written.
use Rattle.std.proofs.Common.{◌≡◌, ℕ, ◌/◌, ◌%◌, cond, set, get_or, Bor, Some, None, refl, sym, ap, ◌∙◌, arith, get_or-set_same, get_or-set_other}
use Rattle.std.proofs.Common.{inl, inr}
use Rattle.std.specs.Prelude.{◌==◌, Option, is_some, IsSome, IfSome, if◌then◌else◌}
use Rattle.std.specs.FinMap.{get, get-insert}
use Rattle.std.specs.Option.{option_map, option_copied}
use Rattle.std.specs.Cmp.{unsigned_tied}
use Rattle.std.proofs.lemmas.Bool.{cases_eq}
use Rattle.std.proofs.lemmas.Cmp.{nat_cmp_total}
use Rattle.cow_pages.specs.SymbolicMemory.{SymbolicPage, SymbolicMemory, HasAllBytes, page_with, page_byte, memory_byte, memory_flags, with_page, memory_with}
use Rattle.cow_pages.specs.declared.byte.Byte.{Byte}
use Rattle.cow_pages.specs.declared.byte.Byte.TheVariants.{Number}
use Rattle.cow_pages.proofs.GroupLookups.{test_of_same, test_of_other}

-- the page that is found
get-with_page : (memory : SymbolicMemory) (number : ℕ) (page : SymbolicPage) (q : ℕ)
    → get (with_page memory number (Some page)) q ≡ cond (q == number) (Some page) (get memory q)
get-with_page memory number page q = get-insert nat_cmp_total memory number page q ∙ ap (λ b. cond b (Some page) (get memory q)) (unsigned_tied q number)

-- Memory has a page at the address.
module _ (memory : SymbolicMemory) (address : ℕ) (byte : Byte) (page : SymbolicPage) (there : get memory (address / 256) ≡ Some page) (whole : HasAllBytes page) where
  memory_is : memory_with memory address byte ≡ with_page memory (address / 256) (Some (page_with page (address % 256) byte))
  memory_is = ap (λ o. with_page memory (address / 256) (option_map (λ p. page_with p (address % 256) byte) o)) there

  found_then : (q : ℕ)
      → get (memory_with memory address byte) q ≡ cond (q == address / 256) (Some (page_with page (address % 256) byte)) (get memory q)
  found_then q = ap (λ (m : SymbolicMemory). get m q) memory_is ∙ get-with_page memory (address / 256) _ q

  found_same : (q : ℕ) → q ≡ address / 256 → get memory q ≡ Some page
  found_same q same = ap (get memory) same ∙ there

  -- a byte of the same page
  on_same_page : (x : ℕ) → x / 256 ≡ address / 256
      → page_byte (Some (page_with page (address % 256) byte)) (x % 256) ≡ (if x == address then byte else memory_byte memory x)
  on_same_page x same = elim (cases_eq x address) [
    | inl is ↦
        ap (λ n. get_or (set page.bytes (address % 256) byte) (n % 256) (Number 0)) is
        ∙ get_or-set_same page.bytes (address % 256) byte (Number 0) (omega (arith, whole))
        ∙ ap (λ b. if b then byte else memory_byte memory x) (sym (test_of_same x address is))
    | inr other ↦
        get_or-set_other page.bytes (address % 256) (x % 256) byte (Number 0) (λ offset. other (omega (arith, same, offset)))
        ∙ ap (λ o. page_byte o (x % 256)) (sym (found_same (x / 256) same))
        ∙ ap (λ b. if b then byte else memory_byte memory x) (sym (test_of_other x address other))
  ]

  bytes_then : (x : ℕ)
      → memory_byte (memory_with memory address byte) x ≡ (if x == address then byte else memory_byte memory x)
  bytes_then x =
      ap (λ o. page_byte o (x % 256)) (found_then (x / 256))
      ∙ elim (cases_eq (x / 256) (address / 256)) [
        | inl same ↦
            ap (λ b. page_byte (cond b (Some (page_with page (address % 256) byte)) (get memory (x / 256))) (x % 256)) (test_of_same (x / 256) (address / 256) same)
            ∙ on_same_page x same
        | inr other ↦
            ap (λ b. page_byte (cond b (Some (page_with page (address % 256) byte)) (get memory (x / 256))) (x % 256)) (test_of_other (x / 256) (address / 256) other)
            ∙ ap (λ b. if b then byte else memory_byte memory x) (sym (test_of_other x address (λ is. other (ap (λ n. n / 256) is))))
      ]

  flags_then : (q : ℕ) → memory_flags (memory_with memory address byte) q ≡ memory_flags memory q
  flags_then q =
      ap (option_map (λ p. p.flags)) (found_then q)
      ∙ elim (cases_eq q (address / 256)) [
        | inl same ↦
            ap (λ b. option_map (λ (p : SymbolicPage). p.flags) (cond b (Some (page_with page (address % 256) byte)) (get memory q))) (test_of_same q (address / 256) same)
            ∙ ap (option_map (λ p. p.flags)) (sym (found_same q same))
        | inr other ↦
            ap (λ b. option_map (λ (p : SymbolicPage). p.flags) (cond b (Some (page_with page (address % 256) byte)) (get memory q))) (test_of_other q (address / 256) other)
      ]

-- what a reference shows is there where the reference is
pub is_some-copied : {X : Type 0} (r : Option (Bor X)) → is_some r ≡ is_some (option_copied r)
is_some-copied None = refl
is_some-copied (Some x) = refl

-- a page has flags where it is mapped
pub is_some-memory_flags : (memory : SymbolicMemory) (q : ℕ)
    → is_some (memory_flags memory q) ≡ is_some (get memory q)
is_some-memory_flags memory q = flags_if_some (get memory q)
  where
    flags_if_some : (o : Option SymbolicPage) → is_some (option_map (λ p. p.flags) o) ≡ is_some o
    flags_if_some None = refl
    flags_if_some (Some page) = refl

by_page : {P : Type 0} (o : Option SymbolicPage) → IsSome o → IfSome o HasAllBytes
    → ((page : SymbolicPage) → o ≡ Some page → HasAllBytes page → P) → P
by_page None there whole use_it = cc there
by_page (Some page) there whole use_it = use_it page refl whole

-- the byte there is the one that was written, and each other is as it was
pub bytes_written : (old new : SymbolicMemory) (address : ℕ) (byte : Byte)
    → IsSome (memory_flags old (address / 256)) → IfSome (get old (address / 256)) HasAllBytes
    → new ≡ memory_with old address byte → (x : ℕ)
    → memory_byte new x ≡ (if x == address then byte else memory_byte old x)
bytes_written old new address byte there whole is x =
    ap (λ (m : SymbolicMemory). memory_byte m x) is
    ∙ by_page (get old (address / 256)) (sym (is_some-memory_flags old (address / 256)) ∙ there) whole (λ page here all. bytes_then old address byte page here all x)

-- flags are as they were
pub flags_kept : (old new : SymbolicMemory) (address : ℕ) (byte : Byte)
    → IsSome (memory_flags old (address / 256)) → IfSome (get old (address / 256)) HasAllBytes
    → new ≡ memory_with old address byte → (q : ℕ) → memory_flags new q ≡ memory_flags old q
flags_kept old new address byte there whole is q =
    ap (λ (m : SymbolicMemory). memory_flags m q) is
    ∙ by_page (get old (address / 256)) (sym (is_some-memory_flags old (address / 256)) ∙ there) whole (λ page here all. flags_then old address byte page here all q)
