-- What a byte that is written changes.
use Rattle.std.proofs.Common.{◌≡◌, ℕ, ◌/◌, ◌%◌, ◌<◌, ◌≢◌, Bool, true, false, cond, List, ◌∷◌, [], length, get_or, set, Some, None, refl, sym, ap, subst, ◌∙◌, arith, get_or-set_other, get_or-set_same}
use Rattle.std.specs.Prelude.{Option, ◌==◌, if◌then◌else◌, slice_index}
use Rattle.std.specs.FinMap.{find, from_entries, get, get-from_entries}
use Rattle.std.specs.Option.{option_map}
use Rattle.std.specs.Ordering.{nat_cmp}
use Rattle.std.proofs.Math.Path.{fun_ext}
use Rattle.std.proofs.lemmas.Bool.Decides.{nat_tests}
use Rattle.std.proofs.lemmas.Cmp.{nat_cmp_total}
use Rattle.elf_load.specs.declared.page.Page.{Page}
use Rattle.elf_load.specs.Images.{byte_in}
use Rattle.rv_spec.specs.Memory.{byte_of, with_bytes}
use Rattle.rv_machine.specs.Pages.{Pages, AreByNumber, IsPlaceOf, byte_on, flags_on, past_the_end}
use Rattle.rv_machine.proofs.Finding.{find-set, find_present, order-set}

-- with other bytes
abbrev changed : Page → List ℕ → Page
changed p bytes = record { flags = p.flags; bytes = bytes }

-- the entry at a place of the list, and its page with other bytes there
module _ (l : List (ℕ × Page)) (k i : ℕ) (e : ℕ × Page) (order : AreByNumber l) (at : IsPlaceOf l k i) (here : get_or l i past_the_end ≡ e) where
  same_number : e.0 ≡ k
  same_number = ap (λ (p : ℕ × Page). p.0) (sym here) ∙ at.has_number

  pub order-written : (bytes : List ℕ) → AreByNumber (set l i (e.0, changed e.1 bytes))
  order-written bytes = subst (λ n. AreByNumber (set l i (n, changed e.1 bytes))) (sym same_number) (order-set l k i order at (changed e.1 bytes))

  get-written : (bytes : List ℕ) (q : ℕ) → get (from_entries {R = nat_cmp} (set l i (e.0, changed e.1 bytes))) q ≡ cond (q == k) (Some (changed e.1 bytes)) (get (from_entries {R = nat_cmp} l) q)
  get-written bytes q =
      get-from_entries nat_cmp_total (set l i (e.0, changed e.1 bytes)) q
      ∙ ap (λ n. find nat_cmp q (set l i (n, changed e.1 bytes))) same_number
      ∙ find-set l k i order at (changed e.1 bytes) q
      ∙ ap (cond (q == k) (Some (changed e.1 bytes))) (sym (get-from_entries nat_cmp_total l q))

  get-before : get (from_entries {R = nat_cmp} l) k ≡ Some e.1
  get-before = get-from_entries nat_cmp_total l k ∙ find_present l k i order at ∙ ap (λ (p : ℕ × Page). Some p.1) here

  get-same : (q : ℕ) → (q == k) ≡ true → get (from_entries {R = nat_cmp} l) q ≡ Some e.1
  get-same q is = let same : q ≡ k = grind (arith, nat_tests, is) in ap (get (from_entries {R = nat_cmp} l)) same ∙ get-before

  flags_case : (b : Bool) (bytes : List ℕ) (found : Option Page) → (b ≡ true → found ≡ Some e.1) → option_map (λ p. p.flags) (cond b (Some (changed e.1 bytes)) found) ≡ option_map (λ p. p.flags) found
  flags_case true bytes found is = ap (option_map (λ p. p.flags)) (sym (is refl))
  flags_case false bytes found is = refl

  -- no flag changes
  pub flags-written : (bytes : List ℕ) → flags_on (from_entries (set l i (e.0, changed e.1 bytes))) ≡ flags_on (from_entries l)
  flags-written bytes = fun_ext (λ q. ap (option_map (λ p. p.flags)) (get-written bytes q) ∙ flags_case (q == k) bytes (get (from_entries l) q) (get-same q))

on_page : (bytes : List ℕ) (x address b : ℕ) → address % 256 < length bytes → x / 256 ≡ address / 256 → slice_index (set bytes (address % 256) b) (x % 256) ≡ (if x == address then b else slice_index bytes (x % 256))
on_page bytes x address b small same =
    elim (x == address) as (λ t. (x == address) ≡ t → slice_index (set bytes (address % 256) b) (x % 256) ≡ (if t then b else slice_index bytes (x % 256))) [
      | true ↦ λ is. let there : x ≡ address = grind (arith, nat_tests, is) in
          ap (λ n. slice_index (set bytes (address % 256) b) (n % 256)) there ∙ get_or-set_same bytes (address % 256) b 0 small
      | false ↦ λ is. let other : x ≢ address = grind (arith, nat_tests, is) in
          get_or-set_other bytes (address % 256) (x % 256) b 0 (λ place. other (omega (arith, same, place)))
    ] refl

off_page : (x address b old : ℕ) → (x / 256 == address / 256) ≡ false → old ≡ (if x == address then b else old)
off_page x address b old apart =
    elim (x == address) as (λ t. (x == address) ≡ t → old ≡ (if t then b else old)) [
      | true ↦ λ is. let there : x ≡ address = grind (arith, nat_tests, is) in
          let same : (x / 256 == address / 256) ≡ true = grind (arith, nat_tests, there) in absurd (cc (same, apart))
      | false ↦ λ is. refl
    ] refl

byte_case : (t : Bool) (p : Page) (found : Option Page) (x address b : ℕ) → address % 256 < length p.bytes → (x / 256 == address / 256) ≡ t → (t ≡ true → found ≡ Some p)
    → byte_in (cond t (Some (changed p (set p.bytes (address % 256) b))) found) (x % 256) ≡ (if x == address then b else byte_in found (x % 256))
byte_case true p found x address b small is found_is =
    on_page p.bytes x address b small (grind (arith, nat_tests, is))
    ∙ ap (λ o. if x == address then b else byte_in o (x % 256)) (sym (found_is refl))
byte_case false p found x address b small is found_is = off_page x address b (byte_in found (x % 256)) is

-- the byte at the address changes, and no other
pub byte-written : (l : List (ℕ × Page)) (i : ℕ) (e : ℕ × Page) (address b : ℕ) → AreByNumber l → IsPlaceOf l (address / 256) i → get_or l i past_the_end ≡ e → address % 256 < length e.1.bytes
    → byte_on (from_entries (set l i (e.0, changed e.1 (set e.1.bytes (address % 256) b)))) ≡ with_bytes (byte_on (from_entries l)) address (b ∷ [])
unfolding byte_of
byte-written l i e address b order at here small =
    fun_ext (λ x.
    ap (λ o. byte_in o (x % 256)) (get-written l (address / 256) i e order at here (set e.1.bytes (address % 256) b) (x / 256))
    ∙ byte_case (x / 256 == address / 256) e.1 (get (from_entries l) (x / 256)) x address b small refl (get-same l (address / 256) i e order at here (x / 256)))

-- on a page that isn't mapped nothing can be written
pub no_write : (pages : Pages) (l : List (ℕ × Page)) (address : ℕ) → from_entries l ≡ pages → find nat_cmp (address / 256) l ≡ None → get pages (address / 256) ≡ None
no_write pages l address view none = ap (λ m. get m (address / 256)) (sym view) ∙ get-from_entries nat_cmp_total l (address / 256) ∙ none
