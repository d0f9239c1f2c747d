-- Regions whose addresses are mapped, since they fit the image.
use Rattle.std.proofs.Common.{◌≡◌, ℕ, zero, suc, ◌+◌, ◌/◌, ◌^◌, ◌<◌, Bool, true, false, List, [], ◌∷◌, length, drop, get_or, refl, sym, subst, arith}
use Rattle.std.specs.Prelude.{◌||◌, not, nat_lt, if◌then◌else◌, is_some, Option, None, Some}
use Rattle.std.specs.FinMap.{contains_key, get}
use Rattle.std.specs.List.{list_any, range_with_len}
use Rattle.std.specs.Option.{option_map}
use Rattle.std.proofs.Math.Seq.{drop-cons}
use Rattle.std.proofs.lemmas.Bool.{and_parts}
use Rattle.std.proofs.lemmas.Bool.Decides.{nat_tests}
use Rattle.elf_load.specs.Fits as fits
use Rattle.elf_load.specs.Fits.{unfit, is_unmapped, unfit_empty, unfit_overlap, unfit_too_long, unfit_too_many, unfit_unmapped}
use Rattle.elf_load.specs.Images.{Image}
use Rattle.elf_load.specs.declared.page.Page.{Page}
use Rattle.elf_load.specs.declared.region.Region.{Region}
use Rattle.elf_load.specs.declared.unfit.Unfit.TheVariants.{TooMany, Empty, TooLong, Unmapped, Overlap}
use Rattle.rv_spec.specs.Memory.{flags_of, is_mapped}
use Rattle.rv_machine.specs.Pages.{AreMapped, IsMapped}

-- the next region of those that are left
pub next_mapped : (before now : ℕ → Option ℕ) (rs : List Region) (i : ℕ) (r : Region) → now ≡ before → i < length rs → AreMapped before (drop i rs) → IsMapped now (get_or rs i r)
next_mapped before now rs i r same small all =
    subst (λ (flags : ℕ → Option ℕ). IsMapped flags (get_or rs i r)) (sym same) (subst (AreMapped before) (drop-cons rs i r small) all).0

neither : (a b : Bool) → (a || b) ≡ false → (a ≡ false) × (b ≡ false)
neither true b h = cc
neither false b h = (refl, h)

not_false : (a : Bool) → not a ≡ false → a ≡ true
not_false true h = refl
not_false false h = cc

flags_found : (found : Option Page) → is_some found ≡ true → is_some (option_map (λ (p : Page). p.flags) found) ≡ true
flags_found None h = h
flags_found (Some p) h = refl

one_mapped : (image : Image) (at : ℕ) → fits.is_in_image image at ≡ true → (at < 2 ^ 32) × (is_mapped (flags_of image) at ≡ true)
one_mapped image at mapped =
    let parts = and_parts (nat_lt at 4294967296) (contains_key image.pages (at / 256)) mapped in
    let small : nat_lt at 4294967296 ≡ true = parts.0 in
    (grind (arith, nat_tests, small), flags_found (get image.pages (at / 256)) parts.1)

each_mapped : (image : Image) (start count : ℕ) → list_any (λ address. not (fits.is_in_image image address)) (range_with_len start count) ≡ false
    → (i : ℕ) → i < count → (start + i < 2 ^ 32) × (is_mapped (flags_of image) (start + i) ≡ true)
each_mapped image start zero none i small = absurd (omega (arith, small))
each_mapped image start (suc count) none zero small =
    let here : start ≡ start + 0 = omega arith in
    subst (λ at. (at < 2 ^ 32) × (is_mapped (flags_of image) at ≡ true)) here (one_mapped image start (not_false _ (neither _ _ none).0))
each_mapped image start (suc count) none (suc i) small =
    let here : start + 1 + i ≡ start + suc i = omega arith in
    subst (λ at. (at < 2 ^ 32) × (is_mapped (flags_of image) at ≡ true)) here (each_mapped image (start + 1) count (neither _ _ none).1 i (omega (arith, small)))

all_mapped : (image : Image) (rs : List Region) → list_any (is_unmapped image) rs ≡ false → AreMapped (flags_of image) rs
all_mapped image [] none = tt
all_mapped image (r ∷ rs) none = (each_mapped image r.start r.count (neither _ _ none).0, all_mapped image rs (neither _ _ none).1)

-- the last of the tests before the one for shared addresses
none_unmapped : (a b c d e : Bool) → (if a then Some TooMany else if b then Some Empty else if c then Some TooLong else if d then Some Unmapped else if e then Some Overlap else None) ≡ None → d ≡ false
none_unmapped true b c d e is = cc
none_unmapped false true c d e is = cc
none_unmapped false false true d e is = cc
none_unmapped false false false true e is = cc
none_unmapped false false false false e is = refl

-- regions that fit an image are mapped
pub fitting_mapped : (image : Image) (rs : List Region) → unfit image rs ≡ None → AreMapped (flags_of image) rs
unfolding unfit
fitting_mapped image rs fit = all_mapped image rs (none_unmapped (unfit_too_many rs) (unfit_empty rs) (unfit_too_long rs) (unfit_unmapped image rs) (unfit_overlap rs) fit)
