-- What is known of a step of a reader that found something.
use Rattle.std.proofs.Common.{◌≡◌, ◌⊎◌, inl, inr, Option, None, Some, option_map, refl}
use Rattle.std.specs.Prelude.{option_and_then}
use Rattle.std.specs.Option.{option_or}
use Rattle.std.proofs.lemmas.Option.{same_Some}

-- a step behind another one
pub then_from : {A B : Type 0} (f : A → Option B) (o : Option A) (y : B) →
    option_and_then f o ≡ Some y → (x : A) × (o ≡ Some x) × (f x ≡ Some y)
then_from f None y h = cc
then_from f (Some x) y h = (x, refl, h)

-- something made of what was found
pub map_from : {A B : Type 0} (f : A → B) (o : Option A) (y : B) →
    option_map f o ≡ Some y → (x : A) × (o ≡ Some x) × (f x ≡ y)
map_from f None y h = cc
map_from f (Some x) y h = (x, refl, same_Some (f x) y h)

-- one of two
pub or_from : {A : Type 0} (o p : Option A) (y : A) →
    option_or o p ≡ Some y → (o ≡ Some y) ⊎ (p ≡ Some y)
or_from None p y h = inr h
or_from (Some x) p y h = inl h
