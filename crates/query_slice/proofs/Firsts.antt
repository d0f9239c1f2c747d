-- An input byte under each term: the first of those under it.
use Rattle.std.proofs.Common.{◌≡◌, ℕ, List, [], ◌∷◌, ◌++◌, Option, Some, None, refl, sym, ◌∙◌, arith}
use Rattle.std.specs.Prelude.{Contains}
use Rattle.query_slice.specs.Classes.{first_of}

pub first_left : (one two : List ℕ) (f : Option ℕ) (x : ℕ) → f ≡ Some x → f ≡ first_of one → f ≡ first_of (one ++ two)
first_left [] two f x is e = (let apart : Some x ≡ None = sym is ∙ e in cc)
first_left (y ∷ one) two f x is e = e

pub first_right : (one two : List ℕ) (f s : Option ℕ) → f ≡ None → f ≡ first_of one → s ≡ first_of two → s ≡ first_of (one ++ two)
first_right [] two f s is e h = h
first_right (y ∷ one) two f s is e h = (let apart : None ≡ Some y = sym is ∙ e in cc)

-- where some byte stands under a term, there is a first, which stands under it
pub first_there : (under : List ℕ) (i : ℕ) → Contains under i → (f : ℕ) × (first_of under ≡ Some f) × Contains under f
first_there [] i h = absurd (omega (arith, h.1))
first_there (f ∷ under) i h = (f, refl, (0, omega arith, refl))

pub first_is_there : (under : List ℕ) (f : ℕ) → first_of under ≡ Some f → Contains under f
first_is_there [] f e = cc
first_is_there (g ∷ under) f e = (let same : g ≡ f = cc in (0, omega arith, same))
