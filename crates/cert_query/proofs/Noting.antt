-- Variables that are noted where they occur.
use Rattle.std.proofs.Common.{◌≡◌, ◌∙◌, ℕ, zero, suc, ◌+◌, ◌<◌, ◌==◌, nat_lt, ◌||◌, ◌&&◌, Bool, true, false, List, [], ◌∷◌, length, get_or, replicate, slice_get, take, Some, refl, ap, sym, subst, arith}
use Rattle.std.specs.List.{list_all, list_any}
use Rattle.std.proofs.lemmas.Bool.{and_parts}
use Rattle.std.proofs.lemmas.List.Folds.{list_any-append}
use borrow.Author.Tests.{ltb-true}
use Rattle.cnf_form.specs.Literals.{Literal}
use Rattle.cnf_form.specs.Variables.{is_below, is_over, occurs}
use Rattle.cnf_form.proofs.Pieces.{take_next}
use Rattle.cert_query.specs.Variables.{AreOccurring, are_noted, is_noted}

-- a literal of a clause below a bound
pub literal_below : (n : ℕ) (c : List Literal) (k : ℕ) (l : Literal) → is_below n c ≡ true → k < length c → l ≡ get_or c k l → l.variable < n
unfolding is_below
literal_below n [] k l h within is = absurd (omega (arith, within))
literal_below n (d ∷ ds) zero l h within is =
    let parts : (nat_lt d.variable n ≡ true) × (list_all (λ (m : Literal). nat_lt m.variable n) ds ≡ true) = and_parts _ _ h in
    let same : l ≡ d = is in
    subst (λ (m : Literal). m.variable < n) (sym same) (ltb-true d.variable n parts.0)
literal_below n (d ∷ ds) (suc k) l h within is =
    let parts : (nat_lt d.variable n ≡ true) × (list_all (λ (m : Literal). nat_lt m.variable n) ds ≡ true) = and_parts _ _ h in
    literal_below n ds k l parts.1 (omega (arith, within)) is

-- what holds of each item holds of the one at a place
pub holds_at : {X : Type 0} (p : X → Bool) (xs : List X) (k : ℕ) (x : X) → list_all p xs ≡ true → slice_get xs k ≡ Some x → p x ≡ true
holds_at p [] k x all at = cc
holds_at p (y ∷ ys) zero x all at =
    let parts : (p y ≡ true) × (list_all p ys ≡ true) = and_parts _ _ all in
    let same : y ≡ x = cc in
    ap p (sym same) ∙ parts.0
holds_at p (y ∷ ys) (suc k) x all at =
    let parts : (p y ≡ true) × (list_all p ys ≡ true) = and_parts _ _ all in
    holds_at p ys k x parts.1 at

-- none is noted at first, and none occurs in no clauses
none_noted : (n v : ℕ) → is_noted (replicate n false) v ≡ false
none_noted zero v = refl
none_noted (suc n) zero = refl
none_noted (suc n) (suc v) = none_noted n v

pub none_occurs : (n v : ℕ) → is_noted (replicate n false) v ≡ occurs [] v
unfolding occurs
none_occurs n v = none_noted n v

or_none : (b : Bool) → (b || false) ≡ b
or_none true = refl
or_none false = refl

-- the variables of one more clause
pub occurs_next : (clauses : List (List Literal)) (k : ℕ) (c : List Literal) (v : ℕ) → slice_get clauses k ≡ Some c →
    occurs (take (k + 1) clauses) v ≡ (occurs (take k clauses) v || list_any (λ l. l.variable == v) c)
unfolding occurs
occurs_next clauses k c v at =
    let has : List Literal → Bool = λ (d : List Literal). list_any (λ (l : Literal). l.variable == v) d in
    ap (list_any has) (take_next clauses k c at) ∙ list_any-append has (take k clauses) (c ∷ [])
    ∙ ap (λ (b : Bool). list_any has (take k clauses) || b) (or_none (has c))

-- a clause whose variables are all noted is over them
pub noted_is_over : (clauses : List (List Literal)) (seen : List Bool) → AreOccurring clauses seen → (c : List Literal) → are_noted seen c ≡ is_over clauses c
unfolding is_over
noted_is_over clauses seen are [] = refl
noted_is_over clauses seen are (l ∷ ls) =
    ap (λ (b : Bool). b && are_noted seen ls) (are l.variable) ∙ ap (λ (b : Bool). occurs clauses l.variable && b) (noted_is_over clauses seen are ls)
