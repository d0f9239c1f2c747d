-- Items that are printed one behind the other are told by their text.
use Rattle.std.proofs.Common.{◌≡◌, ◌∙◌, ℕ, ◌<◌, List, [], ◌∷◌, ◌++◌, None, Some, append_assoc, ap, arith, length, length-append, refl, sym, subst}
use Rattle.std.specs.Prelude.{All}
use Rattle.std.specs.List.{flat_map}
use Rattle.std.proofs.lemmas.List.Elements.{All-head, All-tail}
use Rattle.std.proofs.lemmas.Option.{none-some, same_Some}
use Rattle.text_parts.specs.Pieces.{Reader}

-- the same text, split behind its first item
split_first : {X : Type 0} (print : X → List ℕ) (x : X) (xs : List X) (more : List ℕ) →
    flat_map print (x ∷ xs) ++ more ≡ print x ++ (flat_map print xs ++ more)
split_first print x xs more = append_assoc (print x) (flat_map print xs) more

-- Items with a reader that finds none in what ends them. An item is read back where it goes on behind it so that it may be read,
-- as it does where another item stands there.
module _ {X : Type 0} (read : Reader X) (print : X → List ℕ) (IsLegible : X → Type 0) (GoesOn : List ℕ → Type 0)
    (back : (x : X) (rest : List ℕ) → IsLegible x → GoesOn rest → read (print x ++ rest) ≡ Some (x, rest))
    (goes_on : (x : X) (rest : List ℕ) → GoesOn (print x ++ rest)) where
  pub all_go_on : (xs : List X) (rest : List ℕ) → GoesOn rest → GoesOn (flat_map print xs ++ rest)
  all_go_on [] rest on = on
  all_go_on (x ∷ xs) rest on = subst GoesOn (sym (split_first print x xs rest)) (goes_on x (flat_map print xs ++ rest))

  first_back : (x : X) (xs : List X) (rest : List ℕ) → All IsLegible (x ∷ xs) → GoesOn rest →
      read (flat_map print (x ∷ xs) ++ rest) ≡ Some (x, flat_map print xs ++ rest)
  first_back x xs rest legible on =
      ap read (split_first print x xs rest) ∙ back x (flat_map print xs ++ rest) (All-head IsLegible x xs legible) (all_go_on xs rest on)

  pub items_told : (xs ys : List X) (more rest : List ℕ) → All IsLegible xs → All IsLegible ys → GoesOn more → GoesOn rest →
      read more ≡ None → read rest ≡ None → flat_map print xs ++ more ≡ flat_map print ys ++ rest → (xs ≡ ys) × (more ≡ rest)
  items_told [] [] more rest legible also on goes none end e = (refl, e)
  items_told [] (y ∷ ys) more rest legible also on goes none end e =
      absurd (none-some (y, flat_map print ys ++ rest) (sym none ∙ ap read e ∙ first_back y ys rest also goes))
  items_told (x ∷ xs) [] more rest legible also on goes none end e =
      absurd (none-some (x, flat_map print xs ++ more) (sym end ∙ ap read (sym e) ∙ first_back x xs more legible on))
  items_told (x ∷ xs) (y ∷ ys) more rest legible also on goes none end e =
      let both : Some (x, flat_map print xs ++ more) ≡ Some (y, flat_map print ys ++ rest) =
      sym (first_back x xs more legible on) ∙ ap read e ∙ first_back y ys rest also goes in
      let pair = same_Some (x, flat_map print xs ++ more) (y, flat_map print ys ++ rest) both in
      let left : (xs ≡ ys) × (more ≡ rest) =
      items_told xs ys more rest (All-tail IsLegible x xs legible) (All-tail IsLegible y ys also) on goes none end (ap (λ (p : X × List ℕ). p.1) pair) in
      (ap (λ (p : X × List ℕ). p.0 ∷ xs) pair ∙ ap (λ (zs : List X). y ∷ zs) left.0, left.1)

-- Lines up to the end of a text, of which each has a byte at least, and is told by what the text begins with.
module _ {X : Type 0} (print : X → List ℕ) (IsLegible : X → Type 0)
    (tells : (x y : X) (more rest : List ℕ) → IsLegible x → IsLegible y → print x ++ more ≡ print y ++ rest → (x ≡ y) × (more ≡ rest))
    (some : (x : X) → 0 < length (print x)) where
  none_printed : (x : X) (xs : List X) {Y : Type 0} → [] ≡ flat_map print (x ∷ xs) → Y
  none_printed x xs e = absurd (omega (arith, ap length e, length-append (print x) (flat_map print xs), some x))

  pub lines_told : (xs ys : List X) → All IsLegible xs → All IsLegible ys → flat_map print xs ≡ flat_map print ys → xs ≡ ys
  lines_told [] [] legible also e = refl
  lines_told [] (y ∷ ys) legible also e = none_printed y ys e
  lines_told (x ∷ xs) [] legible also e = none_printed x xs (sym e)
  lines_told (x ∷ xs) (y ∷ ys) legible also e =
      let first = tells x y (flat_map print xs) (flat_map print ys) (All-head IsLegible x xs legible) (All-head IsLegible y ys also) e in
      let left : xs ≡ ys = lines_told xs ys (All-tail IsLegible x xs legible) (All-tail IsLegible y ys also) first.1 in
      ap (λ (z : X). z ∷ xs) first.0 ∙ ap (λ (zs : List X). y ∷ zs) left
