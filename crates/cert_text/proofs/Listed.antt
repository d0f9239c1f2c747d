-- Lists of items: the loop that reads them, and what was written and read of them.
use Rattle.std.proofs.Common.{◌≡◌, ◌∙◌, inl, inr, ℕ, zero, suc, ◌+◌, ◌-◌, ◌<◌, ◌≤◌, List, [], ◌∷◌, ◌++◌, length, Option, None, Some, option_map, refl, sym, ap, subst, arith, append_assoc, append-nil, length-append}
use Rattle.std.specs.Prelude.{All, option_and_then}
use Rattle.std.specs.List.{flat_map}
use Rattle.std.proofs.lemmas.List.Elements.{All-cons, All-head, All-nil, All-tail}
use Rattle.text_parts.specs.Pieces.{Reader, behind, made}
use Rattle.text_parts.proofs.Options.{map_from, or_from, then_from}
use Rattle.text_parts.proofs.Words.{behind_word, from_behind}
use Rattle.cert_text.specs.LineReading.{all, listed}

-- ---- the loop

-- so many items were read, and then come those of the rest
abbrev pub SoFar : {X : Type 0} → Reader X → (end text : List ℕ) → (count : ℕ) → (done : List X) → (rest : List ℕ) → Type 0
SoFar {X} read end text count done rest =
    all read end text
    ≡ option_map (λ (p : List X × List ℕ). (done ++ p.0, p.1)) (listed read end (suc (length text) - count) rest)

module _ {X : Type 0} (read : Reader X) (end text : List ℕ) where
  nothing_before : (o : Option (List X × List ℕ)) → o ≡ option_map (λ (p : List X × List ℕ). ([] ++ p.0, p.1)) o
  nothing_before None = refl
  nothing_before (Some p) = refl

  one_more : (done : List X) (x : X) (o : Option (List X × List ℕ)) →
      option_map {U = List X × List ℕ} (λ (p : List X × List ℕ). (done ++ p.0, p.1)) (made (λ (xs : List X). x ∷ xs) o)
      ≡ option_map {U = List X × List ℕ} (λ (p : List X × List ℕ). ((done ++ x ∷ []) ++ p.0, p.1)) o
  one_more done x None = refl
  one_more done x (Some p) = ap (λ (xs : List X). let q : List X × List ℕ = (xs, p.1) in Some q) (sym (append_assoc done (x ∷ []) p.0))

  pub none_yet : SoFar read end text 0 [] text
  none_yet =
      let most : suc (length text) - 0 ≡ suc (length text) = omega arith in
      rw most (nothing_before (listed read end (suc (length text)) text))

  at_end : (most : ℕ) (rest more : List ℕ) → behind end rest ≡ Some more → listed read end (suc most) rest ≡ Some ([], more)
  unfolding listed
  at_end most rest more is = rw is refl

  at_none : (most : ℕ) (rest : List ℕ) → behind end rest ≡ None → read rest ≡ None → listed read end (suc most) rest ≡ None
  unfolding listed
  at_none most rest is none = rw (is, none) refl

  at_item : (most : ℕ) (rest : List ℕ) (x : X) (more : List ℕ) → behind end rest ≡ None → read rest ≡ Some (x, more) →
      listed read end (suc most) rest ≡ made (λ (xs : List X). x ∷ xs) (listed read end most more)
  unfolding listed
  at_item most rest x more is item = rw (is, item) refl

  no_more : (rest : List ℕ) → listed read end 0 rest ≡ None
  unfolding listed
  no_more rest = refl

  pub list_ends : (count : ℕ) (done : List X) (rest more : List ℕ) → SoFar read end text count done rest → count < suc (length text) →
      behind end rest ≡ Some more → all read end text ≡ Some (done, more)
  list_ends count done rest more so_far left is =
      let most : suc (length text) - count ≡ suc (length text - count) = omega (arith, left) in
      so_far ∙ ap (λ k. option_map (λ (p : List X × List ℕ). (done ++ p.0, p.1)) (listed read end k rest)) most
      ∙ ap (option_map (λ (p : List X × List ℕ). (done ++ p.0, p.1))) (at_end (length text - count) rest more is)
      ∙ ap (λ (xs : List X). let q : List X × List ℕ = (xs, more) in Some q) (append-nil done)

  pub list_breaks : (count : ℕ) (done : List X) (rest : List ℕ) → SoFar read end text count done rest → count < suc (length text) →
      behind end rest ≡ None → read rest ≡ None → all read end text ≡ None
  list_breaks count done rest so_far left is none =
      let most : suc (length text) - count ≡ suc (length text - count) = omega (arith, left) in
      so_far ∙ ap (λ k. option_map (λ (p : List X × List ℕ). (done ++ p.0, p.1)) (listed read end k rest)) most
      ∙ ap (option_map (λ (p : List X × List ℕ). (done ++ p.0, p.1))) (at_none (length text - count) rest is none)

  pub list_goes_on : (count : ℕ) (done : List X) (rest : List ℕ) (x : X) (more : List ℕ) → SoFar read end text count done rest →
      count < suc (length text) → behind end rest ≡ None → read rest ≡ Some (x, more) →
      SoFar read end text (count + 1) (done ++ x ∷ []) more
  list_goes_on count done rest x more so_far left is item =
      let most : suc (length text) - count ≡ suc (length text - count) = omega (arith, left) in
      let fewer : suc (length text) - (count + 1) ≡ length text - count = omega (arith, left) in
      so_far ∙ ap (λ k. option_map (λ (p : List X × List ℕ). (done ++ p.0, p.1)) (listed read end k rest)) most
      ∙ ap (option_map (λ (p : List X × List ℕ). (done ++ p.0, p.1))) (at_item (length text - count) rest x more is item)
      ∙ one_more done x (listed read end (length text - count) more)
      ∙ ap (λ k. option_map (λ (p : List X × List ℕ). ((done ++ x ∷ []) ++ p.0, p.1)) (listed read end k more)) (sym fewer)

  pub list_over : (count : ℕ) (done : List X) (rest : List ℕ) → SoFar read end text count done rest → suc (length text) ≤ count →
      all read end text ≡ None
  list_over count done rest so_far over =
      let most : suc (length text) - count ≡ 0 = omega (arith, over) in
      so_far ∙ ap (λ k. option_map (λ (p : List X × List ℕ). (done ++ p.0, p.1)) (listed read end k rest)) most
      ∙ ap (option_map (λ (p : List X × List ℕ). (done ++ p.0, p.1))) (no_more rest)

-- ---- what was read was written so

module _ {X : Type 0} (read : Reader X) (print : X → List ℕ) (end : List ℕ) (IsLegible : X → Type 0)
    (from : (text : List ℕ) (x : X) (rest : List ℕ) → read text ≡ Some (x, rest) → (text ≡ print x ++ rest) × IsLegible x) where
  from_listed : (most : ℕ) (text : List ℕ) (xs : List X) (rest : List ℕ) → listed read end most text ≡ Some (xs, rest) →
      (text ≡ flat_map print xs ++ (end ++ rest)) × All IsLegible xs
  unfolding listed
  from_listed zero text xs rest h = cc
  from_listed (suc more) text xs rest h =
      elim (or_from (option_map (λ r. ([], r)) (behind end text)) (option_and_then (λ (x, r). made (λ xs. x ∷ xs) (listed read end more r)) (read text)) (xs, rest) h) [
        | inl here ↦
            let b = map_from (λ (r : List ℕ). ([], r)) (behind end text) (xs, rest) here in
            subst (λ (p : List X × List ℕ). (text ≡ flat_map print p.0 ++ (end ++ p.1)) × All IsLegible p.0) b.2
            (from_behind end text b.0 b.1, All-nil IsLegible)
        | inr later ↦
            let a = then_from (λ ((x, r) : X × List ℕ). made (λ (xs : List X). x ∷ xs) (listed read end more r)) (read text) (xs, rest) later in
            let b = map_from (λ ((ys, r) : List X × List ℕ). (a.0.0 ∷ ys, r)) (listed read end more a.0.1) (xs, rest) a.2 in
            let first = from text a.0.0 a.0.1 a.1 in
            let others = from_listed more a.0.1 b.0.0 b.0.1 b.1 in
            subst (λ (p : List X × List ℕ). (text ≡ flat_map print p.0 ++ (end ++ p.1)) × All IsLegible p.0) b.2 (
              first.0 ∙ ap (λ t. print a.0.0 ++ t) others.0 ∙ sym (append_assoc (print a.0.0) (flat_map print b.0.0) (end ++ b.0.1)),
              All-cons IsLegible a.0.0 b.0.0 first.1 others.1,
            )
      ]

  pub from_all : (text : List ℕ) (xs : List X) (rest : List ℕ) → all read end text ≡ Some (xs, rest) →
      (text ≡ flat_map print xs ++ (end ++ rest)) × All IsLegible xs
  from_all text xs rest h = from_listed (suc (length text)) text xs rest h

-- ---- what was written is read back

-- An item is read back where it goes on behind it so that it may be read, as it does where another item stands there.
module _ {X : Type 0} (read : Reader X) (print : X → List ℕ) (end : List ℕ) (IsLegible : X → Type 0) (GoesOn : List ℕ → Type 0)
    (back : (x : X) (rest : List ℕ) → IsLegible x → GoesOn rest → read (print x ++ rest) ≡ Some (x, rest))
    (goes_on : (x : X) (rest : List ℕ) → GoesOn (print x ++ rest))
    (no_end : (x : X) (rest : List ℕ) → IsLegible x → GoesOn rest → behind end (print x ++ rest) ≡ None)
    (some : (x : X) → 0 < length (print x)) where
  on_behind : (xs : List X) (rest : List ℕ) → GoesOn (end ++ rest) → GoesOn (flat_map print xs ++ (end ++ rest))
  on_behind [] rest on = on
  on_behind (x ∷ xs) rest on =
      subst GoesOn (sym (append_assoc (print x) (flat_map print xs) (end ++ rest))) (goes_on x (flat_map print xs ++ (end ++ rest)))

  listed_back : (xs : List X) (rest : List ℕ) (most : ℕ) → All IsLegible xs → GoesOn (end ++ rest) → length (flat_map print xs) < most →
      listed read end most (flat_map print xs ++ (end ++ rest)) ≡ Some (xs, rest)
  unfolding listed
  listed_back xs rest zero legible on enough = absurd (omega (arith, enough))
  listed_back [] rest (suc more) legible on enough = rw (behind_word end rest) refl
  listed_back (x ∷ xs) rest (suc more) legible on enough =
      let left : length (flat_map print xs) < more =
      omega (arith, enough, some x, length-append (print x) (flat_map print xs)) in
      let first : IsLegible x = All-head IsLegible x xs legible in
      let behind_first : GoesOn (flat_map print xs ++ (end ++ rest)) = on_behind xs rest on in
      rw (
        append_assoc (print x) (flat_map print xs) (end ++ rest),
        no_end x (flat_map print xs ++ (end ++ rest)) first behind_first,
        back x (flat_map print xs ++ (end ++ rest)) first behind_first,
        listed_back xs rest more (All-tail IsLegible x xs legible) on left,
      ) refl

  pub all_back : (xs : List X) (rest : List ℕ) → All IsLegible xs → GoesOn (end ++ rest) →
      all read end (flat_map print xs ++ (end ++ rest)) ≡ Some (xs, rest)
  all_back xs rest legible on =
      listed_back xs rest (suc (length (flat_map print xs ++ (end ++ rest)))) legible on
      (omega (arith, length-append (flat_map print xs) (end ++ rest)))
