-- Lists of choices and paths, and the numbers of eight digits in them: what was written is read back,
-- and what was read was written so.
use Rattle.std.proofs.Common.{◌≡◌, ℕ, zero, suc, ◌<◌, ◌^◌, List, [], ◌∷◌, ◌++◌, length, None, Some, refl, arith, append_assoc}
use Rattle.std.specs.Prelude.{All}
use Rattle.std.specs.List.{flat_map}
use Rattle.std.proofs.lemmas.List.{drop_at, length-append, take_at}
use Rattle.std.proofs.lemmas.List.Elements.{All-head, All-tail}
use Rattle.rv_decode.specs.declared.ends.PathStep.{PathStep}
use Rattle.rv_decode.specs.declared.ends.PathStep.TheVariants.{Taken, NotTaken, Target}
use Rattle.tree_core.specs.declared.choice.Choice.{Choice}
use Rattle.tree_core.specs.declared.choice.Choice.TheVariants.{No, Yes, Value, Rest}
use Rattle.tree_core.specs.Choices.{IsSmallChoice}
use Rattle.text_parts.specs.Items.{choice}
use Rattle.text_parts.specs.Names.{choice_text, eight_digits, step_text}
use Rattle.text_parts.specs.Pieces.{Reader, behind, eight, items, list_end, named}
use Rattle.text_parts.proofs.DigitsBack.{hex_back, length_eight}
use Rattle.text_parts.proofs.Words.{behind_word}

-- ---- eight digits

pub eight_back : (n : ℕ) (rest : List ℕ) → n < 2 ^ 32 → eight (eight_digits n ++ rest) ≡ Some (n, rest)
unfolding eight
eight_back n rest small =
    rw (take_at (eight_digits n) rest 8 (length_eight n), drop_at (eight_digits n) rest 8 (length_eight n), hex_back n small) refl

-- ---- one item

pub choice_back : (c : Choice) (rest : List ℕ) → IsSmallChoice c → choice (choice_text c ++ rest) ≡ Some (c, rest)
unfolding choice named behind
choice_back No rest small = refl
choice_back Yes rest small = refl
choice_back (Value v) rest small = rw (eight_back v rest small) refl
choice_back Rest rest small = refl

no_end_choice : (c : Choice) (rest : List ℕ) → behind list_end (choice_text c ++ rest) ≡ None
unfolding behind
no_end_choice No rest = refl
no_end_choice Yes rest = refl
no_end_choice (Value v) rest = refl
no_end_choice Rest rest = refl

pub some_choice : (c : Choice) → 0 < length (choice_text c)
some_choice No = omega arith
some_choice Yes = omega arith
some_choice (Value v) = omega arith
some_choice Rest = omega arith

pub some_step : (s : PathStep) → 0 < length (step_text s)
some_step Taken = omega arith
some_step NotTaken = omega arith
some_step (Target address) = omega arith

-- ---- all items

module _ {X : Type 0} (read : Reader X) (print : X → List ℕ) (IsSmall : X → Type 0)
    (back : (x : X) (rest : List ℕ) → IsSmall x → read (print x ++ rest) ≡ Some (x, rest))
    (no_end : (x : X) (rest : List ℕ) → behind list_end (print x ++ rest) ≡ None)
    (some : (x : X) → 0 < length (print x)) where
  pub items_back : (xs : List X) (rest : List ℕ) (most : ℕ) → All IsSmall xs → length (flat_map print xs) < most →
      items read most (flat_map print xs ++ (list_end ++ rest)) ≡ Some (xs, rest)
  unfolding items
  items_back xs rest zero small enough = absurd (omega (arith, enough))
  items_back [] rest (suc more) small enough = rw (behind_word list_end rest) refl
  items_back (x ∷ xs) rest (suc more) small enough =
      let left : length (flat_map print xs) < more =
      omega (arith, enough, some x, length-append (print x) (flat_map print xs)) in
      rw (append_assoc (print x) (flat_map print xs) (list_end ++ rest), no_end x (flat_map print xs ++ (list_end ++ rest)), back x (flat_map print xs ++ (list_end ++ rest)) (All-head IsSmall x xs small), items_back xs rest more (All-tail IsSmall x xs small) left) refl

pub choices_back : (cs : List Choice) (rest : List ℕ) (most : ℕ) → All IsSmallChoice cs →
    length (flat_map choice_text cs) < most →
    items choice most (flat_map choice_text cs ++ (list_end ++ rest)) ≡ Some (cs, rest)
choices_back = items_back choice choice_text IsSmallChoice choice_back no_end_choice some_choice
