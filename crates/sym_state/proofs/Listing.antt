-- A list that is copied item by item.
use Rattle.std.proofs.Common.{◌≡◌, ℕ, ◌+◌, List, [], ◌∷◌, ◌++◌, take, sym, ap, ◌∙◌}
use Rattle.std.specs.Prelude.{Some, slice_get}
use Rattle.std.proofs.lemmas.Grind.{take_at_read}
use Rattle.std.proofs.lemmas.Option.{get_or_from_slice_get, slice_get_within}

pub copied-more : {A : Type 0} (xs ys : List A) (i : ℕ) (x : A) → slice_get xs i ≡ Some x → ys ≡ take i xs
    → ys ++ x ∷ [] ≡ take (i + 1) xs
copied-more xs ys i x there is =
    ap (λ zs. zs ++ x ∷ []) is
    ∙ ap (λ y. take i xs ++ y ∷ []) (sym (get_or_from_slice_get xs i x x there))
    ∙ sym (take_at_read xs i x (slice_get_within xs i x there)).1
