-- Numbers and the seats that they stand at, and the views of the seats.
use Rattle.std.proofs.Common.{◌≡◌, ◌≢◌, ℕ, true, List, set, sym, ap, ◌∙◌, subst, ⊎_elim}
use mathlib.Core.Option.{some, none, some-injective, some-ne-none}
use mathlib.Core.Option as maybe
use lib.ListN.{get_elem?}
use Rattle.atomic_table.proofs.Lists.{at_set}
use Rattle.turn_lock.specs.declared.known.Known.{Known}

-- two seats have two numbers, and a seat has none that has no seat
pub apart : (seat_of : ℕ → maybe.Option ℕ) (a b i j : ℕ) → seat_of a ≡ some i → seat_of b ≡ some j →
    i ≢ j → a ≢ b
apart seat_of a b i j p q n e = n (some-injective i j (sym p ∙ (ap seat_of e ∙ q)))

pub seated : (seat_of : ℕ → maybe.Option ℕ) (a b j : ℕ) → seat_of a ≡ none → seat_of b ≡ some j →
    a ≢ b
seated seat_of a b j p q e = some-ne-none j (sym q ∙ (ap seat_of (sym e) ∙ p))

module _ {F N E : Type 0} where
  -- what holds of each live view holds after one was changed
  pub each_set : (P : ℕ → Known F N E → Type 0) (views : List (Known F N E)) (id : ℕ)
      (w : Known F N E) → (w.live ≡ true → P id w)
      → ((j : ℕ) (u : Known F N E) → j ≢ id → get_elem? views j ≡ some u → u.live ≡ true → P j u)
      → (j : ℕ) (u : Known F N E) → get_elem? (set views id w) j ≡ some u → u.live ≡ true → P j u
  each_set P views id w mine others j u at live = ⊎_elim
      (λ (t : (j ≡ id) × (w ≡ u)). subst (λ (z : ℕ). P z u) (sym t.0)
      (subst (λ (z : Known F N E). P id z) t.1
      (mine (subst (λ (z : Known F N E). z.live ≡ true) (sym t.1) live))))
      (λ (t : (j ≢ id) × (get_elem? views j ≡ some u)). others j u t.0 t.1 live)
      (at_set views id j w u at)
