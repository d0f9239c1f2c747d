-- Turns of work: a claim, and what ends it.
use Rattle.std.specs.Prelude.{◌≡◌, ◌==◌, ◌&&◌, ◌||◌, ◌++◌, ℕ, Bool, true, false, not, List, [], ◌∷◌, All}
use Rattle.tree_core.specs.declared.event.Event.{Event}
use Rattle.tree_core.specs.declared.event.Deed.{Deed}
use Rattle.tree_core.specs.declared.event.Deed.TheVariants.{Claim}
use Rattle.fork_spec.specs.Histories.{is_release}

abbrev pub is_claim : {R K : Type 0} → Deed R K → Bool
is_claim Claim = true
is_claim _ = false

abbrev pub is_last : {X : Type 0} → List X → Bool
is_last [] = true
is_last (x ∷ xs) = false

module _ {R : Type 0} where
  -- a claim, and an event that ends it: each other deed does
  abbrev pub is_turn : Event R ℕ → Event R ℕ → Bool
  is_turn a b = is_claim a.deed && (not (is_claim b.deed) && (a.node == b.node))

  -- one turn of work after the other; only the last may end by a release
  abbrev pub are_turns : List (Event R ℕ) → Bool
  are_turns [] = true
  are_turns (a ∷ []) = false
  are_turns (a ∷ b ∷ es) = is_turn a b && ((not (is_release b.deed) || is_last es) && are_turns es)

  -- turns of work, of which none ends by a release
  abbrev pub AreEntered : List (Event R ℕ) → Type 0
  AreEntered es = (are_turns es ≡ true) × All (λ (e : Event R ℕ). is_release e.deed ≡ false) es

  -- the list goes on by turns of work
  abbrev pub GoesOnByTurns : List (Event R ℕ) → List (Event R ℕ) → Type 0
  GoesOnByTurns old new = (es : List (Event R ℕ)) × (new ≡ old ++ es) × (are_turns es ≡ true)

  -- the list goes on by turns of work, of which none ends by a release
  abbrev pub GoesOnByEntered : List (Event R ℕ) → List (Event R ℕ) → Type 0
  GoesOnByEntered old new = (es : List (Event R ℕ)) × (new ≡ old ++ es) × AreEntered es
