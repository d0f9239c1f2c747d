-- Lists that grow, and the events of one worker.
use Rattle.std.specs.Prelude.{◌≡◌, ℕ, ◌==◌, List, ◌++◌, cond, ltb, length}
use Rattle.std.specs.List.{All, filter}

-- the list begins with what was seen
abbrev pub StartsWith : {X : Type 0} → List X → List X → Type 0
StartsWith {X} xs seen = (more : List X) × (xs ≡ seen ++ more)

-- the longer of two lists, and the first if they are as long
abbrev pub longer : {X : Type 0} → List X → List X → List X
longer xs ys = cond (ltb (length xs) (length ys)) ys xs

-- the events that bear a number, in their order
abbrev pub by_number : {E : Type 0} → (E → ℕ) → ℕ → List E → List E
by_number worker k es = filter (λ e. worker e == k) es

-- the list goes on with events of this number alone
abbrev pub GoesOnBy : {E : Type 0} → (E → ℕ) → ℕ → List E → List E → Type 0
GoesOnBy {E} worker k seen es =
    (more : List E) × (es ≡ seen ++ more) × All (λ e. worker e ≡ k) more
