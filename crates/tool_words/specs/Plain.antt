-- Words that no option begins.
use Rattle.std.specs.Prelude.{ℕ, Bool, true, not, List, [], ◌∷◌, ◌==◌}

-- the word doesn't begin with a hyphen (45)
abbrev pub has_no_hyphen : List ℕ → Bool
has_no_hyphen [] = true
has_no_hyphen (first ∷ rest) = not (first == 45)
