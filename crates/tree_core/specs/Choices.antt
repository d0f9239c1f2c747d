-- Choices: their order, that of lists of choices, and the numbers in them.
use Rattle.std.specs.Prelude.{◌^◌, ◌<◌, Bool, true, false, List, [], ◌∷◌, ◌&&◌, ◌||◌, nat_eq, nat_lt}
use Rattle.tree_core.specs.declared.choice.Choice.{Choice}
use Rattle.tree_core.specs.declared.choice.Choice.TheVariants.{No, Yes, Value, Rest}

-- `No` before `Yes`, before the values by number, before `Rest`
abbrev pub is_before : Choice → Choice → Bool
is_before No No = false
is_before No _ = true
is_before Yes No = false
is_before Yes Yes = false
is_before Yes _ = true
is_before (Value v) (Value w) = nat_lt v w
is_before (Value v) Rest = true
is_before (Value v) _ = false
is_before Rest _ = false

-- the same choice
abbrev pub is_same : Choice → Choice → Bool
is_same No No = true
is_same Yes Yes = true
is_same (Value v) (Value w) = nat_eq v w
is_same Rest Rest = true
is_same _ _ = false

-- the first list of choices stands before the second: lexicographic, a list before those that go on from it
abbrev pub precedes : List Choice → List Choice → Bool
precedes [] [] = false
precedes [] (d ∷ ds) = true
precedes (c ∷ cs) [] = false
precedes (c ∷ cs) (d ∷ ds) = is_before c d || (is_same c d && precedes cs ds)

-- a value has 32 bits
abbrev pub IsSmallChoice : Choice → Type 0
IsSmallChoice No = Unit {0}
IsSmallChoice Yes = Unit {0}
IsSmallChoice (Value v) = v < 2 ^ 32
IsSmallChoice Rest = Unit {0}
