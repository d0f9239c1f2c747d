-- Nodes of which an order names one, as can be followed by hand.
use Rattle.std.specs.Prelude.{ℕ, true, false, List, [], ◌∷◌}
use Rattle.tree_core.specs.Orders.{Candidate}

abbrev pub free : (depth : ℕ) → Candidate
free depth = record { depth = depth; is_free = true }

abbrev pub taken : (depth : ℕ) → Candidate
taken depth = record { depth = depth; is_free = false }

-- the root was parted into two nodes; the second of these was parted too, and all but these are free
abbrev pub three_free : List Candidate
three_free = taken 0 ∷ free 1 ∷ taken 1 ∷ free 2 ∷ free 2 ∷ []

-- the root, parted into six nodes that are free and a leaf
abbrev pub six_free : List Candidate
six_free = taken 0 ∷ free 1 ∷ free 1 ∷ free 1 ∷ free 1 ∷ free 1 ∷ free 1 ∷ taken 1 ∷ []

-- the fifth of the six was claimed
abbrev pub five_free : List Candidate
five_free = taken 0 ∷ free 1 ∷ free 1 ∷ free 1 ∷ free 1 ∷ taken 1 ∷ free 1 ∷ taken 1 ∷ []
