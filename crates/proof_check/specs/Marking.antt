-- Marks of variables that stand for a partial assignment. Only private functions speak of this.
use Rattle.std.specs.Prelude.{ℕ, Bool, List, Option, Some, None, ◌==◌, ◌≤◌, ◌<◌, All, slice_index_or, if◌then◌else◌}
use Rattle.proof_check.specs.declared.marks.Mark.{Mark}

-- the value that a mark gives in a round
abbrev pub value_in : ℕ → Mark → Option Bool
value_in round m = if m.round == round then Some m.positive else None

-- no mark is of a round to come
pub record AreMarks (round : ℕ) (marks : List Mark) : Type 0 where
  pub begun : 0 < round
  pub past : All (λ m. m.round ≤ round) marks

-- the partial assignment of a list of values, by variable
abbrev pub marked : List (Option Bool) → ℕ → Option Bool
marked values v = slice_index_or values v None
