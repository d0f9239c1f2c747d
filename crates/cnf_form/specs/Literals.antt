-- Literals: variables and their negations.
use Rattle.std.specs.Prelude.{ℕ, Bool, true, false, not, ◌==◌, ◌&&◌}

-- a variable, from 1, or its negation
pub record Literal : Type 0 where
  pub variable : ℕ
  pub positive : Bool

abbrev pub negation : Literal → Literal
negation l = record { variable = l.variable; positive = not l.positive }

-- whether two truth values are one
abbrev pub same_truth : Bool → Bool → Bool
same_truth true b = b
same_truth false b = not b

abbrev pub same_literal : Literal → Literal → Bool
same_literal a b = (a.variable == b.variable) && same_truth a.positive b.positive
