-- The two sides of a branch.
use Rattle.std.specs.Prelude.{◌≡◌, ℕ, ◌==◌, ◌<◌, Bool, true, false, not, All, List}
use Rattle.bv_dag.specs.Graphs.{number_of, width_of}
use Rattle.sym_state.specs.Symbolic.{Symbolic, IsFormed}
use Rattle.term_trees.specs.Growth.{Continues}
use Rattle.tree_core.specs.declared.choice.Choice.{Choice}
use Rattle.tree_core.specs.declared.choice.Choice.TheVariants.{No, Yes}
use Rattle.run_sides.specs.declared.branch.Tested.{Tested}

-- the term is 1, or it isn't
abbrev pub is_side : Bool → ℕ → Bool
is_side true number = number == 1
is_side false number = not (number == 1)

-- the choice of a branch's side
abbrev pub branch_choice : Bool → Choice
branch_choice false = No
branch_choice true = Yes

-- a run has a term of one bit that is 1 just on one side of another term
pub record IsSideTested (s : Symbolic) (term : ℕ) (side : Bool) (t : Tested) : Type 0 where
  pub formed : IsFormed s
  pub same : t.run ≡ record s { terms = t.run.terms }
  pub continues : Continues s.terms t.run.terms
  pub bit : width_of t.run.terms t.test ≡ 1
  pub tells : (input : List ℕ) → All (λ b. b < 256) input
      → (number_of t.run.terms t.test input == 1) ≡ is_side side (number_of s.terms term input)
