-- A run of which less is asked for.
use Rattle.std.specs.Prelude.{◌≡◌, ℕ, ◌&&◌, Bool, List}
use Rattle.term_trees.specs.Growth.{Continues}
use Rattle.sym_state.specs.Symbolic.{Symbolic, stands_for}

-- it has more terms and a longer condition, maybe another sample, and stands for those assignments
-- that pass a test
pub record IsNarrowed (old new : Symbolic) (test : List ℕ → Bool) : Type 0 where
  pub same : new ≡ record old { terms = new.terms; condition = new.condition; sample = new.sample }
  pub continues : Continues old.terms new.terms
  pub covers : (input : List ℕ) → stands_for new input ≡ (stands_for old input && test input)
