-- How symbolic runs change: terms are added, a step is made, a run is narrowed to one side of a fork.
use Rattle.std.specs.Prelude.{◌≡◌, ℕ, ◌+◌, Bool, List, [], ◌∷◌, ◌++◌, Some, slice_set}
use Rattle.bv_dag.specs.Graphs.{Graph}
use Rattle.cow_pages.specs.SymbolicMemory.{memory_with}
use Rattle.cow_pages.specs.declared.byte.Byte.{Byte}
use Rattle.term_trees.specs.Growth.{Continues}
use Rattle.tree_core.specs.declared.choice.Choice.{Choice}
use Rattle.sym_state.specs.Symbolic.{Symbolic, IsFormed, nothing_known, stands_for}
use Rattle.sym_state.specs.Updates.{without}
use Rattle.sym_state.specs.Values.{GivesBit, GivesByte, GivesTerm, GivesValue}
use Rattle.sym_state.specs.declared.decided.Decided.{Decided}
use Rattle.sym_state.specs.declared.value.Bit.{Bit}
use Rattle.sym_state.specs.declared.value.Value.{Value}

-- with other terms
abbrev pub with_terms : Symbolic → Graph → Symbolic
with_terms s terms = record s { terms = terms }

-- it is the same run, with more terms
pub record IsGrown (old new : Symbolic) : Type 0 where
  pub before : IsFormed old
  pub same : new ≡ with_terms old new.terms
  pub continues : Continues old.terms new.terms
  pub formed : IsFormed new

-- with terms made for it, something is worth what the function says on each assignment
pub record MakesValue (old new : Symbolic) (value : Value) (number : List ℕ → ℕ) : Type 0 where
  pub grown : IsGrown old new
  pub gives : GivesValue old.terms new.terms value number

pub record MakesByte (old new : Symbolic) (byte : Byte) (number : List ℕ → ℕ) : Type 0 where
  pub grown : IsGrown old new
  pub gives : GivesByte old.terms new.terms byte number

pub record MakesBit (old new : Symbolic) (bit : Bit) (test : List ℕ → Bool) : Type 0 where
  pub grown : IsGrown old new
  pub gives : GivesBit old.terms new.terms bit test

pub record MakesTerm (old new : Symbolic) (bits id : ℕ) (number : List ℕ → ℕ) : Type 0 where
  pub grown : IsGrown old new
  pub gives : GivesTerm old.terms new.terms bits id number

-- a step was made
abbrev pub counted : Symbolic → Symbolic
counted s = record s { steps = s.steps + 1; known = nothing_known }

-- this decision of the step that comes next is known
abbrev pub informed : Symbolic → ℕ → Decided → Symbolic
informed s place d = record s { known = slice_set s.known place (Some d) }

-- with a byte at an address
abbrev pub stored_at : Symbolic → ℕ → Byte → Symbolic
stored_at s address byte = record s {
  memory = memory_with s.memory address byte;
  updates = without address s.updates;
}

-- on one side of a fork, where this term is to be 1 too
abbrev pub narrowed : Symbolic → Choice → ℕ → List ℕ → Symbolic
narrowed s choice term sample = record s {
  condition = s.condition ++ term ∷ [];
  choices = s.choices ++ choice ∷ [];
  sample = sample;
}

-- it is on the same side of every fork, and stands for the same assignments
pub record IsSame (old new : Symbolic) : Type 0 where
  pub same_choices : new.choices ≡ old.choices
  pub same_cover : (input : List ℕ) → stands_for new input ≡ stands_for old input
