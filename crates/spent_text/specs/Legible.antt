-- Values and clauses of which each number and byte has a text of its own.
use Rattle.std.specs.Prelude.{◌<◌, ◌^◌, All}
use Rattle.cnf_form.specs.Literals.{Literal}
use Rattle.cnf_form.specs.Refutations.{Step}
use Rattle.fork_spec.specs.Evidence.{Found}
use Rattle.fork_spec.specs.Leaves.{IsSmall}

-- a value of 32 bits, and bytes
abbrev pub IsLegibleFound : Found → Type 0
IsLegibleFound found = IsSmall found.value × All (λ b. b < 256) found.input

-- the variables of a step's clause have numbers of 32 bits, and its hints numbers of 64
pub record HasSmallNumbers (s : Step) : Type 0 where
  pub variables : All (λ (l : Literal). IsSmall l.variable) s.clause
  pub hints : All (λ h. h < 2 ^ 64) s.hints
