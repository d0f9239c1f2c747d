-- Conditions on input bytes: terms of one bit, each of which is asserted, as by the command `assert` of SMT-LIB.
use Rattle.std.specs.Prelude.{◌≡◌, ◌==◌, ◌&&◌, ◌<◌, ℕ, Bool, false, List, All, length}
use Rattle.std.specs.List.{list_all}
use Rattle.bv_dag.specs.Graphs.{Graph, number_of, width_of}

-- what a `Query` stands for
pub record Condition : Type 0 where
  pub graph : Graph
  pub asserted : List ℕ

-- each asserted term is of one bit
abbrev pub AreBits : Graph → List ℕ → Type 0
AreBits graph asserted = All (λ id. width_of graph id ≡ 1) asserted

-- there is one byte for each input, and each asserted term is worth 1
abbrev pub holds : Condition → List ℕ → Bool
holds condition input =
    (length input == condition.graph.inputs)
    && list_all (λ id. number_of condition.graph id input == 1) condition.asserted

-- no input bytes meet the condition
abbrev pub IsUnsatisfiable : Condition → Type 0
IsUnsatisfiable q = (input : List ℕ) → All (λ b. b < 256) input → holds q input ≡ false
