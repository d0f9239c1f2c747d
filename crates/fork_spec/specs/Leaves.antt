-- A leaf of the fork tree: the runs that make the same decisions, and what they do.
use Rattle.std.specs.Prelude.{◌≡◌, ℕ, ◌^◌, ◌<◌, Bool, nat_lt, List, All, length}
use Rattle.std.specs.List.{list_all}
use Rattle.bv_dag.specs.Graphs.{Graph, IsDag, number_of, width_of}
use Rattle.bv_dag.specs.Queries.{Condition, AreBits, holds}
use Rattle.rv_decode.specs.declared.ends.PathStep.{PathStep}
use Rattle.rv_decode.specs.declared.ends.PathStep.TheVariants.{Taken, NotTaken, Target}
use Rattle.tree_core.specs.Choices.{IsSmallChoice}
use Rattle.tree_core.specs.declared.choice.Choice.{Choice}
use Rattle.fork_spec.specs.declared.end.LeafEnd.{LeafEnd}
use Rattle.fork_spec.specs.declared.end.LeafEnd.TheVariants.{Exits, Traps, Cut}

pub record Leaf : Type 0 where
  -- the sides taken at the forks above it, from the root on
  pub choices : List Choice
  -- what each conditional branch and each JALR of its runs does
  pub path : List PathStep
  -- the steps of its runs, the ending one included
  pub steps : ℕ
  pub end : LeafEnd
  -- the terms, and those of them that are to be 1
  pub condition : Condition
  -- the terms of what its runs write, a byte each; so far, where they are cut
  pub outputs : List ℕ

-- the assignment meets the leaf's condition
abbrev pub covers : Leaf → List ℕ → Bool
covers leaf input = holds leaf.condition input

-- what a term of the leaf is worth on an assignment
abbrev pub worth : Leaf → List ℕ → ℕ → ℕ
worth leaf input id = number_of leaf.condition.graph id input

-- a list of bytes
abbrev pub are_bytes : List ℕ → Bool
are_bytes input = list_all (λ b. nat_lt b 256) input

-- a number that texts may have
abbrev pub IsSmall : ℕ → Type 0
IsSmall n = n < 2 ^ 32

-- a count of terms that texts may have
abbrev pub IsCount : ℕ → Type 0
IsCount n = n < 2 ^ 64

abbrev pub IsSmallStep : PathStep → Type 0
IsSmallStep Taken = Unit {0}
IsSmallStep NotTaken = Unit {0}
IsSmallStep (Target address) = IsSmall address

-- the status is a byte, where there is one
abbrev pub IsByteStatus : Graph → LeafEnd → Type 0
IsByteStatus graph (Exits status) = width_of graph status ≡ 8
IsByteStatus graph (Traps trap) = Unit {0}
IsByteStatus graph (Cut cause) = Unit {0}

-- the terms are bytes
abbrev pub AreBytes : Graph → List ℕ → Type 0
AreBytes graph ids = All (λ id. width_of graph id ≡ 8) ids

-- A leaf in full: its terms fit, its assertions are bits, its status and its outputs are bytes, and every number is below 2 ^ 32,
-- the count of its terms below 2 ^ 64.
pub record IsFull (leaf : Leaf) : Type 0 where
  pub is_dag : IsDag leaf.condition.graph
  pub bits : AreBits leaf.condition.graph leaf.condition.asserted
  pub status : IsByteStatus leaf.condition.graph leaf.end
  pub bytes : AreBytes leaf.condition.graph leaf.outputs
  pub small_choices : All IsSmallChoice leaf.choices
  pub small_path : All IsSmallStep leaf.path
  pub few_steps : IsSmall leaf.steps
  pub few_inputs : IsSmall leaf.condition.graph.inputs
  pub few_nodes : IsCount (length leaf.condition.graph.nodes)
  pub few_outputs : IsSmall (length leaf.outputs)
