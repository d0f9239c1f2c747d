-- A leaf with what shows it, and when it is right.
use Rattle.std.specs.Prelude.{◌≡◌, ◌≤◌, ℕ, List, Option, Some, None}
use Rattle.elf_load.specs.Images.{Image}
use Rattle.elf_load.specs.declared.region.Region.{Region}
use Rattle.rv_spec.specs.Memory.{count_of}
use Rattle.tree_core.specs.declared.budgets.Budgets.{Budgets}
use Rattle.tree_core.specs.declared.cause.Cause.TheVariants.{Conflicts, Nodes, Steps, Targets}
use Rattle.tree_core.specs.declared.choice.Choice.{Choice}
use Rattle.fork_spec.specs.Evidence.{IsSample, Learnt, Spent, SpendsConflicts, SpendsTargets}
use Rattle.fork_spec.specs.Leaves.{IsFull, Leaf}
use Rattle.fork_spec.specs.Partings.{DecidesAlike}
use Rattle.fork_spec.specs.Runs.{IsFaithful}
use Rattle.fork_spec.specs.declared.end.LeafEnd.{LeafEnd}
use Rattle.fork_spec.specs.declared.end.LeafEnd.TheVariants.{Exits, Traps, Cut}

-- what shows the budget that was spent on a leaf
pub data Evidence : Type 0 where
  -- the values on which the budget of targets was spent
  OnTargets : Spent → Evidence
  -- the question on which the budget of conflicts was spent
  OnConflicts : Learnt → Evidence
  -- how many nodes there were where the leaf was cut for want of them
  OnNodes : ℕ → Evidence

-- a leaf, an assignment that it covers, and what shows the budget that was spent, where steps alone don't
pub record Part : Type 0 where
  pub leaf : Leaf
  pub sample : Option (List ℕ)
  pub evidence : Option Evidence

-- A leaf is shown: by a sample, and where it was cut by targets by the values too. One that is cut by conflicts has no
-- sample: it is shown by the question. Nor has one that is cut by nodes: it is shown by how many there were.
abbrev pub Shows : List Region → Budgets → (sides : List Choice) → (nodes : Option ℕ) → Leaf
    → LeafEnd → Option (List ℕ) → Option Evidence → Type 0
Shows regions budgets sides nodes leaf (Exits status) (Some sample) None = IsSample regions leaf sample
Shows regions budgets sides nodes leaf (Traps trap) (Some sample) None = IsSample regions leaf sample
Shows regions budgets sides nodes leaf (Cut Steps) (Some sample) None = IsSample regions leaf sample
Shows regions budgets sides nodes leaf (Cut Targets) (Some sample) (Some (OnTargets spent)) =
    IsSample regions leaf sample × SpendsTargets regions budgets.targets sides leaf spent
Shows regions budgets sides nodes leaf (Cut Conflicts) None (Some (OnConflicts learnt)) =
    SpendsConflicts regions budgets.conflicts leaf learnt
Shows regions budgets sides (Some count) leaf (Cut Nodes) None (Some (OnNodes shown)) =
    (shown ≡ count) × (budgets.nodes ≤ count)
Shows regions budgets sides nodes leaf _ _ _ = ⊥

-- A leaf is right, within these budgets, as a side of a fork with these choices, of none where it is no kid, and where there were so
-- many nodes when it was cut for want of them, if it was: it is one in full, over the bytes of the regions; its runs are as it
-- says, and decide alike; and it is shown.
pub record IsRight (image : Image) (regions : List Region) (budgets : Budgets) (sides : List Choice)
    (nodes : Option ℕ) (part : Part) : Type 0 where
  pub full : IsFull part.leaf
  pub inputs : part.leaf.condition.graph.inputs ≡ count_of regions
  pub faithful : IsFaithful image regions budgets.steps part.leaf
  pub alike : DecidesAlike image regions part.leaf
  pub shown : Shows regions budgets sides nodes part.leaf part.leaf.end part.sample part.evidence
