-- What a leaf says of the runs of the assignments that it covers.
use Rattle.std.specs.Prelude.{◌≡◌, ℕ, ◌<◌, ◌≤◌, List, IsTrue, map, Option, None, Some}
use Rattle.elf_load.specs.Images.{Image}
use Rattle.elf_load.specs.declared.region.Region.{Region}
use Rattle.rv_decode.specs.declared.ends.End.{End}
use Rattle.rv_decode.specs.declared.ends.End.TheVariants.{Exit, Trapped}
use Rattle.rv_spec.specs.Memory.{IsAssignment}
use Rattle.rv_spec.specs.Runs.{run, IsRunOf}
use Rattle.tree_core.specs.declared.cause.Cause.TheVariants.{Steps, Targets, Conflicts, Nodes}
use Rattle.fork_spec.specs.Leaves.{Leaf, covers, worth}
use Rattle.fork_spec.specs.declared.end.LeafEnd.{LeafEnd}
use Rattle.fork_spec.specs.declared.end.LeafEnd.TheVariants.{Exits, Traps, Cut}

-- how the run of an assignment is said to end, and none where it is cut
abbrev pub end_on : Leaf → List ℕ → LeafEnd → Option End
end_on leaf input (Exits status) = Some (Exit (worth leaf input status))
end_on leaf input (Traps trap) = Some (Trapped trap)
end_on leaf input (Cut cause) = None

-- the steps are within the budget: all of it where a leaf was cut for its steps, and not all where it was cut for another cause
abbrev pub AreWithin : (most steps : ℕ) → LeafEnd → Type 0
AreWithin most steps (Exits status) = steps ≤ most
AreWithin most steps (Traps trap) = steps ≤ most
AreWithin most steps (Cut Steps) = steps ≡ most
AreWithin most steps (Cut Targets) = steps < most
AreWithin most steps (Cut Conflicts) = steps < most
AreWithin most steps (Cut Nodes) = steps < most

-- the run of each assignment that the leaf covers is as the leaf says
pub record IsFaithful (image : Image) (regions : List Region) (most : ℕ)
    (leaf : Leaf) : Type 0 where
  pub within : AreWithin most leaf.steps leaf.end
  pub runs : (input : List ℕ) → IsAssignment regions input → IsTrue (covers leaf input) →
      IsRunOf (run image regions input leaf.steps) leaf.steps leaf.path (end_on leaf input leaf.end)
      (map (worth leaf input) leaf.outputs)
