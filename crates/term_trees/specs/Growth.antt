-- A graph to which terms were added.
use Rattle.std.specs.Prelude.{◌≡◌, length, take}
use Rattle.bv_dag.specs.Graphs.{Graph}

-- The new graph is the old one with nodes behind it, so every term that was there is as it was.
pub record Continues (old new : Graph) : Type 0 where
  pub inputs : new.inputs ≡ old.inputs
  pub front : take (length old.nodes) new.nodes ≡ old.nodes
