-- The leaf that a run becomes where it is left.
use Rattle.std.specs.Prelude.{◌≡◌, ℕ, ◌<◌, List, All, length, map}
use Rattle.bv_dag.specs.Graphs.{Graph, IsDag, number_of}
use Rattle.cow_pages.specs.declared.byte.Byte.{Byte}
use Rattle.fork_spec.specs.Leaves.{AreBytes, IsCount, IsSmall, Leaf}
use Rattle.fork_spec.specs.declared.end.LeafEnd.{LeafEnd}
use Rattle.sym_state.specs.Symbolic.{Symbolic}
use Rattle.sym_state.specs.Values.{byte_worth}
use Rattle.run_leaves.specs.Copies.{AreCopies}
use Rattle.run_leaves.specs.declared.leaf.LeafTerms.{LeafTerms}

-- terms of 8 bits that are worth what these bytes are
pub record AreTermsOfBytes (old : Graph) (bytes : List Byte) (new : Graph)
    (ids : List ℕ) : Type 0 where
  pub eight_bits : AreBytes new ids
  pub worth : (input : List ℕ) → All (λ b. b < 256) input
      → map (λ id. number_of new id input) ids ≡ map (byte_worth old input) bytes

-- the terms of a run's condition, and of what it has written, as a leaf has them
pub record HasTerms (s : Symbolic) (t : LeafTerms) : Type 0 where
  pub is_dag : IsDag t.condition.graph
  pub few_nodes : IsCount (length t.condition.graph.nodes)
  pub condition : AreCopies s.terms s.condition t.condition.graph t.condition.asserted
  pub outputs : AreTermsOfBytes s.terms s.output t.condition.graph t.outputs.items

-- the terms of a run's condition, and these
pub record IsPicked (s : Symbolic) (written besides : List ℕ) (t : LeafTerms) : Type 0 where
  pub is_dag : IsDag t.condition.graph
  pub few_nodes : IsCount (length t.condition.graph.nodes)
  pub condition : AreCopies s.terms s.condition t.condition.graph t.condition.asserted
  pub outputs : AreCopies s.terms written t.condition.graph t.outputs.items
  pub more : AreCopies s.terms besides t.condition.graph t.more.items

-- a leaf's texts have room for the numbers of its input and its output bytes
pub record HasTextRoom (s : Symbolic) : Type 0 where
  pub few_inputs : IsSmall s.terms.inputs
  pub few_outputs : IsSmall (length s.output)

-- the leaf of a run that is left where it is
abbrev pub left_as : Symbolic → LeafTerms → LeafEnd → Leaf
left_as s t end = record {
  choices = s.choices;
  path = s.path;
  steps = s.steps;
  end = end;
  condition = t.condition;
  outputs = t.outputs.items;
}
