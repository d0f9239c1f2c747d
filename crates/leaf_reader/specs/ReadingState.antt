-- What a reader of leaf texts holds, as the grammar has it, and what it does with a line.
use Rattle.std.specs.Prelude.{◌≡◌, ℕ, Bool, true, false, List, Option, None, Some}
use Rattle.smt_text.specs.Grammar.{Reading, behind_nodes, stands, with_line}
use Rattle.smt_text.specs.LineReading.{kind_said, next_line}
use Rattle.smt_text.specs.Lines.{LeafLine, NodeLine}
use Rattle.smt_text.specs.declared.spot.Spot.TheVariants.{AmongNodes}
use Rattle.leaf_reader.specs.declared.take_terms.NodeSaid.{NodeSaid}
use Rattle.leaf_reader.specs.declared.leaf_reading.LeafReading.{LeafReading}

-- what was read
abbrev pub reading_of : LeafReading → Reading
reading_of s = record {
  place = s.place;
  kind = kind_said s.kind;
  choices = s.choices.items;
  path = s.path.items;
  steps = s.steps;
  end = s.end;
  inputs = s.dag.inputs;
  node_count = s.node_count;
  output_count = s.output_count;
  declared = s.declared;
  nodes = s.dag.nodes;
  outputs = s.outputs.items;
  asserted = s.asserted.items;
}

-- no line that may stand was found; or one, and this is what is read with it, and what is behind it
abbrev pub IsNextLine : (old : Reading) (text : List ℕ) (new : Reading) → Option (List ℕ) → Type 0
IsNextLine old text new None = next_line old text ≡ None
IsNextLine old text new (Some rest) = next_line old text ≡ Some (new, rest)

-- the line of a node, by its number, its width and the node
abbrev pub line_said : NodeSaid → LeafLine
line_said said = NodeLine said.id said.width said.node

-- whether the line may stand, where it is read with it
abbrev pub IsPushed : Reading → LeafLine → Reading → Bool → Type 0
IsPushed old line new true = (stands AmongNodes old line ≡ true)
    × (record new { place = behind_nodes new } ≡ with_line old line)
IsPushed old line new false = stands AmongNodes old line ≡ false
