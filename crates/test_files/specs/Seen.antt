-- What the code's values stand for.
use Rattle.std.specs.Prelude.{List, map}
use Rattle.test_files.specs.Inputs as inputs
use Rattle.test_files.specs.Reading as spec
use Rattle.test_files.specs.Tests as tests
use Rattle.test_files.specs.declared.inputs.Filled.{Filled}
use Rattle.test_files.specs.declared.inputs.Inputs.{Inputs}
use Rattle.test_files.specs.declared.inputs.Inputs.TheVariants.{Joined, Apart}
use Rattle.test_files.specs.declared.inputs.Item.{Item}
use Rattle.test_files.specs.declared.inputs.Laid.{Laid}
use Rattle.test_files.specs.declared.said.Said.{Said}

abbrev pub item_seen : Item → inputs.Item
item_seen item = record { start = item.start; digits = item.digits.now }

abbrev pub inputs_seen : Inputs → inputs.Inputs
inputs_seen (Joined regions digits) = inputs.joined regions.items digits.now
inputs_seen (Apart items) = inputs.apart (map item_seen items.items)

abbrev pub filled_seen : Filled → tests.Filled
filled_seen region = record { start = region.start; bytes = region.bytes.items }

abbrev pub all_seen : List Filled → List tests.Filled
all_seen regions = map filled_seen regions

abbrev pub laid_seen : Laid → inputs.Laid
laid_seen laid = record { regions = laid.regions.items; input = laid.input.items }

abbrev pub said_seen : Said → spec.Said
said_seen said = record {
  end = said.end;
  inputs = inputs_seen said.inputs;
  leaf = said.leaf;
  output = said.output.now;
  path = said.path.items;
  steps = said.steps;
}
