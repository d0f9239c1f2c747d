use Rattle.std.proofs.Common.{rules, ◌≡◌, Some, codes}
use Rattle.std.specs.Prelude.{option_and_then}
use Rattle.text_parts.specs.Items.{all_steps}
use Rattle.text_parts.specs.Pieces.{behind}
use Rattle.leaf_reader.specs.ReadingState.{reading_of}
use Rattle.leaf_reader.proofs.NextLines.{next_path}
use Rattle.leaf_reader.proofs.leaf_reading.LeafReading.take_path.Goals as goal

pub returns : goal.returns
returns c =
    let read : option_and_then all_steps (behind (codes "; path ") c.args.text.now) ≡ Some (c.in-Some-2.path.items, c.in-Some-2.rest.now) = search rules in
    next_path (reading_of c.args.self.now) c.args.text.now c.in-Some-2.path.items c.in-Some-2.rest.now c.requires read
