use Rattle.std.proofs.Common.{rules, ◌≡◌, Some, codes, refl}
use Rattle.std.specs.Prelude.{option_and_then}
use Rattle.smt_text.specs.LineReading.{end_said, end_word}
use Rattle.text_parts.specs.Pieces.{behind}
use Rattle.leaf_reader.specs.ReadingState.{reading_of}
use Rattle.leaf_reader.proofs.NextLines.{next_end}
use Rattle.leaf_reader.proofs.leaf_reading.LeafReading.take_end.Goals as goal

pub returns : goal.returns
returns c =
    let read : option_and_then end_word (behind (codes "; end ") c.args.text.now) ≡ Some (c.in_ok-said.said, c.in_ok-said.rest.now) = search rules in
    let end : end_said c.args.self.now.kind c.in_ok-said.said ≡ Some c.in_ok-self.field-0 = search rules in
    next_end (reading_of c.args.self.now) c.args.self.now.kind c.args.text.now c.in_ok-said.said c.in_ok-self.field-0 c.in_ok-said.rest.now c.requires refl read end
