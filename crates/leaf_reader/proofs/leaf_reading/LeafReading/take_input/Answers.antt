use Rattle.std.proofs.Common.{arith, ◌≡◌, ◌∙◌, ◌+◌, ap, sym, Some, codes, refl}
use Rattle.text_parts.specs.Pieces.{behind, one}
use Rattle.std.proofs.lemmas.Bool.{eq-eqb}
use Rattle.smt_text.specs.LineReading.{line_at}
use Rattle.smt_text.specs.Lines.{InputLine}
use Rattle.leaf_reader.specs.ReadingState.{reading_of}
use Rattle.smt_text.specs.declared.spot.Spot.{Spot}
use Rattle.smt_text.specs.declared.spot.Spot.TheVariants.{AmongInputs}
use Rattle.leaf_reader.proofs.NextLines.{next_some}
use Rattle.leaf_reader.proofs.leaf_reading.LeafReading.take_input.Goals as goal

pub overflow_add-self : goal.overflow_add-self
overflow_add-self c = omega (arith, c.requires.more, c.requires.few)

pub returns : goal.returns
returns c =
    let r = reading_of c.args.self.now in
    let word : Some c.in_ok-behind.field-0.now ≡ behind (codes "(declare-fun b") c.args.text.now = c.in_ok-behind.ensures in
    let number : Some (c.in_ok-i.i, c.in_ok-i.rest.now) ≡ one (codes " () (_ BitVec 8))\n") c.in_ok-behind.field-0.now = c.in_ok-i.ensures in
    let read : line_at AmongInputs c.args.text.now ≡ Some (InputLine c.in_ok-i.i, c.in_ok-i.rest.now) = rw (sym word, sym number) refl in
    next_some AmongInputs (reading_of c.args.self.now) c.args.text.now (InputLine c.in_ok-i.i) c.in_ok-i.rest.now c.requires.here read
    (eq-eqb c.in_ok-i.i c.args.self.now.declared c.if-i-self.false)
    ∙ ap (λ (p : Spot). Some (record r { declared = r.declared + 1; place = p }, c.in_ok-i.rest.now)) (sym c.behind_inputs-self.ensures)
