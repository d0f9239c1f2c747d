use Rattle.std.proofs.Common.{rules, ◌≡◌, ◌∙◌, ap, sym, subst, None, Some}
use Rattle.smt_text.specs.Grammar.{Reading}
use Rattle.smt_text.specs.LineReading.{line_at}
use Rattle.leaf_reader.specs.ReadingState.{IsPushed, line_said, reading_of}
use Rattle.smt_text.specs.declared.spot.Spot.{Spot}
use Rattle.smt_text.specs.declared.spot.Spot.TheVariants.{AmongNodes}
use Rattle.leaf_reader.proofs.NextLines.{next_none, next_refused, next_some}
use Rattle.leaf_reader.proofs.leaf_reading.LeafReading.take_node.Goals as goal

pub returns-in_default : goal.returns-in_default
returns-in_default c =
    let read : line_at AmongNodes c.args.text.now ≡ None = search rules in
    next_none AmongNodes (reading_of c.args.self.now) c.args.text.now c.requires read

pub returns-then-not-branch : goal.returns-then-not-branch
returns-then-not-branch c =
    let read : line_at AmongNodes c.args.text.now ≡ Some (line_said c.in-Some.said, c.in-Some.rest.now) = search rules in
    next_refused AmongNodes (reading_of c.args.self.now) c.args.text.now (line_said c.in-Some.said) c.in-Some.rest.now c.requires read
    (subst (IsPushed (reading_of c.args.self.now) (line_said c.in-Some.said) (reading_of c.push_node.new.self)) c.if-not-branch.true c.in_ok-push_node.ensures)

pub returns : goal.returns
returns c =
    let read : line_at AmongNodes c.args.text.now ≡ Some (line_said c.in-Some.said, c.in-Some.rest.now) = search rules in
    let pushed = subst (IsPushed (reading_of c.args.self.now) (line_said c.in-Some.said) (reading_of c.push_node.new.self)) c.if-not-branch.false c.in_ok-push_node.ensures in
    let new = reading_of c.push_node.new.self in
    next_some AmongNodes (reading_of c.args.self.now) c.args.text.now (line_said c.in-Some.said) c.in-Some.rest.now c.requires read pushed.0
    ∙ ap (λ (s : Reading). Some (s, c.in-Some.rest.now)) (sym pushed.1)
    ∙ ap (λ (p : Spot). Some (record new { place = p }, c.in-Some.rest.now)) (sym c.behind_nodes-self.ensures)
