use Rattle.std.proofs.Common.{rules, arith, ◌≡◌, ◌<◌, subst, length, List, ℕ, Option, None, Some, option_map, Bor}
use Rattle.smt_text.specs.LineReading.{next_line}
use Rattle.leaf_reader.specs.ReadingState.{IsNextLine, reading_of}
use Rattle.leaf_reader.proofs.Loop.{read_none, read_one_more, refused_here, shorter, sound_so_far}
use Rattle.leaf_reader.proofs.leaf_reader.take_lines.Goals as goal

pub lines-init : goal.lines-init
lines-init c = read_none c.args.text.now (reading_of c.args.reading.now) c.requires

pub take_line-requires : goal.take_line-requires
take_line-requires c =
    sound_so_far c.args.text.now (reading_of c.lines.reading) c.lines.lines c.lines.rest.now c.lines.invariant

pub lines-preserved : goal.lines-preserved
lines-preserved c =
    let next : next_line (reading_of c.lines.reading) c.lines.rest.now ≡ Some (reading_of c.take_line.new.self, c.in-Some.more.now) =
    subst (λ (o : Option (Bor (List ℕ))). IsNextLine (reading_of c.lines.reading) c.lines.rest.now (reading_of c.take_line.new.self) (option_map (λ r. r.now) o)) c.in-Some.is c.in_ok-more.ensures in
    read_one_more c.args.text.now (reading_of c.lines.reading) c.lines.lines c.lines.rest.now (reading_of c.take_line.new.self) c.in-Some.more.now c.lines.invariant next

pub lines-smaller : goal.lines-smaller
lines-smaller c =
    let next : next_line (reading_of c.lines.reading) c.lines.rest.now ≡ Some (reading_of c.take_line.new.self, c.in-Some.more.now) =
    subst (λ (o : Option (Bor (List ℕ))). IsNextLine (reading_of c.lines.reading) c.lines.rest.now (reading_of c.take_line.new.self) (option_map (λ r. r.now) o)) c.in-Some.is c.in_ok-more.ensures in
    omega (arith, shorter (reading_of c.lines.reading) c.lines.rest.now (reading_of c.take_line.new.self) c.in-Some.more.now next)

pub returns-in_default-clause-refused : goal.returns-in_default-clause-refused
returns-in_default-clause-refused c =
    let none : next_line (reading_of c.lines.reading) c.lines.rest.now ≡ None =
    subst (λ (o : Option (Bor (List ℕ))). IsNextLine (reading_of c.lines.reading) c.lines.rest.now (reading_of c.take_line.new.self) (option_map (λ r. r.now) o)) c.in_default.is c.in_ok-more.ensures in
    let some : 0 < length c.lines.rest.now = search (rules, arith, c.lines-test.true) in
    refused_here c.args.text.now (reading_of c.lines.reading) c.lines.lines c.lines.rest.now c.lines.invariant some none
