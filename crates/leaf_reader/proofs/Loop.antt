-- The loop over a text, line after line, and the line at which a text is refused.
use Rattle.std.proofs.Common.{◌≡◌, ◌≢◌, ◌∙◌, inl, inr, ℕ, ◌+◌, ◌*◌, ◌<◌, ◌≤◌, Bool, true, false, List, [], ◌∷◌, ◌++◌, length, None, Some, option_map, refl, sym, ap, subst, arith, append_assoc, append-nil, length-append}
use Rattle.std.specs.Prelude.{if◌then◌else◌}
use Rattle.std.proofs.lemmas.Grind.{flat_map-append}
use Rattle.std.proofs.lemmas.Option.{none-some, same_Some}
use Rattle.fork_spec.specs.Leaves.{IsFull, Leaf}
use Rattle.smt_text.specs.Grammar.{Reading, next_state, read_lines, stands, start, with_line, IsWhole}
use Rattle.smt_text.specs.LeafLines.{leaf_lines, leaf_text}
use Rattle.smt_text.specs.LineReading.{line_at, next_line}
use Rattle.smt_text.specs.Lines.{LeafLine, FormatLine, KindLine, ChoicesLine, PathLine, StepsLine, EndLine, InputsLine, NodesLine, OutputsLine, LogicLine, InputLine, BaseLine, NodeLine, StatusLine, OutputLine, AssertLine, CheckLine, ExitLine, line_text, lines_text}
use Rattle.smt_text.specs.Phases.{IsSoundReading}
use Rattle.leaf_reader.specs.Refusals.{BeginsWithNone, GoesOnOtherwise, IsRefusedAt}
use Rattle.smt_text.specs.declared.spot.Spot.{Spot}
use Rattle.smt_text.specs.declared.spot.Spot.TheVariants.{Closed}
use Rattle.smt_text.proofs.LinesBack.{line_back}
use Rattle.leaf_reader.proofs.LinesFrom.{from_line}
use Rattle.smt_text.proofs.OneReading.{no_empty_line, stood}
use Rattle.text_parts.proofs.Options.{map_from, then_from}
use Rattle.smt_text.proofs.Phases.{kept}
use Rattle.smt_text.proofs.Whole.{reached, sound_start}
use Rattle.smt_text.proofs.Reading.{all_read, ended}

-- ---- one line

-- the line that was taken
pub record TookLine (r : Reading) (text : List ℕ) (s : Reading) (rest : List ℕ) : Type 0 where
  pub line : LeafLine
  pub may : stands r.place r line ≡ true
  pub with : s ≡ with_line r line
  pub begins : text ≡ line_text line ++ rest

stood_one : (r : Reading) (line : LeafLine) (s : Reading) → next_state r line ≡ Some s →
    (stands r.place r line ≡ true) × (s ≡ with_line r line)
unfolding next_state
stood_one r line s h = go (stands r.place r line) refl h
  where
    go : (b : Bool) → stands r.place r line ≡ b → (if b then Some (with_line r line) else None) ≡ Some s →
        (stands r.place r line ≡ true) × (s ≡ with_line r line)
    go true is h = (is, sym (same_Some (with_line r line) s h))
    go false is h = cc

pub took_line : (r : Reading) (text : List ℕ) (s : Reading) (rest : List ℕ) → next_line r text ≡ Some (s, rest) →
    TookLine r text s rest
unfolding next_line
took_line r text s rest h =
    let a = then_from (λ ((line, more) : LeafLine × List ℕ). option_map (λ (next : Reading). (next, more)) (next_state r line)) (line_at r.place text) (s, rest) h in
    let b = map_from (λ (next : Reading). (next, a.0.1)) (next_state r a.0.0) (s, rest) a.2 in
    let one = stood_one r a.0.0 b.0 b.1 in
    record {
      line = a.0.0;
      may = one.0;
      with = sym (ap (λ (p : Reading × List ℕ). p.0) b.2) ∙ one.1;
      begins = from_line r.place text a.0.0 a.0.1 a.1 ∙ ap (λ (p : Reading × List ℕ). line_text a.0.0 ++ p.1) b.2;
    }

next_is : (r : Reading) (line : LeafLine) (more : List ℕ) → IsSoundReading r → stands r.place r line ≡ true →
    next_line r (line_text line ++ more) ≡ Some (with_line r line, more)
unfolding next_line next_state
next_is r line more sound may = rw (line_back r.place r line more sound.0 sound.1 may, may) refl

-- where none was taken, none may stand
pub took_none : (r : Reading) (text : List ℕ) → IsSoundReading r → next_line r text ≡ None → BeginsWithNone r text
took_none r text sound none line more may e =
    none-some (with_line r line, more) (sym none ∙ ap (next_line r) e ∙ next_is r line more sound may)

pub none_when_closed : (r : Reading) (text : List ℕ) → r.place ≡ Closed → next_line r text ≡ None
unfolding next_line
none_when_closed r text here =
    let e : line_at r.place text ≡ None = ap (λ (p : Spot). line_at p text) here in
    rw e refl

-- ---- lines that stand

read_more : (r s : Reading) (lines : List LeafLine) (line : LeafLine) → read_lines r lines ≡ Some s →
    stands s.place s line ≡ true → read_lines r (lines ++ line ∷ []) ≡ Some (with_line s line)
unfolding read_lines next_state
read_more r s [] line h may =
    let same : r ≡ s = same_Some r s h in
    let here : stands r.place r line ≡ true = ap (λ (q : Reading). stands q.place q line) same ∙ may in
    rw here (ap (λ (q : Reading). Some (with_line q line)) same)
read_more r s (first ∷ lines) line h may =
    let one = stood r first lines s h in
    rw one.0 (read_more (with_line r first) s lines line one.1 may)

-- each line has two bytes or more
two_bytes : (line : LeafLine) → 2 ≤ length (line_text line)
two_bytes FormatLine = omega arith
two_bytes (KindLine kind) = omega arith
two_bytes (ChoicesLine choices) = omega arith
two_bytes (PathLine path) = omega arith
two_bytes (StepsLine steps) = omega arith
two_bytes (EndLine word) = omega arith
two_bytes (InputsLine n) = omega arith
two_bytes (NodesLine n) = omega arith
two_bytes (OutputsLine n) = omega arith
two_bytes LogicLine = omega arith
two_bytes (InputLine i) = omega arith
two_bytes BaseLine = omega arith
two_bytes (NodeLine id width node) = omega arith
two_bytes (StatusLine id) = omega arith
two_bytes (OutputLine i id) = omega arith
two_bytes (AssertLine id) = omega arith
two_bytes CheckLine = omega arith
two_bytes ExitLine = omega arith

-- ---- the loop

-- so many lines were read, which may stand, and the rest is left
pub record HasRead (text : List ℕ) (reading : Reading) (count : ℕ) (rest : List ℕ) : Type 0 where
  pub lines : List LeafLine
  pub all_stand : read_lines start lines ≡ Some reading
  pub split : text ≡ lines_text lines ++ rest
  pub counted : count ≡ length lines
  pub room : 2 * count + length rest ≤ length text

pub read_none : (text : List ℕ) (r : Reading) → r ≡ start → HasRead text r 0 text
unfolding read_lines lines_text
read_none text r is = record {
  lines = [];
  all_stand = ap Some (sym is);
  split = refl;
  counted = refl;
  room = omega arith;
}

pub shorter : (r : Reading) (text : List ℕ) (s : Reading) (rest : List ℕ) → next_line r text ≡ Some (s, rest) →
    2 + length rest ≤ length text
shorter r text s rest h =
    let took = took_line r text s rest h in
    omega (arith, ap length took.begins, length-append (line_text took.line) rest, two_bytes took.line)

pub read_one_more : (text : List ℕ) (r : Reading) (count : ℕ) (rest : List ℕ) (s : Reading) (more : List ℕ) →
    HasRead text r count rest → next_line r rest ≡ Some (s, more) → HasRead text s (count + 1) more
unfolding lines_text
read_one_more text r count rest s more has h =
    let took = took_line r rest s more h in
    record {
      lines = has.lines ++ took.line ∷ [];
      all_stand = read_more start r has.lines took.line has.all_stand took.may ∙ ap Some (sym took.with);
      split = has.split ∙ ap (λ t. lines_text has.lines ++ t) took.begins
          ∙ sym (append_assoc (lines_text has.lines) (line_text took.line) more)
          ∙ ap (λ t. t ++ more) (ap (λ t. lines_text has.lines ++ t) (sym (append-nil (line_text took.line))) ∙ sym (flat_map-append line_text has.lines (took.line ∷ [])));
      counted = omega (arith, has.counted, length-append has.lines (took.line ∷ []));
      room = omega (arith, has.room, shorter r rest s more h);
    }

pub sound_so_far : (text : List ℕ) (r : Reading) (count : ℕ) (rest : List ℕ) → HasRead text r count rest → IsSoundReading r
sound_so_far text r count rest has = reached start r has.lines sound_start has.all_stand

pub refused_here : (text : List ℕ) (r : Reading) (count : ℕ) (rest : List ℕ) → HasRead text r count rest → 0 < length rest →
    next_line r rest ≡ None → IsRefusedAt text (count + 1)
refused_here text r count rest has some none = record {
  lines = has.lines;
  rest = rest;
  split = has.split;
  reading = r;
  all_stand = has.all_stand;
  nth = omega (arith, has.counted);
  why = inr (λ is. absurd (omega (arith, some, ap length is)), took_none r rest (sound_so_far text r count rest has) none);
}

nil : (rest : List ℕ) → length rest ≡ 0 → rest ≡ []
nil [] none = refl
nil (c ∷ rest) none = absurd (omega (arith, none))

pub refused_early : (text : List ℕ) (r : Reading) (count : ℕ) (rest : List ℕ) → HasRead text r count rest → length rest ≡ 0 →
    r.place ≢ Closed → IsRefusedAt text (count + 1)
refused_early text r count rest has none open_yet = record {
  lines = has.lines;
  rest = rest;
  split = has.split;
  reading = r;
  all_stand = has.all_stand;
  nth = omega (arith, has.counted);
  why = inl (nil rest none, open_yet);
}

pub read_whole : (text : List ℕ) (r : Reading) (count : ℕ) (rest : List ℕ) → HasRead text r count rest → length rest ≡ 0 →
    r.place ≡ Closed → IsWhole text r
read_whole text r count rest has none closed = record {
  lines = has.lines;
  all_stand = has.all_stand;
  is_theirs = has.split ∙ ap (λ t. lines_text has.lines ++ t) (nil rest none) ∙ append-nil (lines_text has.lines);
  to_the_end = closed;
}

-- ---- no full leaf's text is refused

-- what is left of lines behind the first of them
left_over : (r s t : Reading) (lines all : List LeafLine) (rest : List ℕ) → IsSoundReading r → read_lines r lines ≡ Some s →
    read_lines r all ≡ Some t → lines_text all ≡ lines_text lines ++ rest →
    (left : List LeafLine) × (read_lines s left ≡ Some t) × (rest ≡ lines_text left)
unfolding read_lines lines_text
left_over r s t [] all rest sound one whole e =
    (all, ap (λ (q : Reading). read_lines q all) (sym (same_Some r s one)) ∙ whole, sym e)
left_over r s t (line ∷ lines) [] rest sound one whole e =
    no_empty_line r line (lines_text lines ++ rest) sound.0 sound.1 (stood r line lines s one).0
    (e ∙ append_assoc (line_text line) (lines_text lines) rest)
left_over r s t (line ∷ lines) (first ∷ all) rest sound one whole e =
    let here = stood r line lines s one in
    let there = stood r first all t whole in
    let text : line_text first ++ lines_text all ≡ line_text line ++ (lines_text lines ++ rest) =
    e ∙ append_assoc (line_text line) (lines_text lines) rest in
    let read : Some (first, lines_text all) ≡ Some (line, lines_text lines ++ rest) =
    sym (line_back r.place r first (lines_text all) sound.0 sound.1 there.0) ∙ ap (line_at r.place) text
    ∙ line_back r.place r line (lines_text lines ++ rest) sound.0 sound.1 here.0 in
    let pair = same_Some (first, lines_text all) (line, lines_text lines ++ rest) read in
    let same : first ≡ line = ap (λ (p : LeafLine × List ℕ). p.0) pair in
    left_over (with_line r line) s t lines all rest (kept r.place r line sound.0 sound.1 refl here.0) here.1
    (subst (λ (l : LeafLine). read_lines (with_line r l) all ≡ Some t) same there.1) (ap (λ (p : LeafLine × List ℕ). p.1) pair)

closed_when_none_left : (s t : Reading) (left : List LeafLine) (rest : List ℕ) → IsSoundReading s → read_lines s left ≡ Some t →
    rest ≡ lines_text left → rest ≡ [] → t.place ≡ Closed → s.place ≡ Closed
unfolding read_lines lines_text
closed_when_none_left s t [] rest sound h e none closed = ap (λ (q : Reading). q.place) (same_Some s t h) ∙ closed
closed_when_none_left s t (line ∷ left) rest sound h e none closed =
    no_empty_line s line (lines_text left) sound.0 sound.1 (stood s line left t h).0 (sym none ∙ e)

goes_on : (s t : Reading) (left : List LeafLine) (rest : List ℕ) → read_lines s left ≡ Some t → rest ≡ lines_text left →
    GoesOnOtherwise s rest → ⊥
unfolding lines_text
goes_on s t [] rest h e otherwise = otherwise.0 e
goes_on s t (line ∷ left) rest h e otherwise = otherwise.1 line (lines_text left) (stood s line left t h).0 e

pub never_refused : (text : List ℕ) (n : ℕ) (leaf : Leaf) → IsRefusedAt text n → IsFull leaf → text ≡ leaf_text leaf → ⊥
unfolding leaf_text
never_refused text n leaf refused full e =
    let left = left_over start refused.reading (ended leaf) refused.lines (leaf_lines leaf) refused.rest sound_start refused.all_stand (all_read leaf full) (sym e ∙ refused.split) in
    let sound = reached start refused.reading refused.lines sound_start refused.all_stand in
    elim refused.why [
      | inl early ↦ early.1 (closed_when_none_left refused.reading (ended leaf) left.0 refused.rest sound left.1 left.2 early.0 refl)
      | inr otherwise ↦ goes_on refused.reading (ended leaf) left.0 refused.rest left.1 left.2 otherwise
    ]
