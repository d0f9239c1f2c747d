-- A text has one reading: that of a leaf, and that of a question behind whose text something stands.
use Rattle.std.proofs.Common.{◌≡◌, ◌∙◌, ℕ, Bool, true, false, List, [], ◌∷◌, ◌++◌, None, Some, refl, sym, ap, subst, append_assoc, arith}
use Rattle.std.specs.Prelude.{if◌then◌else◌, length, option_and_then}
use Rattle.std.specs.List.{flat_map}
use Rattle.std.proofs.lemmas.Grind.{flat_map-append}
use Rattle.std.proofs.lemmas.List.{append-nil}
use Rattle.std.proofs.lemmas.List.Elements.{All-nil}
use Rattle.std.proofs.lemmas.Option.{none-some, same_Some}
use Rattle.bv_dag.specs.Graphs.{width_of}
use Rattle.bv_dag.specs.Queries.{Condition}
use Rattle.tree_core.specs.declared.cause.Cause.TheVariants.{Steps}
use Rattle.fork_spec.specs.Evidence.{IsQuestion}
use Rattle.fork_spec.specs.Leaves.{IsFull, IsSmallStep, Leaf}
use Rattle.tree_core.specs.Choices.{IsSmallChoice}
use Rattle.fork_spec.specs.declared.end.LeafEnd.TheVariants.{Cut}
use Rattle.smt_text.specs.Grammar.{Reading, leaf_of, next_state, read_lines, stands, start, with_line}
use Rattle.smt_text.specs.LeafLines.{assertions, counts_heading, leaf_lines, leaf_text, query_lines, query_text, runs_heading, term_lines}
use Rattle.smt_text.specs.LineReading.{line_at, node_line}
use Rattle.smt_text.specs.Lines.{LeafLine, CheckLine, ExitLine, line_text, lines_text}
use Rattle.text_parts.specs.Pieces.{behind}
use Rattle.smt_text.specs.declared.spot.Spot.{Spot}
use Rattle.smt_text.specs.declared.spot.Spot.TheVariants.{AtFormat, AtKind, AtChoices, AtPath, AtSteps, AtEnd, AtInputs, AtNodes, AtOutputs, AtLogic, AmongInputs, AtBase, AmongNodes, AtStatus, AmongOutputs, AmongAssertions, AtExit, Closed}
use Rattle.smt_text.proofs.LinesBack.{line_back}
use Rattle.smt_text.specs.Phases.{Counted, IsInBounds}
use Rattle.smt_text.proofs.Phases.{Counted-start, IsWithin-start, kept}
use Rattle.smt_text.proofs.Reading.{all_read, ended}

-- the first of lines that each may stand
pub stood : (r : Reading) (line : LeafLine) (lines : List LeafLine) (s : Reading) →
    read_lines r (line ∷ lines) ≡ Some s →
    (stands r.place r line ≡ true) × (read_lines (with_line r line) lines ≡ Some s)
unfolding read_lines next_state
stood r line lines s h = go (stands r.place r line) refl h
  where
    go : (b : Bool) → stands r.place r line ≡ b →
        option_and_then (λ next. read_lines next lines) (if b then Some (with_line r line) else None) ≡ Some s →
        (stands r.place r line ≡ true) × (read_lines (with_line r line) lines ≡ Some s)
    go true is h = (is, h)
    go false is h = cc

-- no text begins with no line
pub nothing_at : (place : Spot) → line_at place [] ≡ None
unfolding behind node_line
nothing_at AtFormat = refl
nothing_at AtKind = refl
nothing_at AtChoices = refl
nothing_at AtPath = refl
nothing_at AtSteps = refl
nothing_at AtEnd = refl
nothing_at AtInputs = refl
nothing_at AtNodes = refl
nothing_at AtOutputs = refl
nothing_at AtLogic = refl
nothing_at AmongInputs = refl
nothing_at AtBase = refl
nothing_at AmongNodes = refl
nothing_at AtStatus = refl
nothing_at AmongOutputs = refl
nothing_at AmongAssertions = refl
nothing_at AtExit = refl
nothing_at Closed = refl

-- no line that may stand has an empty text
pub no_empty_line : (r : Reading) (line : LeafLine) (more : List ℕ) {X : Type 0} → IsInBounds r → Counted r.place r →
    stands r.place r line ≡ true → [] ≡ line_text line ++ more → X
no_empty_line r line more w c h e =
    absurd (none-some (line, more) (sym (nothing_at r.place) ∙ ap (line_at r.place) e ∙ line_back r.place r line more w c h))

-- no line stands behind the last one
none_behind : (r : Reading) (line : LeafLine) (more : List ℕ) {X : Type 0} → r.place ≡ Closed → IsInBounds r → Counted r.place r →
    stands r.place r line ≡ true → X
none_behind r line more closed w c h =
    let nothing : None ≡ line_at r.place (line_text line ++ more) = ap (λ (p : Spot). line_at p (line_text line ++ more)) (sym closed) in
    absurd (none-some (line, more) (nothing ∙ line_back r.place r line more w c h))

-- lines that may each stand after the same reading, up to the last, are told by their text, whatever stands behind it
pub same_lines : (r s t : Reading) (lines others : List LeafLine) (more rest : List ℕ) → IsInBounds r → Counted r.place r →
    read_lines r lines ≡ Some s → read_lines r others ≡ Some t → s.place ≡ Closed → t.place ≡ Closed →
    lines_text lines ++ more ≡ lines_text others ++ rest → (lines ≡ others) × (more ≡ rest)
unfolding lines_text read_lines
same_lines r s t [] [] more rest w c one other closed also e = (refl, e)
same_lines r s t [] (line ∷ others) more rest w c one other closed also e =
    let here : r.place ≡ Closed = ap (λ (q : Reading). q.place) (same_Some r s one) ∙ closed in
    none_behind r line rest here w c (stood r line others t other).0
same_lines r s t (line ∷ lines) [] more rest w c one other closed also e =
    let here : r.place ≡ Closed = ap (λ (q : Reading). q.place) (same_Some r t other) ∙ also in
    none_behind r line rest here w c (stood r line lines s one).0
same_lines r s t (line ∷ lines) (first ∷ others) more rest w c one other closed also e =
    let here = stood r line lines s one in
    let there = stood r first others t other in
    let text : line_text line ++ (lines_text lines ++ more) ≡ line_text first ++ (lines_text others ++ rest) =
    sym (append_assoc (line_text line) (lines_text lines) more) ∙ e ∙ append_assoc (line_text first) (lines_text others) rest in
    let read : Some (line, lines_text lines ++ more) ≡ Some (first, lines_text others ++ rest) =
    sym (line_back r.place r line (lines_text lines ++ more) w c here.0) ∙ ap (line_at r.place) text
    ∙ line_back r.place r first (lines_text others ++ rest) w c there.0 in
    let pair = same_Some (line, lines_text lines ++ more) (first, lines_text others ++ rest) read in
    let same : line ≡ first = ap (λ (p : LeafLine × List ℕ). p.0) pair in
    let tail : lines_text lines ++ more ≡ lines_text others ++ rest = ap (λ (p : LeafLine × List ℕ). p.1) pair in
    let next = kept r.place r line w c refl here.0 in
    let left : (lines ≡ others) × (more ≡ rest) =
    same_lines (with_line r line) s t lines others more rest next.0 next.1 here.1
    (subst (λ (l : LeafLine). read_lines (with_line r l) others ≡ Some t) (sym same) there.1) closed also tail in
    (ap (λ (l : LeafLine). l ∷ lines) same ∙ ap (λ (ls : List LeafLine). first ∷ ls) left.0, left.1)

-- two leaves in full whose texts begin one text are one, and the same stands behind them
leaf_before : (leaf other : Leaf) (more rest : List ℕ) → IsFull leaf → IsFull other →
    leaf_text leaf ++ more ≡ leaf_text other ++ rest → (leaf ≡ other) × (more ≡ rest)
unfolding leaf_text
leaf_before leaf other more rest full full_other e =
    let same = same_lines start (ended leaf) (ended other) (leaf_lines leaf) (leaf_lines other) more rest IsWithin-start Counted-start
    (all_read leaf full) (all_read other full_other) refl refl e in
    let readings : Some (ended leaf) ≡ Some (ended other) =
    sym (all_read leaf full) ∙ ap (read_lines start) same.0 ∙ all_read other full_other in
    (ap leaf_of (same_Some (ended leaf) (ended other) readings), same.1)

pub one_leaf : (leaf other : Leaf) → IsFull leaf → IsFull other → leaf_text leaf ≡ leaf_text other → leaf ≡ other
one_leaf leaf other full full_other e = (leaf_before leaf other [] [] full full_other (ap (λ (t : List ℕ). t ++ []) e)).0

-- ---- questions

-- the lines before those of a condition, in the text of a leaf that says nothing of its runs but that they were cut
abbrev bare_heading : (inputs nodes : ℕ) → List LeafLine
bare_heading inputs nodes = runs_heading [] [] 0 (Cut Steps) ++ counts_heading inputs nodes 0

-- such a leaf, of this condition
abbrev bare : Condition → Leaf
bare q = record { choices = []; path = []; steps = 0; end = Cut Steps; condition = q; outputs = [] }

bare_full : (q : Condition) → IsQuestion q → IsFull (bare q)
bare_full q h = record {
  is_dag = h.is_dag;
  bits = h.bits;
  status = tt;
  bytes = All-nil (λ id. width_of q.graph id ≡ 8);
  small_choices = All-nil IsSmallChoice;
  small_path = All-nil IsSmallStep;
  few_steps = omega arith;
  few_inputs = h.few_inputs;
  few_nodes = h.few_nodes;
  few_outputs = omega arith;
}

no_outputs : (heads terms asserts tail : List LeafLine) →
    ((heads ++ ((terms ++ []) ++ [])) ++ asserts) ++ tail ≡ heads ++ ((terms ++ asserts) ++ tail)
no_outputs heads terms asserts tail = simp (append_assoc, append-nil)

bare_text : (q : Condition) (more : List ℕ) →
    leaf_text (bare q) ++ more ≡ lines_text (bare_heading q.graph.inputs (length q.graph.nodes)) ++ (query_text q ++ more)
unfolding leaf_text leaf_lines query_text query_lines lines_text
bare_text q more =
    let heads : List LeafLine = bare_heading q.graph.inputs (length q.graph.nodes) in
    ap (λ (ls : List LeafLine). flat_map line_text ls ++ more) (no_outputs heads (term_lines q.graph) (assertions q) (CheckLine ∷ ExitLine ∷ []))
    ∙ ap (λ (t : List ℕ). t ++ more) (flat_map-append line_text heads (query_lines q))
    ∙ append_assoc (flat_map line_text heads) (flat_map line_text (query_lines q)) more

-- two questions in full, of as many inputs and of as many terms, whose texts begin one text are one, and the same stands behind them
pub question_before : (q r : Condition) (more rest : List ℕ) → IsQuestion q → IsQuestion r → q.graph.inputs ≡ r.graph.inputs →
    length q.graph.nodes ≡ length r.graph.nodes → query_text q ++ more ≡ query_text r ++ rest → (q ≡ r) × (more ≡ rest)
question_before q r more rest full also inputs nodes e =
    let heads : bare_heading q.graph.inputs (length q.graph.nodes) ≡ bare_heading r.graph.inputs (length r.graph.nodes) =
    ap (λ (n : ℕ). bare_heading n (length q.graph.nodes)) inputs ∙ ap (bare_heading r.graph.inputs) nodes in
    let same = leaf_before (bare q) (bare r) more rest (bare_full q full) (bare_full r also)
    (bare_text q more ∙ ap (λ (ls : List LeafLine). lines_text ls ++ (query_text q ++ more)) heads
    ∙ ap (λ (t : List ℕ). lines_text (bare_heading r.graph.inputs (length r.graph.nodes)) ++ t) e ∙ sym (bare_text r rest)) in
    (ap (λ (leaf : Leaf). leaf.condition) same.0, same.1)
