-- Each line that may stand is read back from its text.
use Rattle.std.proofs.Common.{◌≡◌, ◌∙◌, ℕ, zero, suc, ◌<◌, ◌≤◌, ◌^◌, true, ◌&&◌, ◌==◌, List, [], ◌∷◌, ◌++◌, length, get_or, None, Some, refl, ap, arith, codes, decimal, append_assoc, length-append}
use Rattle.std.specs.Prelude.{option_and_then}
use Rattle.std.proofs.Math.Nat.{pow-le-pow_right}
use Rattle.std.proofs.lemmas.Bool.{and_parts, eqb-true}
use Rattle.bv_dag.specs.Graphs.{width_of}
use Rattle.bv_dag.specs.Nodes.{Fits, node_width, widths_of}
use Rattle.bv_dag.specs.declared.nodes.Node.{Node}
use Rattle.bv_dag.specs.declared.nodes.Node.TheVariants.{Num, Input, Not, Neg, Binary, Compare, Ite, Extract, Extend, Concat}
use Rattle.bv_dag.proofs.Fitting.{all_at_most_64, length-widths_of}
use Rattle.bv_dag.proofs.TermLaws.{there}
use Rattle.rv_decode.specs.declared.ends.Trap.TheVariants.{Illegal, FetchMisaligned, FetchAccess, LoadMisaligned, LoadAccess, StoreMisaligned, StoreAccess, Break, Call}
use Rattle.tree_core.specs.declared.cause.Cause.TheVariants.{Steps, Targets, Conflicts, Nodes}
use Rattle.smt_text.specs.Grammar.{Reading, graph_of, is_wide, stands}
use Rattle.smt_text.specs.LineReading.{endings, kind_said, kinds, line_at, node_line, word_said}
use Rattle.smt_text.specs.Lines.{LeafLine, FormatLine, KindLine, ChoicesLine, PathLine, StepsLine, EndLine, InputsLine, NodesLine, OutputsLine, LogicLine, InputLine, BaseLine, NodeLine, StatusLine, OutputLine, AssertLine, CheckLine, ExitLine, line_text}
use Rattle.text_parts.specs.Names.{Kind, finished, cut, EndWord, exit, trap, running, choices_text, kind_text, path_text, word_text}
use Rattle.smt_text.specs.NodeFits.{fits}
use Rattle.smt_text.specs.NodeText.{IsSmallNode, node_text}
use Rattle.text_parts.specs.Pieces.{before, behind, list_end, made, named, one}
use Rattle.smt_text.specs.declared.spot.Spot.{Spot}
use Rattle.smt_text.specs.declared.spot.Spot.TheVariants.{AtFormat, AtKind, AtChoices, AtPath, AtSteps, AtEnd, AtInputs, AtNodes, AtOutputs, AtLogic, AmongInputs, AtBase, AmongNodes, AtStatus, AmongOutputs, AmongAssertions, AtExit}
use Rattle.smt_text.proofs.PathsBack.{steps_back}
use Rattle.text_parts.proofs.ItemsBack.{choices_back}
use Rattle.smt_text.specs.Phases.{Counted, IsInBounds}
use Rattle.smt_text.proofs.Phases.{fits_from, small_choices, small_path}
use Rattle.text_parts.proofs.Tests.{lt_from}
use Rattle.smt_text.proofs.TermsBack.{term_back}
use Rattle.text_parts.proofs.Joined.{five_pieces, seven_pieces, three_pieces}
use Rattle.text_parts.proofs.Words.{behind_word, one_back, starts_plain, two_back}

-- ---- the numbers of a node that fits

has_place : (before : List ℕ) (a : ℕ) → 0 < get_or before a 0 → a < length before
has_place [] a h = absurd (omega (arith, h))
has_place (x ∷ before) zero h = omega arith
has_place (x ∷ before) (suc a) h = omega (arith, has_place before a h)

module _ (inputs : ℕ) (before : List ℕ) (few_inputs : inputs < 2 ^ 32) (few : length before < 2 ^ 64)
    (at_most_64 : (k : ℕ) → get_or before k 0 ≤ 64) where
  operand : (a : ℕ) → 0 < get_or before a 0 → a < 2 ^ 64
  operand a h = let place = has_place before a h in omega (arith, place, few)

  small_node : (node : Node) → Fits inputs before node → IsSmallNode node
  small_node (Num w v) h =
      let below : 2 ^ w ≤ 2 ^ 64 = pow-le-pow_right (omega arith) h.at_most_64 in
      (omega (arith, h.at_most_64), omega (arith, below, h.in_range))
  small_node (Input i) h = omega (arith, h, few_inputs)
  small_node (Not a) h = operand a h
  small_node (Neg a) h = operand a h
  small_node (Binary op a b) h = (operand a h.0, operand b (omega (arith, h.0, h.1)))
  small_node (Compare op a b) h = (operand a h.0, operand b (omega (arith, h.0, h.1)))
  small_node (Ite c a b) h = (operand c (omega (arith, h.0)), operand a h.1, operand b (omega (arith, h.1, h.2)))
  small_node (Extract high low a) h =
      (omega (arith, h.1, at_most_64 a), omega (arith, h.0, h.1, at_most_64 a), operand a (omega (arith, h.1)))
  small_node (Extend by signed a) h = (omega (arith, h.2), operand a h.0)
  small_node (Concat a b) h = (operand a h.0, operand b h.1)

  small_width : (node : Node) → Fits inputs before node → node_width before node < 2 ^ 64
  small_width (Num w v) h = omega (arith, h.at_most_64)
  small_width (Input i) h = omega arith
  small_width (Not a) h = omega (arith, at_most_64 a)
  small_width (Neg a) h = omega (arith, at_most_64 a)
  small_width (Binary op a b) h = omega (arith, at_most_64 a)
  small_width (Compare op a b) h = omega arith
  small_width (Ite c a b) h = omega (arith, at_most_64 a)
  small_width (Extract high low a) h = omega (arith, at_most_64 a, h.0, h.1)
  small_width (Extend by signed a) h = omega (arith, h.2)
  small_width (Concat a b) h = omega (arith, h.2)

-- ---- pieces in a row

pub head_piece : (h a e rest : List ℕ) → ((h ++ a) ++ e) ++ rest ≡ h ++ ((a ++ e) ++ rest)
head_piece h a e rest = simp append_assoc

kind_line : (kind : Kind) (rest : List ℕ) →
    made (λ cause. KindLine (kind_said cause)) (named kinds ((kind_text kind ++ codes "\n") ++ rest)) ≡ Some (KindLine kind, rest)
unfolding named behind
kind_line finished rest = refl
kind_line (cut Steps) rest = refl
kind_line (cut Targets) rest = refl
kind_line (cut Conflicts) rest = refl
kind_line (cut Nodes) rest = refl

end_line : (word : EndWord) (rest : List ℕ) →
    made (λ said. EndLine (word_said said)) (named endings ((word_text word ++ codes "\n") ++ rest)) ≡ Some (EndLine word, rest)
unfolding named behind
end_line exit rest = refl
end_line running rest = refl
end_line (trap Illegal) rest = refl
end_line (trap FetchMisaligned) rest = refl
end_line (trap FetchAccess) rest = refl
end_line (trap LoadMisaligned) rest = refl
end_line (trap LoadAccess) rest = refl
end_line (trap StoreMisaligned) rest = refl
end_line (trap StoreAccess) rest = refl
end_line (trap Break) rest = refl
end_line (trap Call) rest = refl

number_line : (make : ℕ → LeafLine) (word end : List ℕ) (n : ℕ) (rest : List ℕ) → n < 2 ^ 64 →
    starts_plain (end ++ rest) ≡ true →
    made make (option_and_then (one end) (behind word (((word ++ decimal n) ++ end) ++ rest))) ≡ Some (make n, rest)
number_line make word end n rest small plain =
    rw (three_pieces word (decimal n) end rest, behind_word word (decimal n ++ (end ++ rest)), one_back end n rest small plain) refl

pub no_assertion : (rest : List ℕ) → behind (codes "(assert (= n") (line_text CheckLine ++ rest) ≡ None
unfolding behind
no_assertion rest = refl

pub node_line_back : (id width : ℕ) (node : Node) (rest : List ℕ) → id < 2 ^ 64 → width < 2 ^ 64 →
    IsSmallNode node → node_line (line_text (NodeLine id width node) ++ rest) ≡ Some (NodeLine id width node, rest)
unfolding node_line
node_line_back id width node rest small_id small_width small_node =
    ap node_line (seven_pieces (codes "(define-fun n") (decimal id) (codes " () (_ BitVec ") (decimal width) (codes ") ") (node_text node) (codes ")\n") rest)
    ∙ rw (
      behind_word (codes "(define-fun n") (decimal id ++ (codes " () (_ BitVec " ++ (decimal width ++ (codes ") " ++ (node_text node ++ (codes ")\n" ++ rest)))))),
      two_back (codes " () (_ BitVec ") (codes ") ") id width (node_text node ++ (codes ")\n" ++ rest)) small_id small_width refl refl,
      term_back node (codes ")\n" ++ rest) small_node refl,
      behind_word (codes ")\n") rest,
    ) refl

wide_term : (r : Reading) (id width : ℕ) → length r.nodes < 2 ^ 64 → 0 < width → is_wide r id width ≡ true → id < 2 ^ 64
wide_term r id width few some h =
    let place = there (graph_of r) id width (eqb-true (width_of (graph_of r) id) width h) some in
    omega (arith, place, few)

-- ---- the lines

pub line_back : (place : Spot) (r : Reading) (line : LeafLine) (rest : List ℕ) → IsInBounds r → Counted place r →
    stands place r line ≡ true → line_at place (line_text line ++ rest) ≡ Some (line, rest)
line_back AtFormat r FormatLine rest w c h = rw (behind_word (line_text FormatLine) rest) refl
line_back AtKind r (KindLine kind) rest w c h =
    ap (line_at AtKind) (head_piece (codes "; kind ") (kind_text kind) (codes "\n") rest)
    ∙ rw (behind_word (codes "; kind ") ((kind_text kind ++ codes "\n") ++ rest)) (kind_line kind rest)
line_back AtChoices r (ChoicesLine cs) rest w c h =
    let enough : length (choices_text cs) < suc (length (choices_text cs ++ (list_end ++ rest))) =
    omega (arith, length-append (choices_text cs) (list_end ++ rest)) in
    ap (line_at AtChoices) (three_pieces (codes "; choices ") (choices_text cs) list_end rest)
    ∙ rw (behind_word (codes "; choices ") (choices_text cs ++ (list_end ++ rest)), choices_back cs rest _ (small_choices cs h) enough) refl
line_back AtPath r (PathLine steps) rest w c h =
    let enough : length (path_text steps) < suc (length (path_text steps ++ (list_end ++ rest))) =
    omega (arith, length-append (path_text steps) (list_end ++ rest)) in
    ap (line_at AtPath) (three_pieces (codes "; path ") (path_text steps) list_end rest)
    ∙ rw (behind_word (codes "; path ") (path_text steps ++ (list_end ++ rest)), steps_back steps rest _ (small_path steps h) enough) refl
line_back AtSteps r (StepsLine n) rest w c h =
    number_line StepsLine (codes "; steps ") (codes "\n") n rest (omega (arith, lt_from n (2 ^ 32) h)) refl
line_back AtEnd r (EndLine word) rest w c h =
    ap (line_at AtEnd) (head_piece (codes "; end ") (word_text word) (codes "\n") rest)
    ∙ rw (behind_word (codes "; end ") ((word_text word ++ codes "\n") ++ rest)) (end_line word rest)
line_back AtInputs r (InputsLine n) rest w c h =
    number_line InputsLine (codes "; inputs ") (codes "\n") n rest (omega (arith, lt_from n (2 ^ 32) h)) refl
line_back AtNodes r (NodesLine n) rest w c h =
    number_line NodesLine (codes "; nodes ") (codes "\n") n rest (lt_from n (2 ^ 64) h) refl
line_back AtOutputs r (OutputsLine n) rest w c h =
    number_line OutputsLine (codes "; outputs ") (codes "\n") n rest (omega (arith, lt_from n (2 ^ 32) h)) refl
line_back AtLogic r LogicLine rest w c h = rw (behind_word (line_text LogicLine) rest) refl
line_back AmongInputs r (InputLine i) rest w c h =
    number_line InputLine (codes "(declare-fun b") (codes " () (_ BitVec 8))\n") i rest (omega (arith, eqb-true i r.declared h, c.0, w.3)) refl
line_back AtBase r BaseLine rest w c h = rw (behind_word (line_text BaseLine) rest) refl
line_back AmongNodes r (NodeLine id width node) rest w c h =
    let parts = and_parts ((id == length r.nodes) && fits r.inputs (widths_of r.nodes) node) (width == node_width (widths_of r.nodes) node) h in
    let next = and_parts (id == length r.nodes) (fits r.inputs (widths_of r.nodes) node) parts.0 in
    let fit = fits_from r.inputs (widths_of r.nodes) node next.1 in
    let few : length (widths_of r.nodes) < 2 ^ 64 = omega (arith, length-widths_of r.nodes, c.1, w.4) in
    let bound : (k : ℕ) → get_or (widths_of r.nodes) k 0 ≤ 64 = all_at_most_64 r.inputs r.nodes w.6 in
    let wide : node_width (widths_of r.nodes) node < 2 ^ 64 = small_width r.inputs (widths_of r.nodes) w.3 few bound node fit in
    node_line_back id width node rest (omega (arith, eqb-true id (length r.nodes) next.0, c.1, w.4)) (omega (arith, eqb-true width (node_width (widths_of r.nodes) node) parts.1, wide))
    (small_node r.inputs (widths_of r.nodes) w.3 few bound node fit)
line_back AtStatus r (StatusLine id) rest w c h =
    number_line StatusLine (codes "(define-fun status () (_ BitVec 8) n") (codes ")\n") id rest (wide_term r id 8 (omega (arith, c.1, w.4)) (omega arith) h) refl
line_back AmongOutputs r (OutputLine i id) rest w c h =
    let parts = and_parts (i == length r.outputs) (is_wide r id 8) h in
    let small_i : i < 2 ^ 64 = omega (arith, eqb-true i (length r.outputs) parts.0, c.2, w.5) in
    let small_id : id < 2 ^ 64 = wide_term r id 8 (omega (arith, c.1, w.4)) (omega arith) parts.1 in
    ap (line_at AmongOutputs) (five_pieces (codes "(define-fun out") (decimal i) (codes " () (_ BitVec 8) n") (decimal id) (codes ")\n") rest)
    ∙ rw (
      behind_word (codes "(define-fun out") (decimal i ++ (codes " () (_ BitVec 8) n" ++ (decimal id ++ (codes ")\n" ++ rest)))),
      two_back (codes " () (_ BitVec 8) n") (codes ")\n") i id rest small_i small_id refl refl,
    ) refl
line_back AmongAssertions r (AssertLine id) rest w c h =
    rw (number_line AssertLine (codes "(assert (= n") (codes " (_ bv1 1)))\n") id rest (wide_term r id 1 (omega (arith, c.1, w.4)) (omega arith) h) refl) refl
line_back AmongAssertions r CheckLine rest w c h = rw (no_assertion rest, behind_word (line_text CheckLine) rest) refl
line_back AtExit r ExitLine rest w c h = rw (behind_word (line_text ExitLine) rest) refl
line_back _ r _ rest w c h = cc
