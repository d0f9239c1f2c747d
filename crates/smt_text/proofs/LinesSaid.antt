-- What was read says all lines that were read.
use Rattle.std.proofs.Common.{◌≡◌, ◌∙◌, ℕ, zero, suc, ◌+◌, ◌≤◌, Bool, true, false, ◌&&◌, ◌==◌, List, [], ◌∷◌, ◌++◌, length, map, Some, refl, sym, ap, subst, arith, add-zero, append_assoc, append-nil}
use Rattle.std.specs.Prelude.{if◌then◌else◌}
use Rattle.std.specs.List.{enumerate_from}
use Rattle.std.proofs.lemmas.Bool.{and_parts, eqb-true}
use Rattle.std.proofs.lemmas.List.{map-append, nil_from_length}
use Rattle.std.proofs.lemmas.Option.{same_Some}
use Rattle.bv_dag.specs.Graphs.{Graph, width_of, with_node}
use Rattle.bv_dag.specs.Nodes.{node_width, widths_of}
use Rattle.bv_dag.specs.declared.nodes.Node.{Node}
use Rattle.bv_dag.proofs.TermLaws.{width_of-new, width_of-with_node}
use Rattle.rv_decode.specs.declared.ends.PathStep.{PathStep}
use Rattle.tree_core.specs.declared.choice.Choice.{Choice}
use Rattle.fork_spec.specs.declared.end.LeafEnd.{LeafEnd}
use Rattle.fork_spec.specs.declared.end.LeafEnd.TheVariants.{Exits, Traps, Cut}
use Rattle.smt_text.specs.Grammar.{Reading, agree, behind_inputs, behind_nodes, behind_outputs, end_by, exits, graph_of, is_wide, leaf_of, read_lines, stands, start, with_line}
use Rattle.smt_text.specs.LeafLines.{counts_heading, input_lines, leaf_lines, node_lines, output_lines, runs_heading, status_lines}
use Rattle.smt_text.specs.Lines.{LeafLine, FormatLine, KindLine, ChoicesLine, PathLine, StepsLine, EndLine, InputsLine, NodesLine, OutputsLine, LogicLine, InputLine, BaseLine, NodeLine, StatusLine, OutputLine, AssertLine, CheckLine, ExitLine}
use Rattle.text_parts.specs.Names.{Kind, finished, cut, EndWord, exit, trap, running}
use Rattle.smt_text.specs.NodeFits.{fits}
use Rattle.smt_text.specs.Phases.{Counted, IsSoundReading}
use Rattle.smt_text.specs.declared.spot.Spot.{Spot}
use Rattle.smt_text.specs.declared.spot.Spot.TheVariants.{AtFormat, AtKind, AtChoices, AtPath, AtSteps, AtEnd, AtInputs, AtNodes, AtOutputs, AtLogic, AmongInputs, AtBase, AmongNodes, AtStatus, AmongOutputs, AmongAssertions, AtExit, Closed}
use Rattle.smt_text.proofs.OneReading.{stood}
use Rattle.smt_text.proofs.Phases.{kept}

-- ---- the lines so far, at each place

abbrev runs_said : Reading → List LeafLine
runs_said r = runs_heading r.choices r.path r.steps r.end

abbrev heading_said : Reading → List LeafLine
heading_said r = runs_said r ++ counts_heading r.inputs r.node_count r.output_count

abbrev inputs_said : Reading → List LeafLine
inputs_said r = heading_said r ++ (LogicLine ∷ input_lines 0 r.declared)

abbrev nodes_said : Reading → List LeafLine
nodes_said r = inputs_said r ++ (BaseLine ∷ node_lines (graph_of r))

abbrev outputs_said : Reading → List LeafLine
outputs_said r = nodes_said r ++ (status_lines r.end ++ output_lines r.outputs)

abbrev assertions_said : Reading → List LeafLine
assertions_said r = outputs_said r ++ map AssertLine r.asserted

abbrev said : Spot → Reading → List LeafLine
said AtFormat r = []
said AtKind r = FormatLine ∷ []
said AtChoices r = FormatLine ∷ KindLine r.kind ∷ []
said AtPath r = FormatLine ∷ KindLine r.kind ∷ ChoicesLine r.choices ∷ []
said AtSteps r = FormatLine ∷ KindLine r.kind ∷ ChoicesLine r.choices ∷ PathLine r.path ∷ []
said AtEnd r = FormatLine ∷ KindLine r.kind ∷ ChoicesLine r.choices ∷ PathLine r.path ∷ StepsLine r.steps ∷ []
said AtInputs r = runs_said r
said AtNodes r = runs_said r ++ (InputsLine r.inputs ∷ [])
said AtOutputs r = runs_said r ++ (InputsLine r.inputs ∷ NodesLine r.node_count ∷ [])
said AtLogic r = heading_said r
said AmongInputs r = inputs_said r
said AtBase r = inputs_said r
said AmongNodes r = nodes_said r
said AtStatus r = nodes_said r
said AmongOutputs r = outputs_said r
said AmongAssertions r = assertions_said r
said AtExit r = assertions_said r ++ (CheckLine ∷ [])
said Closed r = assertions_said r ++ (CheckLine ∷ ExitLine ∷ [])

-- a status is to come where the runs exit
abbrev ExitsAt : Spot → LeafEnd → Type 0
ExitsAt AtStatus end = exits end ≡ true
ExitsAt _ end = Unit {0}

-- ---- one more of each

ended_said : (kind : Kind) (word : EndWord) (choices : List Choice) (path : List PathStep) (steps : ℕ) → agree kind word ≡ true →
    runs_heading choices path steps (end_by kind word)
    ≡ FormatLine ∷ KindLine kind ∷ ChoicesLine choices ∷ PathLine path ∷ StepsLine steps ∷ EndLine word ∷ []
ended_said finished exit choices path steps h = refl
ended_said finished (trap t) choices path steps h = refl
ended_said finished running choices path steps h = cc
ended_said (cut cause) exit choices path steps h = cc
ended_said (cut cause) (trap t) choices path steps h = cc
ended_said (cut cause) running choices path steps h = refl

inputs_suc : (k n : ℕ) → input_lines k (suc n) ≡ input_lines k n ++ InputLine (k + n) ∷ []
inputs_suc k zero = rw add-zero refl
inputs_suc k (suc n) =
    let place : k + 1 + n ≡ k + suc n = omega arith in
    ap (λ (ls : List LeafLine). InputLine k ∷ ls) (inputs_suc (k + 1) n ∙ ap (λ i. input_lines (k + 1) n ++ InputLine i ∷ []) place)

numbered_push : {X : Type 0} (k : ℕ) (xs : List X) (x : X) →
    enumerate_from k (xs ++ x ∷ []) ≡ enumerate_from k xs ++ (k + length xs, x) ∷ []
numbered_push k [] x = rw add-zero refl
numbered_push {X} k (y ∷ xs) x =
    let place : k + 1 + length xs ≡ k + suc (length xs) = omega arith in
    ap (λ (ps : List (ℕ × X)). (k, y) ∷ ps) (numbered_push (k + 1) xs x ∙ ap (λ (i : ℕ). let p : ℕ × X = (i, x) in enumerate_from (k + 1) xs ++ p ∷ []) place)

-- the line of a node by its place in a graph
abbrev line_in : Graph → (ℕ × Node) → LeafLine
line_in graph p = NodeLine p.0 (width_of graph p.0) p.1

lines_kept : (graph : Graph) (n : Node) (k : ℕ) (xs : List Node) → k + length xs ≤ length graph.nodes →
    map (line_in (with_node graph n)) (enumerate_from k xs) ≡ map (line_in graph) (enumerate_from k xs)
lines_kept graph n k [] fit = refl
lines_kept graph n k (x ∷ xs) fit =
    ap (λ (w : ℕ). NodeLine k w x ∷ map (line_in (with_node graph n)) (enumerate_from (k + 1) xs)) (width_of-with_node graph n k (omega (arith, fit)))
    ∙ ap (λ (ls : List LeafLine). NodeLine k (width_of graph k) x ∷ ls) (lines_kept graph n (k + 1) xs (omega (arith, fit)))

nodes_push : (graph : Graph) (n : Node) →
    node_lines (with_node graph n) ≡ node_lines graph ++ NodeLine (length graph.nodes) (node_width (widths_of graph.nodes) n) n ∷ []
nodes_push graph n =
    let whole : 0 + length graph.nodes ≡ length graph.nodes = omega arith in
    ap (map (line_in (with_node graph n))) (numbered_push 0 graph.nodes n)
    ∙ map-append (line_in (with_node graph n)) (enumerate_from 0 graph.nodes) ((0 + length graph.nodes, n) ∷ [])
    ∙ ap (λ (ls : List LeafLine). ls ++ line_in (with_node graph n) (0 + length graph.nodes, n) ∷ []) (lines_kept graph n 0 graph.nodes (omega arith))
    ∙ ap (λ (i : ℕ). node_lines graph ++ NodeLine i (width_of (with_node graph n) i) n ∷ []) whole
    ∙ ap (λ (w : ℕ). node_lines graph ++ NodeLine (length graph.nodes) w n ∷ []) (width_of-new graph n)

outputs_push : (ids : List ℕ) (id : ℕ) → output_lines (ids ++ id ∷ []) ≡ output_lines ids ++ OutputLine (length ids) id ∷ []
outputs_push ids id =
    let whole : 0 + length ids ≡ length ids = omega arith in
    ap (map (λ ((i, k) : ℕ × ℕ). OutputLine i k)) (numbered_push 0 ids id)
    ∙ map-append (λ ((i, k) : ℕ × ℕ). OutputLine i k) (enumerate_from 0 ids) ((0 + length ids, id) ∷ [])
    ∙ ap (λ (i : ℕ). output_lines ids ++ OutputLine i id ∷ []) whole

-- ---- behind what was announced

said_inputs : (p : Spot) (r : Reading) → said (behind_inputs r) (record r { place = p }) ≡ inputs_said r
said_inputs p r = go (r.declared == r.inputs)
  where
    go : (b : Bool) → said (if b then AtBase else AmongInputs) (record r { place = p }) ≡ inputs_said r
    go true = refl
    go false = refl

said_outputs : (p : Spot) (r : Reading) → r.asserted ≡ [] → said (behind_outputs r) (record r { place = p }) ≡ outputs_said r
said_outputs p r none_yet = go (length r.outputs == r.output_count)
  where
    go : (b : Bool) → said (if b then AmongAssertions else AmongOutputs) (record r { place = p }) ≡ outputs_said r
    go true = ap (λ (ids : List ℕ). outputs_said r ++ map AssertLine ids) none_yet ∙ append-nil (outputs_said r)
    go false = refl

no_outputs_said : (r : Reading) → exits r.end ≡ false → r.outputs ≡ [] → outputs_said r ≡ nodes_said r
no_outputs_said r no_exit none_yet =
    ap (λ (ids : List ℕ). nodes_said r ++ (status_lines r.end ++ output_lines ids)) none_yet
    ∙ ap (λ (ls : List LeafLine). nodes_said r ++ (ls ++ [])) (no_status r.end no_exit)
    ∙ append-nil (nodes_said r)
  where
    no_status : (end : LeafEnd) → exits end ≡ false → status_lines end ≡ []
    no_status (Exits status) h = cc
    no_status (Traps t) h = refl
    no_status (Cut cause) h = refl

said_nodes : (p : Spot) (r : Reading) → r.outputs ≡ [] → r.asserted ≡ [] →
    (said (behind_nodes r) (record r { place = p }) ≡ nodes_said r) × ExitsAt (behind_nodes r) r.end
said_nodes p r no_outputs none_yet = go (length r.nodes == r.node_count) (exits r.end) refl
  where
    open_end : (b : Bool) → ExitsAt (if b then AmongAssertions else AmongOutputs) r.end
    open_end true = tt
    open_end false = tt

    go : (b e : Bool) → exits r.end ≡ e →
        (said (if b then (if e then AtStatus else behind_outputs r) else AmongNodes) (record r { place = p }) ≡ nodes_said r)
        × ExitsAt (if b then (if e then AtStatus else behind_outputs r) else AmongNodes) r.end
    go false e is = (refl, tt)
    go true true is = (refl, is)
    go true false is = (said_outputs p r none_yet ∙ no_outputs_said r is no_outputs, open_end (length r.outputs == r.output_count))

open_outputs : (r : Reading) → ExitsAt (behind_outputs r) r.end
open_outputs r = go (length r.outputs == r.output_count)
  where
    go : (b : Bool) → ExitsAt (if b then AmongAssertions else AmongOutputs) r.end
    go true = tt
    go false = tt

open_inputs : (r : Reading) → ExitsAt (behind_inputs r) r.end
open_inputs r = go (r.declared == r.inputs)
  where
    go : (b : Bool) → ExitsAt (if b then AtBase else AmongInputs) r.end
    go true = tt
    go false = tt

-- ---- each line

-- a run of lines behind another, and one line more
more_behind : (front lines : List LeafLine) (line : LeafLine) → front ++ (lines ++ line ∷ []) ≡ (front ++ lines) ++ line ∷ []
more_behind front lines line = sym (append_assoc front lines (line ∷ []))

-- the runs of a leaf that exits, whatever the status
exits_said : (end : LeafEnd) (id : ℕ) (choices : List Choice) (path : List PathStep) (steps : ℕ) → exits end ≡ true →
    runs_heading choices path steps (Exits id) ≡ runs_heading choices path steps end
exits_said (Exits status) id choices path steps h = refl
exits_said (Traps t) id choices path steps h = cc
exits_said (Cut cause) id choices path steps h = cc

said_more : (place : Spot) (r : Reading) (line : LeafLine) → Counted place r → ExitsAt place r.end → r.place ≡ place →
    stands place r line ≡ true →
    (said (with_line r line).place (with_line r line) ≡ said place r ++ line ∷ []) × ExitsAt (with_line r line).place (with_line r line).end
said_more AtFormat r FormatLine c x here h = (refl, tt)
said_more AtKind r (KindLine kind) c x here h = (refl, tt)
said_more AtChoices r (ChoicesLine cs) c x here h = (refl, tt)
said_more AtPath r (PathLine steps) c x here h = (refl, tt)
said_more AtSteps r (StepsLine n) c x here h = (refl, tt)
said_more AtEnd r (EndLine word) c x here h = (ended_said r.kind word r.choices r.path r.steps h, tt)
said_more AtInputs r (InputsLine n) c x here h = (refl, tt)
said_more AtNodes r (NodesLine n) c x here h = (refl, tt)
said_more AtOutputs r (OutputsLine n) c x here h = (refl, tt)
said_more AtLogic r LogicLine c x here h =
    (said_inputs (behind_inputs r) r ∙ ap (λ (n : ℕ). heading_said r ++ (LogicLine ∷ input_lines 0 n)) c.0, open_inputs r)
said_more AmongInputs r (InputLine i) c x here h =
    let suc_is : r.declared + 1 ≡ suc r.declared = omega arith in
    let next : 0 + r.declared ≡ i = omega (arith, eqb-true i r.declared h) in
    let one : input_lines 0 (r.declared + 1) ≡ input_lines 0 r.declared ++ InputLine i ∷ [] =
    ap (input_lines 0) suc_is ∙ inputs_suc 0 r.declared ∙ ap (λ (k : ℕ). input_lines 0 r.declared ++ InputLine k ∷ []) next in (
      said_inputs (behind_inputs (record r { declared = r.declared + 1 })) (record r { declared = r.declared + 1 }) ∙ ap (λ (ls : List LeafLine). heading_said r ++ (LogicLine ∷ ls)) one
          ∙ more_behind (heading_said r) (LogicLine ∷ input_lines 0 r.declared) (InputLine i),
      open_inputs (record r { declared = r.declared + 1 }),
    )
said_more AtBase r BaseLine c x here h =
    let nodes = said_nodes (behind_nodes r) r (nil_from_length r.outputs c.2) c.3 in
    (nodes.0 ∙ ap (λ (ns : List Node). inputs_said r ++ (BaseLine ∷ node_lines (record { inputs = r.inputs; nodes = ns }))) (nil_from_length r.nodes c.1), nodes.1)
said_more AmongNodes r (NodeLine id width node) c x here h =
    let parts = and_parts ((id == length r.nodes) && fits r.inputs (widths_of r.nodes) node) (width == node_width (widths_of r.nodes) node) h in
    let next = eqb-true id (length r.nodes) (and_parts (id == length r.nodes) (fits r.inputs (widths_of r.nodes) node) parts.0).0 in
    let wide = eqb-true width (node_width (widths_of r.nodes) node) parts.1 in
    let nodes = said_nodes (behind_nodes (record r { nodes = r.nodes ++ node ∷ [] })) (record r { nodes = r.nodes ++ node ∷ [] }) (nil_from_length r.outputs c.2) c.3 in (
      nodes.0 ∙ ap (λ (ls : List LeafLine). inputs_said r ++ (BaseLine ∷ ls)) (nodes_push (graph_of r) node)
          ∙ ap (λ (k : ℕ). inputs_said r ++ (BaseLine ∷ (node_lines (graph_of r) ++ NodeLine k (node_width (widths_of r.nodes) node) node ∷ []))) (sym next)
          ∙ ap (λ (w : ℕ). inputs_said r ++ (BaseLine ∷ (node_lines (graph_of r) ++ NodeLine id w node ∷ []))) (sym wide)
          ∙ more_behind (inputs_said r) (BaseLine ∷ node_lines (graph_of r)) (NodeLine id width node),
      nodes.1,
    )
said_more AtStatus r (StatusLine id) c x here h =
    let s : Reading = record r { end = Exits id } in (
      said_outputs (behind_outputs (record r { end = Exits id })) (record r { end = Exits id }) c.3
          ∙ ap (λ (ids : List ℕ). nodes_said s ++ (StatusLine id ∷ output_lines ids)) (nil_from_length r.outputs c.2)
          ∙ ap (λ (ls : List LeafLine). (((ls ++ counts_heading r.inputs r.node_count r.output_count) ++ (LogicLine ∷ input_lines 0 r.declared)) ++ (BaseLine ∷ node_lines (graph_of r))) ++ StatusLine id ∷ [])
          (exits_said r.end id r.choices r.path r.steps x),
      open_outputs (record r { end = Exits id }),
    )
said_more AmongOutputs r (OutputLine i id) c x here h =
    let parts = and_parts (i == length r.outputs) (is_wide r id 8) h in
    let next = eqb-true i (length r.outputs) parts.0 in (
      said_outputs (behind_outputs (record r { outputs = r.outputs ++ id ∷ [] })) (record r { outputs = r.outputs ++ id ∷ [] }) c.3
          ∙ ap (λ (ls : List LeafLine). nodes_said r ++ (status_lines r.end ++ ls)) (outputs_push r.outputs id)
          ∙ ap (λ (k : ℕ). nodes_said r ++ (status_lines r.end ++ (output_lines r.outputs ++ OutputLine k id ∷ []))) (sym next)
          ∙ ap (λ (ls : List LeafLine). nodes_said r ++ ls) (more_behind (status_lines r.end) (output_lines r.outputs) (OutputLine i id))
          ∙ more_behind (nodes_said r) (status_lines r.end ++ output_lines r.outputs) (OutputLine i id),
      open_outputs (record r { outputs = r.outputs ++ id ∷ [] }),
    )
said_more AmongAssertions r (AssertLine id) c x here h = (
  ap (λ (p : Spot). said p (record r { asserted = r.asserted ++ id ∷ [] })) here
      ∙ ap (λ (ls : List LeafLine). outputs_said r ++ ls) (map-append AssertLine r.asserted (id ∷ []))
      ∙ more_behind (outputs_said r) (map AssertLine r.asserted) (AssertLine id),
  subst (λ (p : Spot). ExitsAt p r.end) (sym here) tt,
)
said_more AmongAssertions r CheckLine c x here h = (refl, tt)
said_more AtExit r ExitLine c x here h = (more_behind (assertions_said r) (CheckLine ∷ []) ExitLine, tt)
said_more _ r _ c x here h = cc

all_said : (r s : Reading) (before lines : List LeafLine) → IsSoundReading r → ExitsAt r.place r.end → before ≡ said r.place r →
    read_lines r lines ≡ Some s → before ++ lines ≡ said s.place s
unfolding read_lines
all_said r s before [] sound x so_far h = append-nil before ∙ so_far ∙ ap (λ (q : Reading). said q.place q) (same_Some r s h)
all_said r s before (line ∷ lines) sound x so_far h =
    let one = stood r line lines s h in
    let more = said_more r.place r line sound.1 x refl one.0 in
    sym (append_assoc before (line ∷ []) lines)
    ∙ all_said (with_line r line) s (before ++ line ∷ []) lines (kept r.place r line sound.0 sound.1 refl one.0) more.1
    (ap (λ (ls : List LeafLine). ls ++ line ∷ []) so_far ∙ sym more.0) one.1

regroup : (top inputs nodes status outputs asserts tail : List LeafLine) →
    ((((top ++ inputs) ++ nodes) ++ (status ++ outputs)) ++ asserts) ++ tail
    ≡ ((top ++ (((inputs ++ nodes) ++ status) ++ outputs)) ++ asserts) ++ tail
regroup top inputs nodes status outputs asserts tail = simp append_assoc

said_leaf : (r : Reading) → Counted Closed r → said Closed r ≡ leaf_lines (leaf_of r)
unfolding leaf_lines
said_leaf r c =
    ap (λ (k : ℕ). ((((heading_said r ++ (LogicLine ∷ input_lines 0 k)) ++ (BaseLine ∷ node_lines (graph_of r))) ++ (status_lines r.end ++ output_lines r.outputs)) ++ map AssertLine r.asserted) ++ (CheckLine ∷ ExitLine ∷ [])) c.0
    ∙ regroup (heading_said r) (LogicLine ∷ input_lines 0 r.inputs) (BaseLine ∷ node_lines (graph_of r)) (status_lines r.end) (output_lines r.outputs) (map AssertLine r.asserted) (CheckLine ∷ ExitLine ∷ [])
    ∙ ap (λ (k : ℕ). (((runs_said r ++ counts_heading r.inputs k r.output_count) ++ ((((LogicLine ∷ input_lines 0 r.inputs) ++ (BaseLine ∷ node_lines (graph_of r))) ++ status_lines r.end) ++ output_lines r.outputs)) ++ map AssertLine r.asserted) ++ (CheckLine ∷ ExitLine ∷ [])) (sym c.1)
    ∙ ap (λ (k : ℕ). (((runs_said r ++ counts_heading r.inputs (length r.nodes) k) ++ ((((LogicLine ∷ input_lines 0 r.inputs) ++ (BaseLine ∷ node_lines (graph_of r))) ++ status_lines r.end) ++ output_lines r.outputs)) ++ map AssertLine r.asserted) ++ (CheckLine ∷ ExitLine ∷ [])) (sym c.2)

-- the lines of a whole text are those of the leaf that they say
pub lines_are : (lines : List LeafLine) (r : Reading) → IsSoundReading start → IsSoundReading r → read_lines start lines ≡ Some r → r.place ≡ Closed →
    lines ≡ leaf_lines (leaf_of r)
lines_are lines r sound sound_r h closed =
    all_said start r [] lines sound tt refl h ∙ ap (λ (p : Spot). said p r) closed
    ∙ said_leaf r (subst (λ (p : Spot). Counted p r) closed sound_r.1)
