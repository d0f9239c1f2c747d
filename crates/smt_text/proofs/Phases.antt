-- Each line that may stand keeps what holds of a reading.
use Rattle.std.proofs.Common.{◌≡◌, ℕ, ◌+◌, ◌<◌, ◌≤◌, ◌^◌, Bool, true, false, ◌&&◌, ◌==◌, nat_lt, List, [], ◌∷◌, ◌++◌, length, get_or, refl, sym, subst, arith, length-append}
use Rattle.std.specs.Prelude.{All, if◌then◌else◌}
use Rattle.std.specs.List.{list_all}
use Rattle.std.proofs.lemmas.Bool.{and_parts, eqb-true}
use Rattle.std.proofs.lemmas.Bool.Decides.{nat_tests}
use Rattle.std.proofs.lemmas.List.{nil_from_length}
use Rattle.std.proofs.lemmas.List.Elements.{All-cons, All-nil, All-push, All-same}
use Rattle.bv_dag.specs.Graphs.{AllFit, width_of}
use Rattle.bv_dag.specs.Nodes.{Fits, node_width, widths_of}
use Rattle.bv_dag.specs.declared.nodes.Node.{Node}
use Rattle.bv_dag.specs.declared.nodes.Node.TheVariants.{Num, Input, Not, Neg, Binary, Compare, Ite, Extract, Extend, Concat}
use Rattle.bv_dag.proofs.TermLaws.{IsDag-none, IsDag-with_node}
use Rattle.rv_decode.specs.declared.ends.PathStep.{PathStep}
use Rattle.rv_decode.specs.declared.ends.PathStep.TheVariants.{Taken, NotTaken, Target}
use Rattle.tree_core.specs.declared.choice.Choice.{Choice}
use Rattle.tree_core.specs.declared.choice.Choice.TheVariants.{No, Yes, Value, Rest}
use Rattle.fork_spec.specs.Leaves.{IsByteStatus, IsSmallStep}
use Rattle.tree_core.specs.Choices.{IsSmallChoice}
use Rattle.fork_spec.specs.declared.end.LeafEnd.{LeafEnd}
use Rattle.fork_spec.specs.declared.end.LeafEnd.TheVariants.{Exits, Traps, Cut}
use Rattle.smt_text.specs.Grammar.{Reading, behind_inputs, behind_nodes, behind_outputs, exits, graph_of, is_small_choice, is_small_step, is_wide, stands, start, with_line}
use Rattle.smt_text.specs.Lines.{LeafLine, FormatLine, KindLine, ChoicesLine, PathLine, StepsLine, EndLine, InputsLine, NodesLine, OutputsLine, LogicLine, InputLine, BaseLine, NodeLine, StatusLine, OutputLine, AssertLine, CheckLine, ExitLine}
use Rattle.smt_text.specs.NodeFits.{fits}
use Rattle.smt_text.specs.Phases.{Counted, IsInBounds}
use Rattle.smt_text.specs.declared.spot.Spot.{Spot}
use Rattle.smt_text.specs.declared.spot.Spot.TheVariants.{AtFormat, AtKind, AtChoices, AtPath, AtSteps, AtEnd, AtInputs, AtNodes, AtOutputs, AtLogic, AmongInputs, AtBase, AmongNodes, AtStatus, AmongOutputs, AmongAssertions, AtExit}
use Rattle.text_parts.proofs.Tests.{lt_from}

-- ---- what the tests say

small_choice : (c : Choice) → is_small_choice c ≡ true → IsSmallChoice c
small_choice No h = tt
small_choice Yes h = tt
small_choice (Value v) h = lt_from v (2 ^ 32) h
small_choice Rest h = tt

pub small_choices : (cs : List Choice) → list_all is_small_choice cs ≡ true → All IsSmallChoice cs
small_choices [] h = All-nil IsSmallChoice
small_choices (c ∷ cs) h =
    let parts = and_parts (is_small_choice c) (list_all is_small_choice cs) h in
    All-cons IsSmallChoice c cs (small_choice c parts.0) (small_choices cs parts.1)

small_step : (s : PathStep) → is_small_step s ≡ true → IsSmallStep s
small_step Taken h = tt
small_step NotTaken h = tt
small_step (Target address) h = lt_from address (2 ^ 32) h

pub small_path : (steps : List PathStep) → list_all is_small_step steps ≡ true → All IsSmallStep steps
small_path [] h = All-nil IsSmallStep
small_path (s ∷ steps) h =
    let parts = and_parts (is_small_step s) (list_all is_small_step steps) h in
    All-cons IsSmallStep s steps (small_step s parts.0) (small_path steps parts.1)

-- a node that passes the test fits
pub fits_from : (inputs : ℕ) (before : List ℕ) (n : Node) → fits inputs before n ≡ true → Fits inputs before n
fits_from inputs before (Num w v) h = num w v h
  where
    num : (w v : ℕ) → fits inputs before (Num w v) ≡ true → Fits inputs before (Num w v)
    num w v h = record { not_empty = grind (arith, nat_tests); at_most_64 = grind (arith, nat_tests); in_range = grind (arith, nat_tests) }
fits_from inputs before (Input i) h = lt_from i inputs h
fits_from inputs before (Not a) h = lt_from _ _ h
fits_from inputs before (Neg a) h = lt_from _ _ h
fits_from inputs before (Binary op a b) h = same_width before a b h
  where
    same_width : (before : List ℕ) (a b : ℕ) → (nat_lt 0 (get_or before a 0) && (get_or before a 0 == get_or before b 0)) ≡ true →
        (0 < get_or before a 0) × (get_or before a 0 ≡ get_or before b 0)
    same_width before a b h = (grind (arith, nat_tests), grind (arith, nat_tests))
fits_from inputs before (Compare op a b) h = same_width before a b h
  where
    same_width : (before : List ℕ) (a b : ℕ) → (nat_lt 0 (get_or before a 0) && (get_or before a 0 == get_or before b 0)) ≡ true →
        (0 < get_or before a 0) × (get_or before a 0 ≡ get_or before b 0)
    same_width before a b h = (grind (arith, nat_tests), grind (arith, nat_tests))
fits_from inputs before (Ite c a b) h = choice h
  where
    choice : fits inputs before (Ite c a b) ≡ true → Fits inputs before (Ite c a b)
    choice h = (grind (arith, nat_tests), grind (arith, nat_tests), grind (arith, nat_tests))
fits_from inputs before (Extract high low a) h = cut_out h
  where
    cut_out : fits inputs before (Extract high low a) ≡ true → Fits inputs before (Extract high low a)
    cut_out h = (grind (arith, nat_tests), grind (arith, nat_tests))
fits_from inputs before (Extend by signed a) h = wider h
  where
    wider : fits inputs before (Extend by signed a) ≡ true → Fits inputs before (Extend by signed a)
    wider h = (grind (arith, nat_tests), grind (arith, nat_tests), grind (arith, nat_tests))
fits_from inputs before (Concat a b) h = joined h
  where
    joined : fits inputs before (Concat a b) ≡ true → Fits inputs before (Concat a b)
    joined h = (grind (arith, nat_tests), grind (arith, nat_tests), grind (arith, nat_tests))

-- ---- behind what was announced

less : (a b : ℕ) → a ≤ b → (a == b) ≡ false → a < b
less a b h ne = grind (arith, nat_tests)

counted_inputs : (r : Reading) → r.declared ≤ r.inputs → length r.nodes ≡ 0 → length r.outputs ≡ 0 →
    r.asserted ≡ [] → Counted (behind_inputs r) r
counted_inputs r most no_nodes no_outputs none_asserted = go (r.declared == r.inputs) refl
  where
    go : (b : Bool) → (r.declared == r.inputs) ≡ b → Counted (if b then AtBase else AmongInputs) r
    go true is = (eqb-true r.declared r.inputs is, no_nodes, no_outputs, none_asserted, tt)
    go false is = (less r.declared r.inputs most is, no_nodes, no_outputs, none_asserted, tt)

counted_outputs : (r : Reading) → r.declared ≡ r.inputs → length r.nodes ≡ r.node_count →
    length r.outputs ≤ r.output_count → r.asserted ≡ [] → IsByteStatus (graph_of r) r.end →
    Counted (behind_outputs r) r
counted_outputs r declared nodes most none_asserted status = go (length r.outputs == r.output_count) refl
  where
    go : (b : Bool) → (length r.outputs == r.output_count) ≡ b → Counted (if b then AmongAssertions else AmongOutputs) r
    go true is = (declared, nodes, eqb-true (length r.outputs) r.output_count is, tt, status)
    go false is = (declared, nodes, less (length r.outputs) r.output_count most is, none_asserted, status)

counted_nodes : (r : Reading) → r.declared ≡ r.inputs → length r.nodes ≤ r.node_count →
    length r.outputs ≡ 0 → r.asserted ≡ [] → Counted (behind_nodes r) r
counted_nodes r declared most no_outputs none_asserted = go (length r.nodes == r.node_count) refl
  where
    ended : (e : LeafEnd) → r.end ≡ e → length r.nodes ≡ r.node_count → Counted (if exits e then AtStatus else behind_outputs r) r
    ended (Exits status) is nodes = (declared, nodes, no_outputs, none_asserted, tt)
    ended (Traps t) is nodes =
        counted_outputs r declared nodes (omega (arith, no_outputs)) none_asserted (subst (IsByteStatus (graph_of r)) (sym is) tt)
    ended (Cut cause) is nodes =
        counted_outputs r declared nodes (omega (arith, no_outputs)) none_asserted (subst (IsByteStatus (graph_of r)) (sym is) tt)

    go : (b : Bool) → (length r.nodes == r.node_count) ≡ b → Counted (if b then (if exits r.end then AtStatus else behind_outputs r) else AmongNodes) r
    go true is = ended r.end refl (eqb-true (length r.nodes) r.node_count is)
    go false is = (declared, less (length r.nodes) r.node_count most is, no_outputs, none_asserted, tt)

-- ---- each line keeps it so

pub IsWithin-start : IsInBounds start
IsWithin-start = (All-nil IsSmallChoice, All-nil IsSmallStep, omega arith, omega arith, omega arith, omega arith, (IsDag-none 0).all_fit, All-nil (λ id. width_of (graph_of start) id ≡ 8), All-nil (λ id. width_of (graph_of start) id ≡ 1))

pub Counted-start : Counted AtFormat start
Counted-start = (refl, refl, refl, refl, tt)

-- no nodes fit over any inputs
none_fit : (inputs : ℕ) (nodes : List Node) → length nodes ≡ 0 → AllFit inputs nodes
none_fit inputs nodes no_nodes = subst (AllFit inputs) (sym (nil_from_length nodes no_nodes)) (IsDag-none inputs).all_fit

pub kept : (place : Spot) (r : Reading) (line : LeafLine) → IsInBounds r → Counted place r → r.place ≡ place →
    stands place r line ≡ true → IsInBounds (with_line r line) × Counted (with_line r line).place (with_line r line)
kept AtFormat r FormatLine w c here h = (w, c)
kept AtKind r (KindLine kind) w c here h = (w, c)
kept AtChoices r (ChoicesLine cs) w c here h = ((small_choices cs h, w.1, w.2, w.3, w.4, w.5, w.6, w.7, w.8), c)
kept AtPath r (PathLine steps) w c here h = ((w.0, small_path steps h, w.2, w.3, w.4, w.5, w.6, w.7, w.8), c)
kept AtSteps r (StepsLine n) w c here h = ((w.0, w.1, lt_from n (2 ^ 32) h, w.3, w.4, w.5, w.6, w.7, w.8), c)
kept AtEnd r (EndLine word) w c here h = (w, c)
kept AtInputs r (InputsLine n) w c here h =
    ((w.0, w.1, w.2, lt_from n (2 ^ 32) h, w.4, w.5, none_fit n r.nodes c.1, w.7, w.8), c)
kept AtNodes r (NodesLine n) w c here h = ((w.0, w.1, w.2, w.3, lt_from n (2 ^ 64) h, w.5, w.6, w.7, w.8), c)
kept AtOutputs r (OutputsLine n) w c here h = ((w.0, w.1, w.2, w.3, w.4, lt_from n (2 ^ 32) h, w.6, w.7, w.8), c)
kept AtLogic r LogicLine w c here h = (w, counted_inputs r (omega (arith, c.0)) c.1 c.2 c.3)
kept AmongInputs r (InputLine i) w c here h =
    (w, counted_inputs (record r { declared = r.declared + 1 }) (omega (arith, c.0)) c.1 c.2 c.3)
kept AtBase r BaseLine w c here h = (w, counted_nodes r c.0 (omega (arith, c.1)) c.2 c.3)
kept AmongNodes r (NodeLine id width node) w c here h =
    let parts = and_parts ((id == length r.nodes) && fits r.inputs (widths_of r.nodes) node) (width == node_width (widths_of r.nodes) node) h in
    let fit = fits_from r.inputs (widths_of r.nodes) node (and_parts (id == length r.nodes) (fits r.inputs (widths_of r.nodes) node) parts.0).1 in
    let more : List Node = r.nodes ++ node ∷ [] in
    let s : Reading = record r { nodes = r.nodes ++ node ∷ [] } in (
      (
        w.0,
        w.1,
        w.2,
        w.3,
        w.4,
        w.5,
        (IsDag-with_node (graph_of r) node (record { all_fit = w.6 }) fit).all_fit,
        All-same (λ id. width_of (graph_of s) id ≡ 8) r.outputs [] (nil_from_length r.outputs c.2) (All-nil (λ id. width_of (graph_of s) id ≡ 8)),
        All-same (λ id. width_of (graph_of s) id ≡ 1) r.asserted [] c.3 (All-nil (λ id. width_of (graph_of s) id ≡ 1)),
      ),
      counted_nodes s c.0 (omega (arith, c.1, length-append r.nodes (node ∷ []))) c.2 c.3,
    )
kept AtStatus r (StatusLine id) w c here h =
    (w, counted_outputs (record r { end = Exits id }) c.0 c.1 (omega (arith, c.2)) c.3 (eqb-true (width_of (graph_of r) id) 8 h))
kept AmongOutputs r (OutputLine i id) w c here h =
    let wide = eqb-true (width_of (graph_of r) id) 8 (and_parts (i == length r.outputs) (is_wide r id 8) h).1 in (
      (w.0, w.1, w.2, w.3, w.4, w.5, w.6, All-push (λ k. width_of (graph_of r) k ≡ 8) r.outputs id w.7 wide, w.8),
      counted_outputs (record r { outputs = r.outputs ++ id ∷ [] }) c.0 c.1 (omega (arith, c.2, length-append r.outputs (id ∷ []))) c.3 c.4,
    )
kept AmongAssertions r (AssertLine id) w c here h = (
  (w.0, w.1, w.2, w.3, w.4, w.5, w.6, w.7, All-push (λ k. width_of (graph_of r) k ≡ 1) r.asserted id w.8 (eqb-true (width_of (graph_of r) id) 1 h)),
  subst (λ (p : Spot). Counted p (with_line r (AssertLine id))) (sym here) c,
)
kept AmongAssertions r CheckLine w c here h = (w, c)
kept AtExit r ExitLine w c here h = (w, c)
kept _ r _ w c here h = cc
