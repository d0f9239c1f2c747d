use Rattle.std.proofs.Common.{◌≡◌, ◌∙◌, ℕ, zero, suc, subst, ◌<◌, ◌+◌, ◌^◌, List, [], ◌∷◌, ◌++◌, Some, length, map, ap, arith, sym, refl, true, false, append_assoc, length-append}
use Rattle.std.specs.Prelude.{◌==◌, nat_lt, All}
use Rattle.std.specs.List.{enumerate_from, list_all}
use Rattle.std.proofs.lemmas.Bool.{eq-eqb}
use Rattle.std.proofs.lemmas.Bool.Decides.{nat_tests}
use Rattle.std.proofs.lemmas.List.{append-nil}
use Rattle.std.proofs.lemmas.List.Elements.{All-head, All-tail}
use Rattle.bv_dag.specs.Nodes.{node_width, widths_of}
use Rattle.rv_decode.specs.declared.ends.PathStep.{PathStep}
use Rattle.rv_decode.specs.declared.ends.PathStep.TheVariants.{Taken, NotTaken, Target}
use Rattle.tree_core.specs.declared.choice.Choice.{Choice}
use Rattle.tree_core.specs.declared.choice.Choice.TheVariants.{No, Yes, Value, Rest}
use Rattle.smt_text.specs.NodeFits.{fits}
use Rattle.bv_dag.specs.Graphs.{AllFit, width_of}
use Rattle.bv_dag.specs.Queries.{AreBits}
use Rattle.bv_dag.specs.declared.nodes.Node.{Node}
use Rattle.smt_text.specs.declared.spot.Spot.TheVariants.{AmongAssertions, AtExit, AtLogic, Closed}
use Rattle.smt_text.specs.Grammar.{Reading, IsTextOf, agree, end_by, graph_of, is_small_choice, is_small_step, next_state, past_input, past_node, past_output, read_lines, stands, start, with_line}
use Rattle.smt_text.specs.LeafLines.{heading, assertions, input_lines, node_lines, output_lines, status_lines, leaf_text, leaf_lines}
use Rattle.fork_spec.specs.Leaves.{IsByteStatus, IsFull, IsSmallStep, Leaf}
use Rattle.tree_core.specs.Choices.{IsSmallChoice}
use Rattle.smt_text.specs.Lines.{LeafLine, LogicLine, InputLine, BaseLine, NodeLine, StatusLine, OutputLine, AssertLine, CheckLine, ExitLine}
use Rattle.smt_text.specs.Ends.{kind_of, end_word}
use Rattle.fork_spec.specs.declared.end.LeafEnd.{LeafEnd}
use Rattle.fork_spec.specs.declared.end.LeafEnd.TheVariants.{Exits, Traps, Cut}
use Rattle.smt_text.proofs.Fitting.{fits_here, width_here}

-- a line that may stand
reads : (r : Reading) (line : LeafLine) (rest : List LeafLine) → stands r.place r line ≡ true →
    read_lines r (line ∷ rest) ≡ read_lines (with_line r line) rest
unfolding read_lines next_state
reads r line rest h = rw h refl

same : (n : ℕ) → (n == n) ≡ true
same n = eq-eqb n n refl

small : (n : ℕ) → n < 2 ^ 32 → nat_lt n (2 ^ 32) ≡ true
small n h = grind (arith, nat_tests)

counted : (n : ℕ) → n < 2 ^ 64 → nat_lt n (2 ^ 64) ≡ true
counted n h = grind (arith, nat_tests)

below : (a b : ℕ) → a < b → (a == b) ≡ false
below a b h = grind (arith, nat_tests)

agrees : (end : LeafEnd) → agree (kind_of end) (end_word end) ≡ true
agrees (Exits status) = refl
agrees (Traps t) = refl
agrees (Cut cause) = refl

small_choice : (c : Choice) → IsSmallChoice c → is_small_choice c ≡ true
small_choice No h = refl
small_choice Yes h = refl
small_choice (Value v) h = small v h
small_choice Rest h = refl

pub small_choices : (cs : List Choice) → All IsSmallChoice cs → list_all is_small_choice cs ≡ true
small_choices [] h = refl
small_choices (c ∷ cs) h =
    rw (small_choice c (All-head IsSmallChoice c cs h)) (small_choices cs (All-tail IsSmallChoice c cs h))

small_step : (s : PathStep) → IsSmallStep s → is_small_step s ≡ true
small_step Taken h = refl
small_step NotTaken h = refl
small_step (Target address) h = small address h

pub small_path : (steps : List PathStep) → All IsSmallStep steps → list_all is_small_step steps ≡ true
small_path [] h = refl
small_path (s ∷ steps) h =
    rw (small_step s (All-head IsSmallStep s steps h)) (small_path steps (All-tail IsSmallStep s steps h))

-- The heading, from the first line on.
heading_read : (leaf : Leaf) (rest : List LeafLine) → IsFull leaf →
    read_lines start (heading leaf ++ rest)
    ≡ read_lines (record start {
      place = AtLogic;
      kind = kind_of leaf.end;
      choices = leaf.choices;
      path = leaf.path;
      steps = leaf.steps;
      end = end_by (kind_of leaf.end) (end_word leaf.end);
      inputs = leaf.condition.graph.inputs;
      node_count = length leaf.condition.graph.nodes;
      output_count = length leaf.outputs;
    }) rest
unfolding read_lines next_state
heading_read leaf rest h =
    rw (small_choices leaf.choices h.small_choices, small_path leaf.path h.small_path, small leaf.steps h.few_steps, agrees leaf.end, small leaf.condition.graph.inputs h.few_inputs, counted (length leaf.condition.graph.nodes) h.few_nodes, small (length leaf.outputs) h.few_outputs) refl

-- The inputs that are left.
inputs_read : (r : Reading) (more i : ℕ) (rest : List LeafLine) → i + more ≡ r.inputs →
    read_lines (past_input (record r { declared = i })) (input_lines i more ++ rest)
    ≡ read_lines (past_input (record r { declared = r.inputs })) rest
inputs_read r zero i rest h =
    let all : i ≡ r.inputs = omega (arith, h) in
    ap (λ n. read_lines (past_input (record r { declared = n })) rest) all
inputs_read r (suc more) i rest h =
    let left : (i == r.inputs) ≡ false = below i r.inputs (omega (arith, h)) in
    reads (past_input (record r { declared = i })) (InputLine i) (input_lines (i + 1) more ++ rest) (rw left (same i))
    ∙ inputs_read r more (i + 1) rest (omega (arith, h))

-- The nodes that are left.
nodes_read : (r : Reading) (whole before after : List Node) (rest : List LeafLine) →
    AllFit r.inputs whole → length whole ≡ r.node_count → before ++ after ≡ whole →
    read_lines (past_node (record r { nodes = before })) (map (λ (id, node). NodeLine id (width_of (record { inputs = r.inputs; nodes = whole }) id) node) (enumerate_from (length before) after) ++ rest)
    ≡ read_lines (past_node (record r { nodes = whole })) rest
nodes_read r whole before [] rest all many e =
    ap (λ (ns : List Node). read_lines (past_node (record r { nodes = ns })) rest) (sym (append-nil before) ∙ e)
nodes_read r whole before (n ∷ after) rest all many e =
    let next : length (before ++ n ∷ []) ≡ length before + 1 =
    omega (arith, length-append before (n ∷ [])) in
    let left : (length before == r.node_count) ≡ false =
    below (length before) r.node_count (omega (arith, many, ap length e, length-append before (n ∷ after))) in
    let fit : fits r.inputs (widths_of before) n ≡ true =
    fits_here r.inputs before n after (subst (AllFit r.inputs) (sym e) all) in
    let wide : (width_of (record { inputs = r.inputs; nodes = whole }) (length before) == node_width (widths_of before) n) ≡ true =
    eq-eqb _ _ (ap (λ (ns : List Node). width_of (record { inputs = r.inputs; nodes = ns }) (length before)) (sym e) ∙ width_here r.inputs before n after) in
    reads (past_node (record r { nodes = before })) (NodeLine (length before) (width_of (record { inputs = r.inputs; nodes = whole }) (length before)) n) _ (rw (left, same (length before), fit) wide)
    ∙ ap (λ k. read_lines (past_node (record r { nodes = before ++ n ∷ [] })) (map (λ (id, node). NodeLine id (width_of (record { inputs = r.inputs; nodes = whole }) id) node) (enumerate_from k after) ++ rest)) (sym next)
    ∙ nodes_read r whole (before ++ n ∷ []) after rest all many (append_assoc before (n ∷ []) after ∙ e)

-- The status, where there is one.
status_read : (r : Reading) (end : LeafEnd) (rest : List LeafLine) → length r.nodes ≡ r.node_count →
    IsByteStatus (graph_of r) end →
    read_lines (past_node (record r { end = end_by (kind_of end) (end_word end) })) (status_lines end ++ rest) ≡ read_lines (past_output (record r { end = end })) rest
status_read r (Exits status) rest many wide =
    reads (past_node (record r { end = Exits 0 })) (StatusLine status) rest (rw (eq-eqb _ _ many) (eq-eqb _ _ wide))
status_read r (Traps t) rest many wide = rw (eq-eqb _ _ many) refl
status_read r (Cut cause) rest many wide = rw (eq-eqb _ _ many) refl

-- The bytes of the output that are left.
outputs_read : (r : Reading) (before after : List ℕ) (rest : List LeafLine) →
    All (λ id. width_of (graph_of r) id ≡ 8) after → length before + length after ≡ r.output_count →
    read_lines (past_output (record r { outputs = before })) (map (λ (i, id). OutputLine i id) (enumerate_from (length before) after) ++ rest)
    ≡ read_lines (past_output (record r { outputs = before ++ after })) rest
outputs_read r before [] rest all many =
    ap (λ (ids : List ℕ). read_lines (past_output (record r { outputs = ids })) rest) (sym (append-nil before))
outputs_read r before (id ∷ after) rest all many =
    let next : length (before ++ id ∷ []) ≡ length before + 1 =
    omega (arith, length-append before (id ∷ [])) in
    let left : (length before == r.output_count) ≡ false =
    below (length before) r.output_count (omega (arith, many)) in
    let wide : (width_of (graph_of r) id == 8) ≡ true =
    eq-eqb _ _ (All-head (λ i. width_of (graph_of r) i ≡ 8) id after all) in
    reads (past_output (record r { outputs = before })) (OutputLine (length before) id) _ (rw (left, same (length before)) wide)
    ∙ ap (λ k. read_lines (past_output (record r { outputs = before ++ id ∷ [] })) (map (λ (i, id). OutputLine i id) (enumerate_from k after) ++ rest)) (sym next)
    ∙ outputs_read r (before ++ id ∷ []) after rest (All-tail (λ i. width_of (graph_of r) i ≡ 8) id after all) (omega (arith, many, next))
    ∙ ap (λ (ids : List ℕ). read_lines (past_output (record r { outputs = ids })) rest) (append_assoc before (id ∷ []) after)

outputs_done : (r : Reading) → length r.outputs ≡ r.output_count →
    past_output r ≡ record r { place = AmongAssertions }
outputs_done r many = rw (eq-eqb _ _ many) refl

-- The assertions.
asserts_read : (r : Reading) (before after : List ℕ) (rest : List LeafLine) →
    AreBits (graph_of r) after →
    read_lines (record r { place = AmongAssertions; asserted = before }) (map AssertLine after ++ rest)
    ≡ read_lines (record r { place = AmongAssertions; asserted = before ++ after }) rest
asserts_read r before [] rest all =
    ap (λ (ids : List ℕ). read_lines (record r { place = AmongAssertions; asserted = ids }) rest) (sym (append-nil before))
asserts_read r before (id ∷ after) rest all =
    reads (record r { place = AmongAssertions; asserted = before }) (AssertLine id) _ (eq-eqb _ _ (All-head (λ i. width_of (graph_of r) i ≡ 1) id after all))
    ∙ asserts_read r (before ++ id ∷ []) after rest (All-tail (λ i. width_of (graph_of r) i ≡ 1) id after all)
    ∙ ap (λ (ids : List ℕ). read_lines (record r { place = AmongAssertions; asserted = ids }) rest) (append_assoc before (id ∷ []) after)

-- the lines in one row
in_a_row : {X : Type 0} (heads logic inputs base nodes status outputs asserts tail : List X) →
    ((heads ++ ((logic ++ inputs) ++ (base ++ nodes) ++ status ++ outputs)) ++ asserts) ++ tail
    ≡ heads
    ++ (logic ++ (inputs ++ (base ++ (nodes ++ (status ++ (outputs ++ (asserts ++ tail)))))))
in_a_row heads logic inputs base nodes status outputs asserts tail = simp append_assoc

-- the reading behind the heading
abbrev pub begun : Leaf → Reading
begun leaf = record start {
  place = AtLogic;
  kind = kind_of leaf.end;
  choices = leaf.choices;
  path = leaf.path;
  steps = leaf.steps;
  end = end_by (kind_of leaf.end) (end_word leaf.end);
  inputs = leaf.condition.graph.inputs;
  node_count = length leaf.condition.graph.nodes;
  output_count = length leaf.outputs;
}

-- the reading behind the outputs
abbrev pub defined : Leaf → Reading
defined leaf =
    record (begun leaf) { declared = leaf.condition.graph.inputs; nodes = leaf.condition.graph.nodes; end = leaf.end; outputs = leaf.outputs }

abbrev pub ended : Leaf → Reading
ended leaf = record (defined leaf) { place = Closed; asserted = leaf.condition.asserted }

tail_read : (leaf : Leaf) → AreBits leaf.condition.graph leaf.condition.asserted →
    read_lines (past_output (defined leaf)) (assertions leaf.condition ++ (CheckLine ∷ ExitLine ∷ []))
    ≡ Some (ended leaf)
unfolding read_lines
tail_read leaf bits =
    let r = defined leaf in
    ap (λ (q : Reading). read_lines q (assertions leaf.condition ++ (CheckLine ∷ ExitLine ∷ []))) (outputs_done r refl)
    ∙ asserts_read r [] leaf.condition.asserted (CheckLine ∷ ExitLine ∷ []) bits
    ∙ reads (record r { place = AmongAssertions; asserted = leaf.condition.asserted }) CheckLine (ExitLine ∷ []) refl
    ∙ reads (record r { place = AtExit; asserted = leaf.condition.asserted }) ExitLine [] refl

pub all_read : (leaf : Leaf) → IsFull leaf → read_lines start (leaf_lines leaf) ≡ Some (ended leaf)
unfolding leaf_lines
all_read leaf h =
    let graph = leaf.condition.graph in
    let tail = CheckLine ∷ ExitLine ∷ [] in
    let outputs = output_lines leaf.outputs ++ (assertions leaf.condition ++ tail) in
    let status = status_lines leaf.end ++ outputs in
    let nodes = node_lines graph ++ status in
    let inputs = input_lines 0 graph.inputs ++ (BaseLine ∷ nodes) in
    let r = begun leaf in
    let declared = record r { declared = graph.inputs } in
    let built = record declared { nodes = graph.nodes } in
    ap (read_lines start) (in_a_row (heading leaf) (LogicLine ∷ []) (input_lines 0 graph.inputs) (BaseLine ∷ []) (node_lines graph) (status_lines leaf.end) (output_lines leaf.outputs) (assertions leaf.condition) tail)
    ∙ heading_read leaf (LogicLine ∷ inputs) h
    ∙ reads r LogicLine inputs refl
    ∙ inputs_read r graph.inputs 0 (BaseLine ∷ nodes) (omega arith)
    ∙ reads (past_input declared) BaseLine nodes (rw (same graph.inputs) refl)
    ∙ nodes_read declared graph.nodes [] graph.nodes status h.is_dag.all_fit refl refl
    ∙ status_read built leaf.end outputs refl h.status
    ∙ outputs_read (record built { end = leaf.end }) [] leaf.outputs (assertions leaf.condition ++ tail) h.bytes (omega arith)
    ∙ tail_read leaf h.bits

pub text_reads : (leaf : Leaf) → IsFull leaf → IsTextOf (leaf_text leaf) leaf
unfolding leaf_text
text_reads leaf h = record {
  lines = leaf_lines leaf;
  read_as = record { reading = ended leaf; all_stand = all_read leaf h; to_the_end = refl; same = refl };
  is_theirs = refl;
}
