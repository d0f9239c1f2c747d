-- The lines of a question, one more at a time.
use Rattle.std.proofs.Common.{◌≡◌, ◌∙◌, ℕ, zero, suc, ◌+◌, ◌≤◌, List, [], ◌∷◌, ◌++◌, length, map, take, get_or, ◌<◌, refl, sym, ap, arith, add-zero, add-one, append_assoc, length-append}
use Rattle.std.specs.List.{enumerate_from}
use Rattle.std.proofs.lemmas.List.{map-append, length-take-le}
use Rattle.std.proofs.lemmas.Grind.{take_at_read}
use Rattle.bv_dag.specs.Graphs.{Graph, width_of, with_node}
use Rattle.bv_dag.specs.Queries.{Condition}
use Rattle.bv_dag.specs.declared.nodes.Node as dag
use Rattle.bv_dag.proofs.TermLaws.{width_of-with_node}
use Rattle.cert_form.specs.declared.line.CertLine.{CertLine}
use Rattle.cert_form.specs.declared.line.CertLine.TheVariants.{Input, Node}
use Rattle.cert_form.specs.declared.node_line.DefinedNode.{DefinedNode}
use Rattle.cert_query.specs.QuestionLines.{assertion_lines, body_lines, heading_lines, input_lines, node_line, node_lines, question_lines}
use Rattle.cert_query.specs.Terms.{IsPushed, IsTakenNode}
use Rattle.cert_query.proofs.Passing.{one_more}

-- one more line behind some
pub one_pushed : (old done more before after : List CertLine) (line : CertLine) → before ≡ old ++ done → after ≡ before ++ line ∷ []
    → more ≡ done ++ line ∷ [] → after ≡ old ++ more
one_pushed old done more before after line so_far push next =
    push ∙ ap (λ (ls : List CertLine). ls ++ line ∷ []) so_far ∙ append_assoc old done (line ∷ []) ∙ ap (λ (ls : List CertLine). old ++ ls) (sym next)

-- ---- inputs

inputs_suc : (k n : ℕ) → input_lines k (suc n) ≡ input_lines k n ++ Input (k + n) ∷ []
inputs_suc k zero = rw add-zero refl
inputs_suc k (suc n) =
    let place : k + 1 + n ≡ k + suc n = omega arith in
    ap (λ (ls : List CertLine). Input k ∷ ls) (inputs_suc (k + 1) n ∙ ap (λ i. input_lines (k + 1) n ++ Input i ∷ []) place)

pub input_push : (i : ℕ) → input_lines 0 (i + 1) ≡ input_lines 0 i ++ Input i ∷ []
input_push i =
    let whole : 0 + i ≡ i = omega arith in
    ap (input_lines 0) (add-one i) ∙ inputs_suc 0 i ∙ ap (λ k. input_lines 0 i ++ Input k ∷ []) whole

pub input_more : (lines rest more : List CertLine) (i : ℕ) → lines ≡ input_lines 0 i ++ rest → rest ≡ Input i ∷ more → lines ≡ input_lines 0 (i + 1) ++ more
input_more lines rest more i passed next =
    one_more lines (input_lines 0 i) rest (Input i) more passed next ∙ ap (λ (ls : List CertLine). ls ++ more) (sym (input_push i))

-- ---- nodes

numbered_push : {X : Type 0} (k : ℕ) (xs : List X) (x : X) →
    enumerate_from k (xs ++ x ∷ []) ≡ enumerate_from k xs ++ (k + length xs, x) ∷ []
numbered_push k [] x = rw add-zero refl
numbered_push {X} k (y ∷ xs) x =
    let place : k + 1 + length xs ≡ k + suc (length xs) = omega arith in
    ap (λ (ps : List (ℕ × X)). (k, y) ∷ ps) (numbered_push (k + 1) xs x ∙ ap (λ (i : ℕ). let p : ℕ × X = (i, x) in enumerate_from (k + 1) xs ++ p ∷ []) place)

-- one more of the first nodes of a graph
pub node_push : (graph : Graph) (nodes : List dag.Node) (i : ℕ) (d : dag.Node) → i < length nodes
    → map (node_line graph) (enumerate_from 0 (take (i + 1) nodes))
    ≡ map (node_line graph) (enumerate_from 0 (take i nodes)) ++ node_line graph (i, get_or nodes i d) ∷ []
node_push graph nodes i d there =
    let node = get_or nodes i d in
    let first = take i nodes in
    let place : 0 + length first ≡ i = omega (arith, length-take-le i nodes (omega (arith, there))) in
    ap (λ ns. map (node_line graph) (enumerate_from 0 ns)) (take_at_read nodes i d there).1
    ∙ ap (map (node_line graph)) (numbered_push 0 first node)
    ∙ map-append (node_line graph) (enumerate_from 0 first) ((0 + length first, node) ∷ [])
    ∙ ap (λ (k : ℕ). map (node_line graph) (enumerate_from 0 first) ++ node_line graph (k, node) ∷ []) place

-- a push keeps the lines of what is there
lines_kept : (graph : Graph) (n : dag.Node) (k : ℕ) (xs : List dag.Node) → k + length xs ≤ length graph.nodes →
    map (node_line (with_node graph n)) (enumerate_from k xs) ≡ map (node_line graph) (enumerate_from k xs)
lines_kept graph n k [] fit = refl
lines_kept graph n k (x ∷ xs) fit =
    ap (λ (w : ℕ). Node (record { id = k; width = w; node = x }) ∷ map (node_line (with_node graph n)) (enumerate_from (k + 1) xs)) (width_of-with_node graph n k (omega (arith, fit)))
    ∙ ap (λ (ls : List CertLine). Node (record { id = k; width = width_of graph k; node = x }) ∷ ls) (lines_kept graph n (k + 1) xs (omega (arith, fit)))

nodes_push : (graph : Graph) (n : dag.Node) →
    node_lines (with_node graph n) ≡ node_lines graph ++ node_line (with_node graph n) (length graph.nodes, n) ∷ []
nodes_push graph n =
    let whole : 0 + length graph.nodes ≡ length graph.nodes = omega arith in
    ap (map (node_line (with_node graph n))) (numbered_push 0 graph.nodes n)
    ∙ map-append (node_line (with_node graph n)) (enumerate_from 0 graph.nodes) ((0 + length graph.nodes, n) ∷ [])
    ∙ ap (λ (ls : List CertLine). ls ++ node_line (with_node graph n) (0 + length graph.nodes, n) ∷ []) (lines_kept graph n 0 graph.nodes (omega arith))
    ∙ ap (λ (i : ℕ). node_lines graph ++ node_line (with_node graph n) (i, n) ∷ []) whole

-- the line of a node that was pushed
line_pushed : (old new : Graph) (defined : DefinedNode) → IsPushed old new defined → Node defined ≡ node_line (with_node old defined.node) (length old.nodes, defined.node)
line_pushed old new defined pushed =
    let wide : defined.width ≡ width_of (with_node old defined.node) (length old.nodes) = pushed.wide ∙ ap (λ (g : Graph). width_of g (length old.nodes)) pushed.put in
    ap (λ (i : ℕ). Node (record { id = i; width = defined.width; node = defined.node })) pushed.place
    ∙ ap (λ (w : ℕ). Node (record { id = length old.nodes; width = w; node = defined.node })) wide

pub node_more : (old new : Graph) (lines rest more : List CertLine) → lines ≡ node_lines old ++ rest → IsTakenNode old new rest more → lines ≡ node_lines new ++ more
node_more old new lines rest more passed taken =
    let node = taken.defined.node in
    one_more lines (node_lines old) rest (Node taken.defined) more passed taken.split
    ∙ ap (λ (l : CertLine). (node_lines old ++ l ∷ []) ++ more) (line_pushed old new taken.defined taken.pushed)
    ∙ ap (λ (ls : List CertLine). ls ++ more) (sym (ap node_lines taken.pushed.put ∙ nodes_push old node))

pub inputs_kept : (old new : Graph) (rest more : List CertLine) → IsTakenNode old new rest more → new.inputs ≡ old.inputs
inputs_kept old new rest more taken = ap (λ (g : Graph). g.inputs) taken.pushed.put

pub one_node_more : (old new : Graph) (rest more : List CertLine) → IsTakenNode old new rest more → length new.nodes ≡ length old.nodes + 1
one_node_more old new rest more taken =
    ap (λ (g : Graph). length g.nodes) taken.pushed.put ∙ length-append old.nodes (taken.defined.node ∷ [])

-- ---- all of them

pub whole_question : (lines rest more : List CertLine) (inputs nodes : ℕ) (q : Condition) → lines ≡ heading_lines inputs nodes ++ rest →
    q.graph.inputs ≡ inputs → length q.graph.nodes ≡ nodes → rest ≡ body_lines q ++ more → lines ≡ question_lines q ++ more
unfolding question_lines
whole_question lines rest more inputs nodes q heading same_inputs same_nodes body =
    heading ∙ ap (λ (n : ℕ). heading_lines n nodes ++ rest) (sym same_inputs) ∙ ap (λ (n : ℕ). heading_lines q.graph.inputs n ++ rest) (sym same_nodes)
    ∙ ap (λ (ls : List CertLine). heading_lines q.graph.inputs (length q.graph.nodes) ++ ls) body
    ∙ sym (append_assoc (heading_lines q.graph.inputs (length q.graph.nodes)) (body_lines q) more)

-- they are pushed part by part
pub question_pushed : (q : Condition) (old heading nodes after : List CertLine)
    → heading ≡ old ++ heading_lines q.graph.inputs (length q.graph.nodes) → nodes ≡ heading ++ node_lines q.graph
    → after ≡ nodes ++ assertion_lines q.asserted → after ≡ old ++ question_lines q
unfolding question_lines
question_pushed q old heading nodes after first second third =
    let top = heading_lines q.graph.inputs (length q.graph.nodes) in
    let end = assertion_lines q.asserted in
    third ∙ ap (λ (ls : List CertLine). ls ++ end) (second ∙ ap (λ (ls : List CertLine). ls ++ node_lines q.graph) first)
    ∙ append_assoc (old ++ top) (node_lines q.graph) end ∙ append_assoc old top (body_lines q)
