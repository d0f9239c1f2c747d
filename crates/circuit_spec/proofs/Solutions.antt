-- The bytes that a satisfying valuation means are a solution of the condition.
use Rattle.std.proofs.Common.{◌≡◌, ℕ, suc, ◌==◌, ◌&&◌, Bool, true, List, [], ◌∷◌, length, get_or, map, fold, None, refl, ap, sym, subst, ◌∙◌, arith}
use Rattle.std.specs.List.{list_all}
use Rattle.std.proofs.lemmas.Bool.{and_parts, and_from, eq-eqb}
use Rattle.std.proofs.lemmas.List.{length-map, length-replicate}
use Rattle.cnf_form.specs.Literals.{Literal}
use Rattle.cnf_form.specs.Valuations.{literal_value, satisfies}
use Rattle.bv_dag.specs.BitVectors.{BitVector}
use Rattle.bv_dag.specs.Nodes.{map_in_turn, values, widths_of, vector_at, width}
use Rattle.bv_dag.specs.Graphs.{Graph, IsDag, number_of, width_of}
use Rattle.bv_dag.specs.Queries.{Condition, AreBits, holds}
use Rattle.bv_dag.specs.declared.nodes.Node.{Node}
use Rattle.bv_dag.proofs.Values.{map-width-values}
use Rattle.circuit_spec.specs.Formulas.{Formula, with_clause}
use Rattle.circuit_spec.specs.Bytes.{number_of_row, input_byte, bytes_of}
use Rattle.circuit_spec.specs.Circuits.{Circuit, row_at, lowest_of, circuit_with, no_terms, circuit_of, with_asserted, clauses}
use Rattle.circuit_spec.proofs.Truths.{and_true, and_assoc}
use Rattle.circuit_spec.proofs.GateMeaning.{one_added}
use Rattle.circuit_spec.proofs.EarlierClauses.{Holds, asserted_before, truth_before}
use Rattle.circuit_spec.proofs.Words.{one_bit_number, words_of, row_word, row_width}
use Rattle.circuit_spec.proofs.InputBytes.{bytes_in, nodes_count, no_bytes}
use Rattle.circuit_spec.proofs.CircuitMeaning.{FitFrom, values_from, rows_mean}

all_fit : (graph : Graph) → IsDag graph → FitFrom graph.inputs [] graph.nodes
unfolding widths_of map_in_turn
all_fit graph dag = dag.all_fit

pub in_turn : (input : List ℕ) (nodes : List Node) → values input nodes ≡ values_from input [] nodes
unfolding values map_in_turn
in_turn input nodes = refl

pub start_fits : (q : Condition) → IsDag q.graph → FitFrom (length (no_terms q.graph.inputs).inputs) [] q.graph.nodes
start_fits q dag = subst (λ (n : ℕ). FitFrom n [] q.graph.nodes) (sym (length-replicate q.graph.inputs None)) (all_fit q.graph dag)

-- the words of a circuit's rows
pub circuit_words : (q : Condition) (v : ℕ → Bool) → IsDag q.graph → v 1 ≡ true → Holds v (circuit_of q).formula → words_of v (circuit_of q).rows ≡ values (bytes_of q v) q.graph.nodes
unfolding circuit_of bytes_of
circuit_words q v dag truth h =
    let start : Circuit = no_terms q.graph.inputs in
    rows_mean v (fold circuit_with start q.graph.nodes).inputs q.graph.nodes start truth (no_bytes q.graph.inputs) (start_fits q dag) refl h
    ∙ sym (in_turn (bytes_in v (fold circuit_with start q.graph.nodes).inputs) q.graph.nodes)

-- there is a byte for each input
pub bytes_count : (q : Condition) (v : ℕ → Bool) → length (bytes_of q v) ≡ q.graph.inputs
unfolding circuit_of bytes_of
bytes_count q v =
    length-map (circuit_of q).inputs (input_byte v) ∙ nodes_count q.graph.nodes (no_terms q.graph.inputs) ∙ length-replicate q.graph.inputs None

-- a condition's clauses say that its terms are made so, and that each is 1 that is asserted
asserted_bit : (v : ℕ → Bool) (graph : Graph) (input : List ℕ) (rows : List (List Literal)) (id : ℕ) → words_of v rows ≡ values input graph.nodes → width_of graph id ≡ 1
    → literal_value v (lowest_of (row_at rows id)) ≡ (number_of graph id input == 1)
asserted_bit v graph input rows id words one =
    let width_is : length (row_at rows id) ≡ 1
    = row_width v rows id ∙ ap (λ (ws : List BitVector). get_or (map width ws) id 0) words ∙ ap (λ (ws : List ℕ). get_or ws id 0) (map-width-values input graph.nodes) ∙ one in
    let same : number_of_row v (row_at rows id) ≡ number_of graph id input
    = ap (λ (s : BitVector). s.number) (row_word v rows id) ∙ ap (λ (ws : List BitVector). (vector_at ws id).number) words in
    one_bit_number v (row_at rows id) width_is ∙ ap (λ m. m == 1) same

pub asserted_means : (v : ℕ → Bool) (graph : Graph) (input : List ℕ) (rows : List (List Literal)) (ids : List ℕ) (f : Formula) → words_of v rows ≡ values input graph.nodes → AreBits graph ids
    → satisfies v (with_asserted rows ids f).clauses ≡ (satisfies v f.clauses && list_all (λ id. number_of graph id input == 1) ids)
unfolding with_asserted
asserted_means v graph input rows [] f words bits = sym (and_true (satisfies v f.clauses))
asserted_means v graph input rows (id ∷ ids) f words bits =
    let l : Literal = lowest_of (row_at rows id) in
    let first : width_of graph id ≡ 1 = bits 0 id (omega arith) in
    asserted_means v graph input rows ids (with_clause (l ∷ []) f) words (λ k d within. bits (suc k) d (omega arith))
    ∙ ap (λ b. b && list_all (λ id. number_of graph id input == 1) ids) (one_added v l f ∙ ap (λ b. satisfies v f.clauses && b) (asserted_bit v graph input rows id words first))
    ∙ and_assoc (satisfies v f.clauses) (number_of graph id input == 1) (list_all (λ id. number_of graph id input == 1) ids)

pub solution : (q : Condition) (v : ℕ → Bool) → IsDag q.graph → AreBits q.graph q.asserted → satisfies v (clauses q) ≡ true → holds q (bytes_of q v) ≡ true
unfolding clauses
solution q v dag bits h =
    let circuit : Holds v (circuit_of q).formula = asserted_before v (circuit_of q).rows q.asserted (circuit_of q).formula h in
    let words : words_of v (circuit_of q).rows ≡ values (bytes_of q v) q.graph.nodes = circuit_words q v dag (truth_before q v h) circuit in
    and_from _ _ (eq-eqb _ _ (bytes_count q v))
    (and_parts _ _ (sym (asserted_means v q.graph (bytes_of q v) (circuit_of q).rows q.asserted (circuit_of q).formula words bits) ∙ h)).1
