-- Input bytes on which a condition holds have a valuation that satisfies its clauses.
use Rattle.std.proofs.Common.{◌≡◌, ℕ, ◌<◌, Bool, true, List, [], ◌∷◌, ◌++◌, length, get_or, fold, Option, Some, None, refl, ap, sym, subst, ◌∙◌, slice_index}
use Rattle.std.specs.Prelude.{All}
use Rattle.std.proofs.lemmas.Bool.{and_parts, and_from}
use Rattle.std.proofs.lemmas.List.{get_or-set_same}
use Rattle.cnf_form.specs.Literals.{Literal}
use Rattle.cnf_form.specs.Valuations.{satisfies}
use Rattle.bv_dag.specs.BitVectors.{BitVector}
use Rattle.bv_dag.specs.Nodes.{Fits, node_value, node_width, values, vector_at}
use Rattle.bv_dag.specs.Graphs.{IsDag}
use Rattle.bv_dag.specs.Queries.{Condition, AreBits, holds}
use Rattle.bv_dag.specs.declared.nodes.Node.{Node}
use Rattle.bv_dag.specs.declared.nodes.Node.TheVariants.{Num, Input, Not, Neg, Binary, Compare, Ite, Extract, Extend, Concat}
use Rattle.circuit_spec.specs.Rows.{fresh_row}
use Rattle.circuit_spec.specs.Bytes.{number_of_row, bytes_of, MeansBytes}
use Rattle.circuit_spec.specs.Circuits.{Circuit, with_input, circuit_with, no_terms, circuit_of, clauses}
use Rattle.circuit_spec.proofs.InputBytes.{Inputs, input_at, AreBytes, AreKept, byte_is, bytes_in, no_bytes, nodes_bytes, nodes_kept}
use Rattle.circuit_spec.proofs.CircuitMeaning.{FitFrom, fits_later, values_from}
use Rattle.circuit_spec.proofs.Solutions.{asserted_means, circuit_words, in_turn, start_fits}
use Rattle.circuit_spec.proofs.Assigning.{condition_has}

-- Each input byte of a term has literals behind it.
input_there : (c : Circuit) (i : ℕ) (o : Option (List Literal)) → input_at c.inputs i ≡ o → i < length c.inputs → (row : List Literal) × (input_at (with_input o c i).inputs i ≡ Some row)
input_there c i None is within = ((fresh_row 8 c.formula).0, get_or-set_same c.inputs i (Some (fresh_row 8 c.formula).0) None within)
input_there c i (Some row) is within = (row, is)

-- Terms are worth the same on bytes that agree where they occur.
module _ (v : ℕ → Bool) (input : List ℕ) (all : Inputs) (agree : (i : ℕ) (row : List Literal) → input_at all i ≡ Some row → slice_index (bytes_in v all) i ≡ slice_index input i) where
  node_same : (c : Circuit) (n : Node) (before : List ℕ) (operand : ℕ → BitVector) → Fits (length c.inputs) before n → AreKept (circuit_with c n).inputs all → node_value (bytes_in v all) operand n ≡ node_value input operand n
  unfolding circuit_with
  node_same c (Num w m) before operand fits kept = refl
  node_same c (Input i) before operand fits kept =
      let there = input_there c i (input_at c.inputs i) refl fits in
      ap (λ (m : ℕ). record { width = 8; number = m }) (agree i there.0 (kept.each i there.0 there.1))
  node_same c (Not a) before operand fits kept = refl
  node_same c (Neg a) before operand fits kept = refl
  node_same c (Binary op a b) before operand fits kept = refl
  node_same c (Compare op a b) before operand fits kept = refl
  node_same c (Ite t a b) before operand fits kept = refl
  node_same c (Extract high low a) before operand fits kept = refl
  node_same c (Extend by signed a) before operand fits kept = refl
  node_same c (Concat high low) before operand fits kept = refl

  nodes_same : (nodes : List Node) (c : Circuit) (before : List ℕ) (words : List BitVector) → FitFrom (length c.inputs) before nodes → (fold circuit_with c nodes).inputs ≡ all → values_from (bytes_in v all) words nodes ≡ values_from input words nodes
  nodes_same [] c before words fits ends = refl
  nodes_same (n ∷ nodes) c before words fits ends =
      let kept : AreKept (circuit_with c n).inputs all = subst (λ (k : Inputs). AreKept (circuit_with c n).inputs k) ends (nodes_kept nodes (circuit_with c n)) in
      let one = node_same c n before (vector_at words) (fits 0 n refl) kept in
      nodes_same nodes (circuit_with c n) (before ++ node_width before n ∷ []) (words ++ node_value (bytes_in v all) (vector_at words) n ∷ []) (fits_later c n nodes before fits) ends
      ∙ ap (λ (w : BitVector). values_from input (words ++ w ∷ []) nodes) one

circuit_bytes : (q : Condition) → AreBytes (circuit_of q).inputs
unfolding circuit_of
circuit_bytes q = nodes_bytes q.graph.nodes (no_terms q.graph.inputs) (no_bytes q.graph.inputs)

-- the terms are worth what they are on the bytes
same_values : (q : Condition) (v : ℕ → Bool) (input : List ℕ) → IsDag q.graph → ((i : ℕ) (row : List Literal) → input_at (circuit_of q).inputs i ≡ Some row → number_of_row v row ≡ get_or input i 0)
    → values (bytes_of q v) q.graph.nodes ≡ values input q.graph.nodes
unfolding circuit_of bytes_of
same_values q v input dag worth =
    let all : Inputs = (circuit_of q).inputs in
    let agree : (i : ℕ) (row : List Literal) → input_at all i ≡ Some row → slice_index (bytes_in v all) i ≡ slice_index input i
    = λ i row is. byte_is v all i row ((circuit_bytes q).each i row is) is ∙ worth i row is in
    in_turn (bytes_in v all) q.graph.nodes ∙ nodes_same v input all agree q.graph.nodes (no_terms q.graph.inputs) [] [] (start_fits q dag) refl ∙ sym (in_turn input q.graph.nodes)

pub has_valuation : (q : Condition) (input : List ℕ) → IsDag q.graph → AreBits q.graph q.asserted → All (λ b. b < 256) input → holds q input ≡ true → (v : ℕ → Bool) × (satisfies v (clauses q) ≡ true) × MeansBytes q v input
unfolding clauses
has_valuation q input dag bits small is =
    let has = condition_has q input small in
    let words = circuit_words q has.valuation dag has.truth has.satisfied ∙ same_values q has.valuation input dag has.worth in
    (has.valuation, asserted_means has.valuation q.graph input (circuit_of q).rows q.asserted (circuit_of q).formula words bits ∙ and_from _ _ has.satisfied (and_parts _ _ is).1, has.worth)
