-- Each list of input bytes has a valuation of a condition's terms.
use Rattle.std.proofs.Common.{◌≡◌, ℕ, zero, suc, ◌+◌, ◌*◌, ◌^◌, ◌/◌, ◌%◌, ◌==◌, ◌<◌, ◌≤◌, Bool, true, List, [], ◌∷◌, ◌++◌, length, get_or, take, drop, replicate, fold, All, Option, Some, None, refl, ap, sym, ◌∙◌, subst, inl, inr, arith}
use Rattle.std.proofs.Math.Nat.{pow-succ'}
use Rattle.std.proofs.lemmas.List.Elements.{All-nil, All-cons, All-append, All-push, All-take, All-drop, All-replicate, All-weaker}
use Rattle.cnf_form.specs.Literals.{Literal, same_truth}
use Rattle.cnf_form.specs.Valuations.{literal_value, satisfies}
use Rattle.bv_dag.specs.Queries.{Condition}
use Rattle.bv_dag.specs.declared.nodes.Node.{Node}
use Rattle.bv_dag.specs.declared.nodes.Node.TheVariants.{Num, Input, Not, Neg, Binary, Compare, Ite, Extract, Extend, Concat}
use Rattle.circuit_spec.specs.Formulas.{Formula, constant, next_variable, with_variable, only_truth}
use Rattle.circuit_spec.specs.Gates.{mux_gate}
use Rattle.circuit_spec.specs.Rows.{negations, zeros, number_row, fresh_row, each, neg_row}
use Rattle.circuit_spec.specs.Bytes.{bit_of, number_of_row}
use Rattle.circuit_spec.specs.Circuits.{Circuit, row_at, lowest_of, extension_of, binary_row, compare_gate, with_row, with_new_input, with_input, circuit_with, no_terms, circuit_of}
use Rattle.circuit_spec.proofs.EarlierClauses.{Holds}
use Rattle.circuit_spec.proofs.GateMeaning.{one_added}
use Rattle.circuit_spec.proofs.Truths.{same_true}
use Rattle.circuit_spec.proofs.Numbers.{number_nil, number_cons, low_bit}
use Rattle.circuit_spec.proofs.InputBytes.{input_at, set_cases, none_occurs}
use Rattle.circuit_spec.proofs.Scopes.{Agree, Below, RowBelow, IsScoped, MakesLiteral, MakesRow, agree_fewer, number_same, row_more, All-at, clause_variables, stays, changed, changed_at, changed_above}
use Rattle.circuit_spec.proofs.RowsBelow.{negations_below, zeros_below, number_row_below, extension_below, lowest_below}
use Rattle.circuit_spec.proofs.GateExtensions.{muxes}
use Rattle.circuit_spec.proofs.Extending.{each_extends, add_extends, binary_extends, compare_extends}

-- new variables are worth any number that has room in them
pub record MakesNumber (f : Formula) (w : ℕ) (made : List Literal × Formula) : Type 0 where
  pub more : f.variables ≤ made.1.variables
  pub scoped : IsScoped made.1
  pub row : RowBelow made.1.variables made.0
  pub worth : (v : ℕ → Bool) → Holds v f → (n : ℕ) → n < 2 ^ w → (u : ℕ → Bool) × Agree f.variables v u × Holds u made.1 × (number_of_row u made.0 ≡ n)

next_scoped : (f : Formula) → IsScoped f → IsScoped (with_variable f)
next_scoped f is = record {
  first = omega (arith, is.first);
  only = λ v w same. is.only v w (agree_fewer f.variables (f.variables + 1) v w (omega arith) same);
}

half_small : (n w : ℕ) → n < 2 ^ suc w → n / 2 < 2 ^ w
half_small n w small =
    let double : 2 ^ suc w ≡ 2 * 2 ^ w = pow-succ' 2 w in
    omega arith

fresh_number : (w : ℕ) (f : Formula) → IsScoped f → MakesNumber f w (fresh_row w f)
unfolding fresh_row
fresh_number zero f is = record {
  more = omega arith;
  scoped = is;
  row = All-nil (Below f.variables);
  worth = λ v h n small. (v, (λ k le. refl), h, number_nil v ∙ omega (arith, small));
}
fresh_number (suc w) f is =
    let o : Literal = next_variable f in
    let made : List Literal × Formula = fresh_row w (with_variable f) in
    let rest : MakesNumber (with_variable f) w made = fresh_number w (with_variable f) (next_scoped f is) in
    record {
      more = omega (arith, rest.more);
      scoped = rest.scoped;
      row = All-cons (Below made.1.variables) o made.0 rest.more rest.row;
      worth = λ v h n small.
          let a : ℕ → Bool = changed v (f.variables + 1) (n % 2 == 1) in
          let same : Agree f.variables v a = changed_above v f.variables (f.variables + 1) (n % 2 == 1) refl in
          let b = rest.worth a (sym (is.only v a same) ∙ h) (n / 2) (half_small n w small) in
          let value : literal_value b.0 o ≡ (n % 2 == 1) =
          same_true (b.0 (f.variables + 1)) ∙ sym (b.1 (f.variables + 1) (omega arith)) ∙ changed_at v (f.variables + 1) (n % 2 == 1) (f.variables + 1) refl in (
            b.0,
            (λ k le. same k le ∙ b.1 k (omega (arith, le))),
            b.2,
            number_cons b.0 o made.0 ∙ ap (λ x. bit_of x + 2 * number_of_row b.0 made.0) value ∙ ap (λ x. bit_of (n % 2 == 1) + 2 * x) b.3 ∙ low_bit n,
          );
    }

-- What is kept while terms are added: all literals are within, and a valuation satisfies the clauses so far and has
-- the bytes in the inputs that have occurred.
pub record HasBytes (bytes : List ℕ) (c : Circuit) : Type 0 where
  pub scoped : IsScoped c.formula
  pub rows : All (RowBelow c.formula.variables) c.rows
  pub inputs : (i : ℕ) (row : List Literal) → input_at c.inputs i ≡ Some row → RowBelow c.formula.variables row
  pub valuation : ℕ → Bool
  pub truth : valuation 1 ≡ true
  pub satisfied : Holds valuation c.formula
  pub worth : (i : ℕ) (row : List Literal) → input_at c.inputs i ≡ Some row → number_of_row valuation row ≡ get_or bytes i 0

row_within : (bytes : List ℕ) (c : Circuit) (id : ℕ) → HasBytes bytes c → RowBelow c.formula.variables (row_at c.rows id)
row_within bytes c id is = All-at (RowBelow c.formula.variables) c.rows id [] (All-nil (Below c.formula.variables)) is.rows

rows_more : (m n : ℕ) (rows : List (List Literal)) → m ≤ n → All (RowBelow m) rows → All (RowBelow n) rows
rows_more m n rows le all = All-weaker (RowBelow m) (RowBelow n) (λ row within. row_more m n row le within) rows all

-- one more row
row_has : (bytes : List ℕ) (c : Circuit) (made : List Literal × Formula) → HasBytes bytes c → MakesRow c.formula made → HasBytes bytes (with_row c made)
row_has bytes c made is one =
    let m : ℕ = c.formula.variables in
    let n : ℕ = made.1.variables in
    let w = one.0.extended is.valuation is.satisfied in
    record {
      scoped = one.0.scoped;
      rows = All-push (RowBelow n) c.rows made.0 (rows_more m n c.rows one.0.more is.rows) one.1;
      inputs = λ i row at. row_more m n row one.0.more (is.inputs i row at);
      valuation = w.0;
      truth = sym (w.1 1 is.scoped.first) ∙ is.truth;
      satisfied = w.2;
      worth = λ i row at. sym (number_same is.valuation w.0 m row w.1 (is.inputs i row at)) ∙ is.worth i row at;
    }

-- a row of literals that there are
same_has : (bytes : List ℕ) (c : Circuit) (row : List Literal) → HasBytes bytes c → RowBelow c.formula.variables row → HasBytes bytes (with_row c (row, c.formula))
same_has bytes c row is within = row_has bytes c (row, c.formula) is (stays c.formula is.scoped, within)

-- an input byte that occurs for the first time
new_has : (bytes : List ℕ) (c : Circuit) (i : ℕ) → All (λ b. b < 256) bytes → HasBytes bytes c → HasBytes bytes (with_new_input c i (fresh_row 8 c.formula))
new_has bytes c i small is =
    let made : List Literal × Formula = fresh_row 8 c.formula in
    let m : ℕ = c.formula.variables in
    let n : ℕ = made.1.variables in
    let one : MakesNumber c.formula 8 made = fresh_number 8 c.formula is.scoped in
    let w = one.worth is.valuation is.satisfied (get_or bytes i 0) (All-at (λ b. b < 256) bytes i 0 (omega arith) small) in
    record {
      scoped = one.scoped;
      rows = All-push (RowBelow n) c.rows made.0 (rows_more m n c.rows one.more is.rows) one.row;
      inputs = λ j row at. elim (set_cases c.inputs i j made.0 row at) [
        | inl e ↦ subst (RowBelow n) e.1 one.row
        | inr old ↦ row_more m n row one.more (is.inputs j row old)
      ];
      valuation = w.0;
      truth = sym (w.1 1 is.scoped.first) ∙ is.truth;
      satisfied = w.2;
      worth = λ j row at. elim (set_cases c.inputs i j made.0 row at) [
        | inl e ↦ ap (number_of_row w.0) (sym e.1) ∙ w.3 ∙ ap (λ k. get_or bytes k 0) (sym e.0)
        | inr old ↦ sym (number_same is.valuation w.0 m row w.1 (is.inputs j row old)) ∙ is.worth j row old
      ];
    }

input_has : (bytes : List ℕ) (c : Circuit) (i : ℕ) (o : Option (List Literal)) → All (λ b. b < 256) bytes → HasBytes bytes c → input_at c.inputs i ≡ o → HasBytes bytes (with_input o c i)
input_has bytes c i None small is at = new_has bytes c i small is
input_has bytes c i (Some row) small is at = same_has bytes c row is (is.inputs i row at)

test_has : (bytes : List ℕ) (c : Circuit) (made : Literal × Formula) → HasBytes bytes c → MakesLiteral c.formula made → HasBytes bytes (with_row c (made.0 ∷ [], made.1))
test_has bytes c made is one =
    row_has bytes c (made.0 ∷ [], made.1) is (one.0, All-cons (Below made.1.variables) made.0 [] one.1 (All-nil (Below made.1.variables)))

-- one more term
node_has : (bytes : List ℕ) (c : Circuit) (node : Node) → All (λ b. b < 256) bytes → HasBytes bytes c → HasBytes bytes (circuit_with c node)
unfolding circuit_with
node_has bytes c (Num w k) small is = same_has bytes c (number_row w k) is (number_row_below c.formula.variables w k is.scoped.first)
node_has bytes c (Input i) small is = input_has bytes c i (input_at c.inputs i) small is refl
node_has bytes c (Not a) small is = same_has bytes c (negations (row_at c.rows a)) is (negations_below c.formula.variables (row_at c.rows a) (row_within bytes c a is))
node_has bytes c (Neg a) small is =
    let row : List Literal = row_at c.rows a in
    row_has bytes c (neg_row row c.formula) is
    (add_extends (zeros (length row)) (negations row) (constant true) c.formula is.scoped (zeros_below c.formula is.scoped (length row))
    (negations_below c.formula.variables row (row_within bytes c a is)) is.scoped.first)
node_has bytes c (Binary op a b) small is =
    row_has bytes c (binary_row op (row_at c.rows a) (row_at c.rows b) c.formula) is
    (binary_extends op (row_at c.rows a) (row_at c.rows b) c.formula is.scoped (row_within bytes c a is) (row_within bytes c b is))
node_has bytes c (Compare op a b) small is =
    test_has bytes c (compare_gate op (row_at c.rows a) (row_at c.rows b) c.formula) is
    (compare_extends op (row_at c.rows a) (row_at c.rows b) c.formula is.scoped (row_within bytes c a is) (row_within bytes c b is))
node_has bytes c (Ite t a b) small is =
    let n : ℕ = c.formula.variables in
    let l : Literal = lowest_of (row_at c.rows t) in
    row_has bytes c (each (mux_gate l) (row_at c.rows a) (row_at c.rows b) c.formula) is
    (each_extends n (mux_gate l) (muxes n l (lowest_below c.formula is.scoped (row_at c.rows t) (row_within bytes c t is))) (row_at c.rows a) (row_at c.rows b) c.formula (omega arith)
    is.scoped (row_within bytes c a is) (row_within bytes c b is))
node_has bytes c (Extract high low a) small is =
    let P : Literal → Type 0 = Below c.formula.variables in
    let row : List Literal = row_at c.rows a in
    same_has bytes c (drop low (take (high + 1) row)) is (All-drop P low (take (high + 1) row) (All-take P (high + 1) row (row_within bytes c a is)))
node_has bytes c (Extend by signed a) small is =
    let P : Literal → Type 0 = Below c.formula.variables in
    let row : List Literal = row_at c.rows a in
    same_has bytes c (row ++ replicate by (extension_of signed row)) is
    (All-append P row (replicate by (extension_of signed row)) (row_within bytes c a is)
    (All-replicate P by (extension_of signed row) (extension_below c.formula signed row is.scoped (row_within bytes c a is))))
node_has bytes c (Concat high low) small is =
    let P : Literal → Type 0 = Below c.formula.variables in
    same_has bytes c (row_at c.rows low ++ row_at c.rows high) is
    (All-append P (row_at c.rows low) (row_at c.rows high) (row_within bytes c low is) (row_within bytes c high is))

nodes_has : (bytes : List ℕ) (nodes : List Node) (c : Circuit) → All (λ b. b < 256) bytes → HasBytes bytes c → HasBytes bytes (fold circuit_with c nodes)
nodes_has bytes [] c small is = is
nodes_has bytes (node ∷ nodes) c small is = nodes_has bytes nodes (circuit_with c node) small (node_has bytes c node small is)

-- the one variable that there is at first
no_clauses : Formula
no_clauses = record { variables = 1; clauses = [] }

truth_scoped : IsScoped only_truth
unfolding only_truth satisfies no_clauses
truth_scoped = record {
  first = omega (arith, clause_variables (constant true ∷ []) no_clauses);
  only = λ v w same.
      one_added v (constant true) no_clauses
      ∙ ap (λ b. same_truth b true) (same 1 (omega (arith, clause_variables (constant true ∷ []) no_clauses)))
      ∙ sym (one_added w (constant true) no_clauses);
}

truth_holds : Holds (λ k. true) only_truth
unfolding only_truth satisfies no_clauses
truth_holds = one_added (λ k. true) (constant true) no_clauses

none_has : (bytes : List ℕ) (inputs : ℕ) → HasBytes bytes (no_terms inputs)
none_has bytes inputs = record {
  scoped = truth_scoped;
  rows = All-nil (RowBelow only_truth.variables);
  inputs = λ i row at. absurd (none_occurs inputs i row at);
  valuation = λ k. true;
  truth = refl;
  satisfied = truth_holds;
  worth = λ i row at. absurd (none_occurs inputs i row at);
}

pub condition_has : (q : Condition) (bytes : List ℕ) → All (λ b. b < 256) bytes → HasBytes bytes (circuit_of q)
unfolding circuit_of
condition_has q bytes small = nodes_has bytes q.graph.nodes (no_terms q.graph.inputs) small (none_has bytes q.graph.inputs)
