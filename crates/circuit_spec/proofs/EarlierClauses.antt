-- Gates only add clauses: a valuation that satisfies the formula after them satisfies the one before.
use Rattle.std.proofs.Common.{◌≡◌, ℕ, zero, suc, ◌+◌, ◌-◌, nat_lt, Bool, true, false, if◌then◌else◌, ◌&&◌, List, [], ◌∷◌, ◌++◌, length, take, replicate, fold, Option, Some, None, slice_index_or, sym, ◌∙◌}
use Rattle.std.proofs.lemmas.Bool.{and_parts}
use Rattle.cnf_form.specs.Literals.{Literal, negation}
use Rattle.cnf_form.specs.Valuations.{satisfies}
use Rattle.bv_dag.specs.Queries.{Condition}
use Rattle.bv_dag.specs.declared.nodes.BinaryOp.{BinaryOp}
use Rattle.bv_dag.specs.declared.nodes.BinaryOp.TheVariants.{Add, Sub, Mul, Udiv, Urem, And, Or, Xor, Shl, Lshr, Ashr}
use Rattle.bv_dag.specs.declared.nodes.Comparison.{Comparison}
use Rattle.bv_dag.specs.declared.nodes.Comparison.TheVariants.{Ult, Slt, Eq}
use Rattle.bv_dag.specs.declared.nodes.Node.{Node}
use Rattle.bv_dag.specs.declared.nodes.Node.TheVariants.{Num, Input, Not, Neg, Binary, Compare, Ite, Extract, Extend, Concat}
use Rattle.circuit_spec.specs.declared.direction.Direction.{Direction}
use Rattle.circuit_spec.specs.declared.direction.Direction.TheVariants.{Up, Down}
use Rattle.circuit_spec.specs.Formulas.{Formula, constant, only_truth, with_variable, with_clause}
use Rattle.circuit_spec.specs.Gates.{and_gate, or_gate, xor_gate, mux_gate, xor3_gate, majority_gate}
use Rattle.circuit_spec.specs.Rows.{negations, zeros, top_of, with_top_negated, fresh_row, each, adder, add_row, equal_from}
use Rattle.circuit_spec.specs.Shifts.{Stage, with_moved, with_big, moved, next_stage, shift_end, shift_row}
use Rattle.circuit_spec.specs.Products.{partial_row, products, Division, brought_down, division_step, division}
use Rattle.circuit_spec.specs.Circuits.{Circuit, row_at, lowest_of, binary_row, compare_gate, with_input, circuit_with, with_asserted, no_terms, circuit_of, clauses}
use Rattle.circuit_spec.proofs.Truths.{same_true}
use Rattle.circuit_spec.proofs.GateMeaning.{added, one_added, and_means, or_means, xor_means, mux_means, xor3_means, majority_means}

abbrev pub Holds : (ℕ → Bool) → Formula → Type 0
Holds v f = satisfies v f.clauses ≡ true

first_part : (a b c : Bool) → c ≡ (a && b) → c ≡ true → a ≡ true
first_part a b c is h = (and_parts a b (sym is ∙ h)).0

pub clause_before : (v : ℕ → Bool) (c : List Literal) (f : Formula) → Holds v (with_clause c f) → Holds v f
clause_before v c f h = first_part _ _ _ (added v c f) h

pub and_before : (v : ℕ → Bool) (a b : Literal) (f : Formula) → Holds v (and_gate a b f).1 → Holds v f
and_before v a b f h = first_part _ _ _ (and_means v a b f) h

pub or_before : (v : ℕ → Bool) (a b : Literal) (f : Formula) → Holds v (or_gate a b f).1 → Holds v f
or_before v a b f h = first_part _ _ _ (or_means v a b f) h

pub xor_before : (v : ℕ → Bool) (a b : Literal) (f : Formula) → Holds v (xor_gate a b f).1 → Holds v f
xor_before v a b f h = first_part _ _ _ (xor_means v a b f) h

pub mux_before : (v : ℕ → Bool) (c a b : Literal) (f : Formula) → Holds v (mux_gate c a b f).1 → Holds v f
mux_before v c a b f h = first_part _ _ _ (mux_means v c a b f) h

xor3_before : (v : ℕ → Bool) (a b c : Literal) (f : Formula) → Holds v (xor3_gate a b c f).1 → Holds v f
xor3_before v a b c f h = first_part _ _ _ (xor3_means v a b c f) h

pub majority_before : (v : ℕ → Bool) (a b c : Literal) (f : Formula) → Holds v (majority_gate a b c f).1 → Holds v f
majority_before v a b c f h = first_part _ _ _ (majority_means v a b c f) h

pub fresh_before : (v : ℕ → Bool) (w : ℕ) (f : Formula) → Holds v (fresh_row w f).1 → Holds v f
unfolding fresh_row
fresh_before v zero f h = h
fresh_before v (suc w) f h = fresh_before v w (with_variable f) h

pub each_before : (v : ℕ → Bool) (g : Literal → Literal → Formula → Literal × Formula) → ((a b : Literal) (f : Formula) → Holds v (g a b f).1 → Holds v f)
    → (a b : List Literal) (f : Formula) → Holds v (each g a b f).1 → Holds v f
unfolding each
each_before v g before [] bs f h = h
each_before v g before (a ∷ as') [] f h = h
each_before v g before (a ∷ as') (b ∷ bs) f h = before a b f (each_before v g before as' bs (g a b f).1 h)

pub adder_before : (v : ℕ → Bool) (a b : List Literal) (c : Literal) (f : Formula) → Holds v (adder a b c f).formula → Holds v f
unfolding adder
adder_before v [] b c f h = h
adder_before v (x ∷ a) [] c f h = h
adder_before v (x ∷ a) (y ∷ b) c f h =
    let s : Literal × Formula = xor3_gate x y c f in
    let m : Literal × Formula = majority_gate x y c s.1 in
    xor3_before v x y c f (majority_before v x y c s.1 (adder_before v a b m.0 m.1 h))

pub equal_before : (v : ℕ → Bool) (e : Literal) (a b : List Literal) (f : Formula) → Holds v (equal_from e a b f).1 → Holds v f
unfolding equal_from
equal_before v e [] b f h = h
equal_before v e (x ∷ a) [] f h = h
equal_before v e (x ∷ a) (y ∷ b) f h =
    let d : Literal × Formula = xor_gate x y f in
    let o : Literal × Formula = and_gate e (negation d.0) d.1 in
    xor_before v x y f (and_before v e (negation d.0) d.1 (equal_before v o.0 a b o.1 h))

partial_before : (v : ℕ → Bool) (a : List Literal) (low : ℕ) (b : Literal) (f : Formula) → Holds v (partial_row a low b f).1 → Holds v f
unfolding partial_row
partial_before v a low b f h = each_before v and_gate (and_before v) (take (length a - low) a) (replicate (length a - low) b) f h

pub products_before : (v : ℕ → Bool) (a bs : List Literal) (low : ℕ) (total : List Literal) (f : Formula) → Holds v (products a bs low total f).1 → Holds v f
unfolding products
products_before v a [] low total f h = h
products_before v a (b ∷ bs) low total f h =
    let p : List Literal × Formula = partial_row a low b f in
    let s : List Literal × Formula = add_row total p.0 p.1 in
    partial_before v a low b f (adder_before v total p.0 (constant false) p.1 (products_before v a bs (low + 1) s.0 s.1 h))

pub step_before : (v : ℕ → Bool) (x : Literal) (negated rest : List Literal) (f : Formula) → Holds v (division_step x negated rest f).formula → Holds v f
unfolding division_step
step_before v x negated rest f h =
    let shifted : List Literal = brought_down x rest in
    let d = adder shifted negated (constant true) f in
    adder_before v shifted negated (constant true) f (each_before v (mux_gate d.carry) (mux_before v d.carry) d.sums shifted d.formula h)

pub division_before : (v : ℕ → Bool) (a negated : List Literal) (start : Division) → Holds v (division a negated start).formula → Holds v start.formula
unfolding division
division_before v [] negated start h = h
division_before v (x ∷ a) negated start h =
    let above : Division = division a negated start in
    division_before v a negated start (step_before v x negated above.rest above.formula h)

stage_by : (v : ℕ → Bool) (direction : Direction) (fill : Literal) (s : Stage) (b : Literal) (t : Bool)
    → Holds v (if t then with_moved s (each (mux_gate b) (moved direction fill s.unit s.row) s.row s.formula) else with_big s (or_gate s.big b s.formula)).formula → Holds v s.formula
stage_by v direction fill s b true h = each_before v (mux_gate b) (mux_before v b) (moved direction fill s.unit s.row) s.row s.formula h
stage_by v direction fill s b false h = or_before v s.big b s.formula h

pub stage_before : (v : ℕ → Bool) (direction : Direction) (fill : Literal) (width : ℕ) (s : Stage) (b : Literal) → Holds v (next_stage direction fill width s b).formula → Holds v s.formula
unfolding next_stage
stage_before v direction fill width s b h = stage_by v direction fill s b (nat_lt s.unit width) h

pub stages_before : (v : ℕ → Bool) (direction : Direction) (fill : Literal) (width : ℕ) (bs : List Literal) (s : Stage) → Holds v (fold (next_stage direction fill width) s bs).formula → Holds v s.formula
stages_before v direction fill width [] s h = h
stages_before v direction fill width (b ∷ bs) s h =
    stage_before v direction fill width s b (stages_before v direction fill width bs (next_stage direction fill width s b) h)

pub end_before : (v : ℕ → Bool) (direction : Direction) (fill : Literal) (width : ℕ) (bs : List Literal) (s : Stage) → Holds v (shift_end fill (fold (next_stage direction fill width) s bs)).1 → Holds v s.formula
unfolding shift_end
end_before v direction fill width bs s h =
    let t : Stage = fold (next_stage direction fill width) s bs in
    stages_before v direction fill width bs s (each_before v (mux_gate t.big) (mux_before v t.big) (replicate (length t.row) fill) t.row t.formula h)

pub shift_before : (v : ℕ → Bool) (direction : Direction) (fill : Literal) (a b : List Literal) (f : Formula) → Holds v (shift_row direction fill a b f).1 → Holds v f
unfolding shift_row
shift_before v direction fill a b f h = end_before v direction fill (length a) b (record { row = a; unit = 1; big = constant false; formula = f }) h

pub binary_before : (v : ℕ → Bool) (op : BinaryOp) (a b : List Literal) (f : Formula) → Holds v (binary_row op a b f).1 → Holds v f
unfolding binary_row
binary_before v Add a b f h = adder_before v a b (constant false) f h
binary_before v Sub a b f h = adder_before v a (negations b) (constant true) f h
binary_before v Mul a b f h = products_before v a b 0 (zeros (length a)) f h
binary_before v Udiv a b f h = division_before v a (negations (b ++ constant false ∷ [])) (record { quotient = []; rest = zeros (length b) ++ constant false ∷ []; formula = f }) h
binary_before v Urem a b f h = division_before v a (negations (b ++ constant false ∷ [])) (record { quotient = []; rest = zeros (length b) ++ constant false ∷ []; formula = f }) h
binary_before v And a b f h = each_before v and_gate (and_before v) a b f h
binary_before v Or a b f h = each_before v or_gate (or_before v) a b f h
binary_before v Xor a b f h = each_before v xor_gate (xor_before v) a b f h
binary_before v Shl a b f h = shift_before v Up (constant false) a b f h
binary_before v Lshr a b f h = shift_before v Down (constant false) a b f h
binary_before v Ashr a b f h = shift_before v Down (top_of a) a b f h

pub compare_before : (v : ℕ → Bool) (op : Comparison) (a b : List Literal) (f : Formula) → Holds v (compare_gate op a b f).1 → Holds v f
unfolding compare_gate
compare_before v Ult a b f h = adder_before v a (negations b) (constant true) f h
compare_before v Slt a b f h = adder_before v (with_top_negated a) (negations (with_top_negated b)) (constant true) f h
compare_before v Eq a b f h = equal_before v (constant true) a b f h

input_before : (v : ℕ → Bool) (o : Option (List Literal)) (c : Circuit) (i : ℕ) → Holds v (with_input o c i).formula → Holds v c.formula
input_before v None c i h = fresh_before v 8 c.formula h
input_before v (Some row) c i h = h

-- and so does a term
pub node_before : (v : ℕ → Bool) (c : Circuit) (n : Node) → Holds v (circuit_with c n).formula → Holds v c.formula
unfolding circuit_with
node_before v c (Num w n) h = h
node_before v c (Input i) h = input_before v (slice_index_or c.inputs i None) c i h
node_before v c (Not a) h = h
node_before v c (Neg a) h = adder_before v (zeros (length (row_at c.rows a))) (negations (row_at c.rows a)) (constant true) c.formula h
node_before v c (Binary op a b) h = binary_before v op (row_at c.rows a) (row_at c.rows b) c.formula h
node_before v c (Compare op a b) h = compare_before v op (row_at c.rows a) (row_at c.rows b) c.formula h
node_before v c (Ite t a b) h = each_before v (mux_gate (lowest_of (row_at c.rows t))) (mux_before v (lowest_of (row_at c.rows t))) (row_at c.rows a) (row_at c.rows b) c.formula h
node_before v c (Extract high low a) h = h
node_before v c (Extend by signed a) h = h
node_before v c (Concat high low) h = h

pub nodes_before : (v : ℕ → Bool) (nodes : List Node) (c : Circuit) → Holds v (fold circuit_with c nodes).formula → Holds v c.formula
nodes_before v [] c h = h
nodes_before v (n ∷ nodes) c h = node_before v c n (nodes_before v nodes (circuit_with c n) h)

pub asserted_before : (v : ℕ → Bool) (rows : List (List Literal)) (ids : List ℕ) (f : Formula) → Holds v (with_asserted rows ids f) → Holds v f
unfolding with_asserted
asserted_before v rows [] f h = h
asserted_before v rows (id ∷ ids) f h =
    clause_before v (lowest_of (row_at rows id) ∷ []) f (asserted_before v rows ids (with_clause (lowest_of (row_at rows id) ∷ []) f) h)

first_true : (v : ℕ → Bool) → Holds v only_truth → v 1 ≡ true
unfolding only_truth
first_true v h = sym (same_true (v 1)) ∙ (and_parts _ _ (sym (one_added v (constant true) (record { variables = 1; clauses = [] })) ∙ h)).1

-- so the first clause holds
pub truth_before : (q : Condition) (v : ℕ → Bool) → satisfies v (clauses q) ≡ true → v 1 ≡ true
unfolding clauses circuit_of
truth_before q v h =
    first_true v (nodes_before v q.graph.nodes (no_terms q.graph.inputs) (asserted_before v (circuit_of q).rows q.asserted (circuit_of q).formula h))
