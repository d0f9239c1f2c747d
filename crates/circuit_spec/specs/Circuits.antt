-- The circuit of a condition, one case for each kind of term, and its clauses.
use Rattle.std.specs.Prelude.{ℕ, ◌+◌, Bool, true, false, List, [], ◌∷◌, ◌++◌, take, drop, replicate, fold, Option, Some, None, slice_index_or, slice_set}
use Rattle.cnf_form.specs.Literals.{Literal}
use Rattle.bv_dag.specs.declared.nodes.BinaryOp.{BinaryOp}
use Rattle.bv_dag.specs.declared.nodes.BinaryOp.TheVariants.{Add, Sub, Mul, Udiv, Urem, And, Or, Xor, Shl, Lshr, Ashr}
use Rattle.bv_dag.specs.declared.nodes.Comparison.{Comparison}
use Rattle.bv_dag.specs.declared.nodes.Comparison.TheVariants.{Ult, Slt, Eq}
use Rattle.bv_dag.specs.declared.nodes.Node.{Node}
use Rattle.bv_dag.specs.declared.nodes.Node.TheVariants.{Num, Input, Not, Neg, Binary, Compare, Ite, Extract, Extend, Concat}
use Rattle.bv_dag.specs.Queries.{Condition}
use Rattle.circuit_spec.specs.declared.direction.Direction.TheVariants.{Up, Down}
use Rattle.circuit_spec.specs.Formulas.{Formula, constant, with_clause, only_truth}
use Rattle.circuit_spec.specs.Gates.{and_gate, or_gate, xor_gate, mux_gate}
use Rattle.circuit_spec.specs.Rows.{negations, number_row, top_of, fresh_row, each, add_row, sub_row, neg_row, ult_gate, slt_gate, equal_gate}
use Rattle.circuit_spec.specs.Shifts.{shift_row}
use Rattle.circuit_spec.specs.Products.{mul_row, udiv_row, urem_row}

-- A formula, the literals of each input byte that has occurred, and those of each term so far.
pub record Circuit : Type 0 where
  pub formula : Formula
  pub inputs : List (Option (List Literal))
  pub rows : List (List Literal)

-- the literals of the term at a place, and none past the end
abbrev pub row_at : List (List Literal) → ℕ → List Literal
row_at rows id = slice_index_or rows id []

-- the first literal, and false where there is none
abbrev pub lowest_of : List Literal → Literal
lowest_of a = slice_index_or a 0 (constant false)

-- the literals of a term of two others
unfoldable pub binary_row : BinaryOp → List Literal → List Literal → Formula → List Literal
    × Formula
binary_row Add a b f = add_row a b f
binary_row Sub a b f = sub_row a b f
binary_row Mul a b f = mul_row a b f
binary_row Udiv a b f = udiv_row a b f
binary_row Urem a b f = urem_row a b f
binary_row And a b f = each and_gate a b f
binary_row Or a b f = each or_gate a b f
binary_row Xor a b f = each xor_gate a b f
binary_row Shl a b f = shift_row Up (constant false) a b f
binary_row Lshr a b f = shift_row Down (constant false) a b f
binary_row Ashr a b f = shift_row Down (top_of a) a b f

-- the literal of a test of two terms
unfoldable pub compare_gate : Comparison → List Literal → List Literal → Formula → Literal × Formula
compare_gate Ult a b f = ult_gate a b f
compare_gate Slt a b f = slt_gate a b f
compare_gate Eq a b f = equal_gate a b f

abbrev pub one_literal : Literal × Formula → List Literal × Formula
one_literal made = (made.0 ∷ [], made.1)

-- what stands above the top of an extended row
abbrev pub extension_of : Bool → List Literal → Literal
extension_of true a = top_of a
extension_of false a = constant false

abbrev pub with_row : Circuit → List Literal × Formula → Circuit
with_row c made = record { formula = made.1; inputs = c.inputs; rows = c.rows ++ made.0 ∷ [] }

abbrev pub with_new_input : Circuit → ℕ → List Literal × Formula → Circuit
with_new_input c i made =
    record {
      formula = made.1;
      inputs = slice_set c.inputs i (Some made.0);
      rows = c.rows ++ made.0 ∷ [];
    }

-- An input byte has eight new variables where it occurs for the first time, and the same ones after that.
abbrev pub with_input : Option (List Literal) → Circuit → ℕ → Circuit
with_input (Some row) c i = with_row c (row, c.formula)
with_input None c i = with_new_input c i (fresh_row 8 c.formula)

-- One more term, by its case.
unfoldable pub circuit_with : Circuit → Node → Circuit
circuit_with c (Num w v) = with_row c (number_row w v, c.formula)
circuit_with c (Input i) = with_input (slice_index_or c.inputs i None) c i
circuit_with c (Not a) = with_row c (negations (row_at c.rows a), c.formula)
circuit_with c (Neg a) = with_row c (neg_row (row_at c.rows a) c.formula)
circuit_with c (Binary op a b) =
    with_row c (binary_row op (row_at c.rows a) (row_at c.rows b) c.formula)
circuit_with c (Compare op a b) =
    with_row c (one_literal (compare_gate op (row_at c.rows a) (row_at c.rows b) c.formula))
circuit_with c (Ite t a b) =
    with_row c (each (mux_gate (lowest_of (row_at c.rows t))) (row_at c.rows a)
    (row_at c.rows b) c.formula)
circuit_with c (Extract high low a) =
    with_row c (drop low (take (high + 1) (row_at c.rows a)), c.formula)
circuit_with c (Extend by signed a) =
    with_row c (row_at c.rows a ++ replicate by (extension_of signed (row_at c.rows a)), c.formula)
circuit_with c (Concat high low) = with_row c (row_at c.rows low ++ row_at c.rows high, c.formula)

-- no terms yet, over so many input bytes
abbrev pub no_terms : ℕ → Circuit
no_terms inputs = record { formula = only_truth; inputs = replicate inputs None; rows = [] }

-- the terms of a condition, in turn
unfoldable pub circuit_of : Condition → Circuit
circuit_of q = fold circuit_with (no_terms q.graph.inputs) q.graph.nodes

-- and for each that is asserted a clause of its literal
unfoldable pub with_asserted : List (List Literal) → List ℕ → Formula → Formula
with_asserted rows ids f = fold (λ g id. with_clause (lowest_of (row_at rows id) ∷ []) g) f ids

-- the formula of a condition
unfoldable pub clauses : Condition → List (List Literal)
clauses q = (with_asserted (circuit_of q).rows q.asserted (circuit_of q).formula).clauses
