-- Rows that are made without gates are of the variables that their parts are of.
use Rattle.std.proofs.Common.{ℕ, zero, suc, ◌-◌, ◌/◌, ◌%◌, ◌==◌, ◌≤◌, Bool, true, false, List, [], length, take, drop, replicate}
use Rattle.std.proofs.lemmas.List.Elements.{All-nil, All-cons, All-append, All-take, All-drop, All-replicate, All-map, All-set}
use Rattle.cnf_form.specs.Literals.{Literal, negation}
use Rattle.circuit_spec.specs.declared.direction.Direction.{Direction}
use Rattle.circuit_spec.specs.declared.direction.Direction.TheVariants.{Up, Down}
use Rattle.circuit_spec.specs.Formulas.{Formula, constant}
use Rattle.circuit_spec.specs.Rows.{negations, zeros, number_row, top_of, with_top_negated}
use Rattle.circuit_spec.specs.Shifts.{moved}
use Rattle.circuit_spec.specs.Products.{brought_down}
use Rattle.circuit_spec.specs.Circuits.{lowest_of, extension_of}
use Rattle.circuit_spec.proofs.Scopes.{Below, RowBelow, IsScoped, All-at}

pub none_below : (n : ℕ) → RowBelow n []
none_below n = All-nil (Below n)

pub negations_below : (n : ℕ) (a : List Literal) → RowBelow n a → RowBelow n (negations a)
negations_below n a x = All-map (Below n) negation a x

pub zeros_below : (f : Formula) → IsScoped f → (w : ℕ) → RowBelow f.variables (zeros w)
zeros_below f is w = All-replicate (Below f.variables) w (constant false) is.first

pub top_below : (f : Formula) → IsScoped f → (a : List Literal) → RowBelow f.variables a → Below f.variables (top_of a)
top_below f is a x = All-at (Below f.variables) a (length a - 1) (constant false) is.first x

pub top_negated_below : (f : Formula) → IsScoped f → (a : List Literal) → RowBelow f.variables a → RowBelow f.variables (with_top_negated a)
top_negated_below f is a x = All-set (Below f.variables) a (length a - 1) (negation (top_of a)) (top_below f is a x) x

pub brought_below : (n : ℕ) (a : Literal) (r : List Literal) → Below n a → RowBelow n r → RowBelow n (brought_down a r)
brought_below n a r x y = All-cons (Below n) a (take (length r - 1) r) x (All-take (Below n) (length r - 1) r y)

pub moved_below : (direction : Direction) (fill : Literal) (by n : ℕ) (x : List Literal) → Below n fill → RowBelow n x → RowBelow n (moved direction fill by x)
moved_below Up fill by n x f r = All-append (Below n) (replicate by fill) (take (length x - by) x) (All-replicate (Below n) by fill f) (All-take (Below n) (length x - by) x r)
moved_below Down fill by n x f r = All-append (Below n) (drop by x) (replicate by fill) (All-drop (Below n) by x r) (All-replicate (Below n) by fill f)

pub number_row_below : (n w k : ℕ) → 1 ≤ n → RowBelow n (number_row w k)
unfolding number_row
number_row_below n zero k first = All-nil (Below n)
number_row_below n (suc w) k first = All-cons (Below n) (constant (k % 2 == 1)) (number_row w (k / 2)) first (number_row_below n w (k / 2) first)

pub extension_below : (f : Formula) (signed : Bool) (a : List Literal) → IsScoped f → RowBelow f.variables a → Below f.variables (extension_of signed a)
extension_below f true a is within = top_below f is a within
extension_below f false a is within = is.first

pub lowest_below : (f : Formula) → IsScoped f → (a : List Literal) → RowBelow f.variables a → Below f.variables (lowest_of a)
lowest_below f is a within = All-at (Below f.variables) a 0 (constant false) is.first within
