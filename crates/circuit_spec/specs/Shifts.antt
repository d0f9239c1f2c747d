-- The barrel shifter.
use Rattle.std.specs.Prelude.{ℕ, ◌-◌, ◌*◌, nat_lt, false, if◌then◌else◌, List, ◌++◌, take, drop, replicate, length, fold}
use Rattle.cnf_form.specs.Literals.{Literal}
use Rattle.circuit_spec.specs.Formulas.{Formula, constant}
use Rattle.circuit_spec.specs.Gates.{or_gate, mux_gate}
use Rattle.circuit_spec.specs.Rows.{each}
use Rattle.circuit_spec.specs.declared.direction.Direction.{Direction}
use Rattle.circuit_spec.specs.declared.direction.Direction.TheVariants.{Up, Down}

-- a row moved by so many places, at most its length; the places that come free have a literal of their own
abbrev pub moved : Direction → Literal → ℕ → List Literal → List Literal
moved Up fill by x = replicate by fill ++ take (length x - by) x
moved Down fill by x = drop by x ++ replicate by fill

-- the row so far, what the next bit of the distance is worth, and whether the distance is known to be too large
pub record Stage : Type 0 where
  pub row : List Literal
  pub unit : ℕ
  pub big : Literal
  pub formula : Formula

abbrev pub with_moved : Stage → List Literal × Formula → Stage
with_moved s made = record { row = made.0; unit = s.unit * 2; big = s.big; formula = made.1 }

abbrev pub with_big : Stage → Literal × Formula → Stage
with_big s made = record { row = s.row; unit = s.unit; big = made.0; formula = made.1 }

-- One bit of the distance: it moves the row, as long as it is worth less than the width. A further one makes the
-- distance too large.
unfoldable pub next_stage : Direction → Literal → (width : ℕ) → Stage → Literal → Stage
next_stage direction fill width s b =
    if nat_lt s.unit width
    then with_moved s (each (mux_gate b) (moved direction fill s.unit s.row) s.row s.formula)
    else with_big s (or_gate s.big b s.formula)

-- where the distance is too large, each place is free
unfoldable pub shift_end : Literal → Stage → List Literal × Formula
shift_end fill s = each (mux_gate s.big) (replicate (length s.row) fill) s.row s.formula

-- The barrel shifter, stage by stage, the lowest bit of the distance first.
unfoldable pub shift_row : Direction → Literal → List Literal → List Literal → Formula
    → List Literal × Formula
shift_row direction fill a b f =
    shift_end fill (fold (next_stage direction fill (length a))
    (record { row = a; unit = 1; big = constant false; formula = f }) b)
