-- What is loaded by a term where the last stores there are kept, on each assignment.
use Rattle.std.specs.Prelude.{◌≡◌, ℕ, ◌*◌, ◌/◌, ◌%◌, ◌^◌, ◌==◌, ◌<◌, List, [], ◌∷◌, All, map, if◌then◌else◌}
use Rattle.bv_dag.specs.Graphs.{Graph, number_of}
use Rattle.rv_decode.specs.declared.ops.LoadWidth.{LoadWidth}
use Rattle.rv_spec.specs.Machine as machine
use Rattle.term_trees.specs.Growth.{Continues}
use Rattle.term_trees.specs.Trees.{tree_of}
use Rattle.sym_state.specs.Expressions.{value_expression}
use Rattle.sym_state.specs.KeptUpdates.{update_expressed}
use Rattle.sym_state.specs.Updates.{loaded_after_all}
use Rattle.sym_state.specs.Values.{IsWide, worth_of}
use Rattle.sym_state.specs.declared.updates.Update as code
use Rattle.sym_state.specs.declared.value.Value.{Value}

-- what is loaded where a number was stored by as many bytes
abbrev pub number_loaded : LoadWidth → ℕ → ℕ
number_loaded width n = machine.loaded width (λ at. n / 2 ^ (8 * at) % 2 ^ 8) 0

-- what is loaded by these bits after one store, where it was this before
abbrev pub number_after : Graph → LoadWidth → (bits : ℕ) → List ℕ → code.Update → (before : ℕ) → ℕ
number_after terms width bits input one before =
    if number_of terms one.bits input == number_of terms bits input
    then number_loaded width (worth_of terms input one.value) else before

-- and after several
abbrev pub number_after_all : Graph → LoadWidth → (bits : ℕ) → List ℕ → List code.Update → (before : ℕ) → ℕ
number_after_all terms width bits input [] before = before
number_after_all terms width bits input (one ∷ others) before =
    number_after_all terms width bits input others
    (number_after terms width bits input one before)

-- a value is what is loaded by these bits after these stores, where another was before
pub record Recalls (old new : Graph) (width : LoadWidth) (bits : ℕ) (stored : List code.Update)
    (before value : Value) : Type 0 where
  pub continues : Continues old new
  pub wide : IsWide new value
  pub worth : (input : List ℕ) → All (λ b. b < 256) input → worth_of new input value
      ≡ number_after_all old width bits input stored (worth_of old input before)
  pub expression : value_expression new value
      ≡ loaded_after_all width (tree_of old bits) (map (update_expressed old) stored)
      (value_expression old before)
