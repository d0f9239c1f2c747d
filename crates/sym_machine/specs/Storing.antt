-- What a store decides, and what it makes of a run, from the address that a term is.
use Rattle.std.specs.Prelude.{◌≡◌, ℕ, true, List}
use Rattle.fork_spec.specs.Decisions.{store_decisions}
use Rattle.rv_decode.specs.declared.ops.StoreWidth.{StoreWidth}
use Rattle.rv_spec.specs.Machine.{State, x}
use Rattle.rv_spec.specs.Machine as machine
use Rattle.sym_state.specs.Expressions.{Expression}
use Rattle.sym_state.specs.Symbolic.{Symbolic, concrete, stands_for}
use Rattle.sym_state.specs.Unfolded.{expression_at, unfolded}
use Rattle.sym_state.specs.Unfolding.{store_by}
use Rattle.sym_machine.specs.Steps.{AreUniform, Comes}
use Rattle.sym_machine.specs.declared.outcome.Step.{Step}

-- a store of a register to the address that the machine's state gives was carried out, by the expression
-- for it
pub record CarriesStore (address : State → ℕ) (old new : Symbolic) (step : Step) (width : StoreWidth)
    (rs2 : ℕ) (by : Expression) : Type 0 where
  pub comes : Comes old new step (λ c. machine.store c width (address c) (x c rs2))
  pub alike : AreUniform old (λ c. store_decisions width (address c))
  pub terms : (input : List ℕ) → stands_for old input ≡ true →
      unfolded new ≡ store_by (unfolded old) width by (expression_at (unfolded old).registers rs2)
      (store_decisions width (address (concrete old input)))
