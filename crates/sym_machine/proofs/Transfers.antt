-- The address of a load or a store: the sum of a register and an offset.
use Rattle.std.proofs.Common.{◌≡◌, ℕ, ◌+◌, ◌/◌, ◌^◌, ◌<◌, Bool, true, List, ◌∷◌, sym, ap, subst, ◌∙◌, arith}
use Rattle.std.specs.Prelude.{Result, Ok, Err, IfErr, IfOk}
use Rattle.std.proofs.Math.Nat.{mod-lt}
use Rattle.bv_dag.specs.Graphs.{number_of}
use Rattle.fork_spec.specs.Decisions.{Number as Needs, load_decisions, step_decisions}
use Rattle.rv_decode.specs.declared.ops.LoadWidth.{LoadWidth}
use Rattle.rv_decode.specs.declared.ops.RegisterOp.TheVariants.{Add}
use Rattle.rv_spec.specs.Arithmetic.{sum32}
use Rattle.rv_spec.specs.Machine.{State, is_load_aligned, x}
use Rattle.sym_state.specs.Expressions.{Expression, Number as ANumber, combined_of, value_expression}
use Rattle.sym_state.specs.Moves.{IsGrown, MakesValue}
use Rattle.sym_state.specs.Symbolic.{Symbolic, concrete, stands_for, value_at}
use Rattle.sym_state.specs.Unfolded.{expression_at, unfolded}
use Rattle.sym_state.specs.Values.{IsUnknown, worth_of}
use Rattle.sym_state.specs.declared.value.Value.{Value}
use Rattle.sym_state.specs.declared.value.Value.TheVariants.{Term}
use Rattle.sym_state.proofs.Growing.{number-grown}
use Rattle.sym_state.proofs.Grown.{concrete-grown, stood}
use Rattle.sym_state.proofs.Opening.{stands-bytes}
use Rattle.sym_machine.specs.Loading.{DecidesLoad, IsOnPage}
use Rattle.sym_machine.specs.Stops.{Stops}
use Rattle.sym_machine.specs.declared.halt.Halt.{Halt}
use Rattle.sym_machine.specs.declared.outcome.Step.{Step}
use Rattle.sym_machine.proofs.Standing.{Stops-made, x-worth}
use Rattle.sym_machine.proofs.Unfolds.{expression-x}

-- the address that a register and an offset make
abbrev pub address : (rs1 offset : ℕ) → State → ℕ
address rs1 offset c = sum32 (x c rs1) offset

-- the sum is the address on each assignment
sum_is : (old new : Symbolic) (rs1 offset : ℕ) (base sum : Value)
    → base ≡ value_at old.registers rs1
    → MakesValue old new sum (λ input. sum32 (worth_of old.terms input base) offset)
    → (input : List ℕ) → stands_for old input ≡ true
    → sum32 (x (concrete old input) rs1) offset ≡ worth_of new.terms input sum
sum_is old new rs1 offset base sum is made input standing =
    ap (λ n. sum32 n offset) (x-worth old input rs1 ∙ ap (worth_of old.terms input) (sym is))
    ∙ sym (made.gives.worth input (stands-bytes old input standing))

module _ (old mid : Symbolic) (rs1 offset : ℕ) (base sum : Value) (from : base ≡ value_at old.registers rs1)
    (made : MakesValue old mid sum (λ input. sum32 (worth_of old.terms input base) offset)) where
  -- what the machine's state gives is what the sum is worth
  pub address_is : (input : List ℕ) → stands_for mid input ≡ true → sum32 (x (concrete mid input) rs1) offset ≡ worth_of mid.terms input sum
  address_is input stands =
      ap (address rs1 offset) (concrete-grown old mid input made.grown)
      ∙ sum_is old mid rs1 offset base sum from made input (stood old mid input made.grown stands)

  pub sum_expressed : (e : Expression) → value_expression mid.terms sum ≡ e
      → value_expression mid.terms sum ≡ combined_of Add (value_expression old.terms base) (ANumber offset)
      → e ≡ combined_of Add (expression_at (unfolded old).registers rs1) (ANumber offset)
  sum_expressed e is expressed =
      sym is ∙ expressed
      ∙ ap (λ v. combined_of Add (value_expression old.terms v) (ANumber offset)) from
      ∙ ap (λ f. combined_of Add f (ANumber offset)) (sym (expression-x old rs1))

  -- a step that decides what a load from the sum does
  pub decides_by_term : (width : LoadWidth) (term word : ℕ) → sum ≡ Term term
      → ((input : List ℕ) → stands_for old input ≡ true → step_decisions (concrete old input)
      ≡ Needs word ∷ load_decisions width (address rs1 offset (concrete old input)))
      → DecidesLoad mid width term
  decides_by_term width term word is decides = record {
    word = word;
    is = λ input stands.
        ap step_decisions (concrete-grown old mid input made.grown)
        ∙ decides input (stood old mid input made.grown stands)
        ∙ ap (λ c. Needs word ∷ load_decisions width (address rs1 offset c)) (sym (concrete-grown old mid input made.grown))
        ∙ ap (λ n. Needs word ∷ load_decisions width n) (address_is input stands)
        ∙ ap (λ v. Needs word ∷ load_decisions width (worth_of mid.terms input v)) is;
    small = λ input stands.
        subst (λ n. n < 2 ^ 32) (address_is input stands ∙ ap (worth_of mid.terms input) is)
        (mod-lt (x (concrete mid input) rs1 + offset) (omega arith));
  }

-- ---- After terms were made.
pub aligned_is : (old new : Symbolic) (width : LoadWidth) (term : ℕ) → IsGrown old new → IsUnknown old.terms 32 term
    → {t : Bool} → ((input : List ℕ) → stands_for old input ≡ true → is_load_aligned width (number_of old.terms term input) ≡ t)
    → (input : List ℕ) → stands_for new input ≡ true → is_load_aligned width (number_of new.terms term input) ≡ t
aligned_is old new width term grown unknown fits input stands =
    ap (is_load_aligned width) (number-grown old.terms new.terms term 32 input grown.continues unknown.width (omega arith))
    ∙ fits input (stood old new input grown stands)

pub page-grown : (old new : Symbolic) (term page : ℕ) → IsGrown old new → IsUnknown old.terms 32 term
    → IsOnPage old term page → IsOnPage new term page
page-grown old new term page grown unknown on = λ input stands.
    ap (λ n. n / 256) (number-grown old.terms new.terms term 32 input grown.continues unknown.width (omega arith))
    ∙ on input (stood old new input grown stands)

pub address-made : (old mid : Symbolic) (of : State → ℕ) (term : ℕ) → IsGrown old mid → IsUnknown old.terms 32 term
    → ((input : List ℕ) → stands_for old input ≡ true → of (concrete old input) ≡ number_of old.terms term input)
    → (input : List ℕ) → stands_for mid input ≡ true → of (concrete mid input) ≡ number_of mid.terms term input
address-made old mid of term grown unknown is input stands =
    ap of (concrete-grown old mid input grown) ∙ is input (stood old mid input grown stands)
    ∙ sym (number-grown old.terms mid.terms term 32 input grown.continues unknown.width (omega arith))

-- ---- Answers.
pub stops_made : {A : Type 0} (old mid new : Symbolic) (r : Result A Halt) → IsGrown old mid → IfErr r (Stops mid new) → IfErr r (Stops old new)
stops_made old mid new (Ok a) grown stops = tt
stops_made old mid new (Err halt) grown stops = Stops-made old mid new halt grown stops

pub of_result : {E : Type 0} (P : (State → ℕ) → Type 0) (Q : Step → (State → ℕ) → Type 0) (r : Result Step E) (of : State → ℕ)
    → IfOk r (λ step. (f : State → ℕ) → P f → Q step f) → P of → IfOk r (λ step. Q step of)
of_result P Q (Err halt) of carries is = tt
of_result P Q (Ok step) of carries is = carries of is
