-- A decision that stands at a place of the step's.
use Rattle.std.proofs.Common.{◌≡◌, ℕ, zero, suc, true, List, [], ◌∷◌, ◌++◌, length, refl, ap, ◌∙◌, arith}
use Rattle.std.specs.Prelude.{Some, slice_get}
use Rattle.fork_spec.specs.Decisions.{Decision, step_decisions}
use Rattle.sym_state.specs.Moves.{IsGrown}
use Rattle.sym_state.specs.Symbolic.{Symbolic, concrete, stands_for}
use Rattle.sym_state.specs.Undecided.{StandsAt}
use Rattle.sym_state.proofs.Grown.{concrete-grown, stood}

-- it is the one at its place
get-seam : (front back : List Decision) (d : Decision) (place : ℕ) → length front ≡ place
    → slice_get (front ++ d ∷ back) place ≡ Some d
get-seam [] back d zero is = refl
get-seam [] back d (suc n) is = absurd (omega (arith, is))
get-seam (x ∷ xs) back d zero is = absurd (omega (arith, is))
get-seam (x ∷ xs) back d (suc n) is = get-seam xs back d n (omega (arith, is))

pub decision_there : (s : Symbolic) (place : ℕ) (decision : List ℕ → Decision) → StandsAt s place decision
    → (input : List ℕ) → stands_for s input ≡ true
    → slice_get (step_decisions (concrete s input)) place ≡ Some (decision input)
decision_there s place decision at input stands =
    ap (λ ds. slice_get ds place) (at.is input stands) ∙ get-seam at.front (at.back input) (decision input) place at.before

-- where terms are added it stands where it was
pub StandsAt-grown : (old new : Symbolic) (place : ℕ) (decision : List ℕ → Decision)
    → IsGrown old new
    → StandsAt old place decision → StandsAt new place decision
StandsAt-grown old new place decision grown stands = record {
  front = stands.front;
  back = stands.back;
  before = stands.before;
  is = λ input standing.
      ap step_decisions (concrete-grown old new input grown)
      ∙ stands.is input (stood old new input grown standing);
}

-- a decision that is the same on all assignments, in other words
pub StandsAt-by : (s : Symbolic) (place : ℕ) (was is : List ℕ → Decision)
    → ((input : List ℕ) → stands_for s input ≡ true → was input ≡ is input)
    → StandsAt s place was → StandsAt s place is
StandsAt-by s place was is same stands = record {
  front = stands.front;
  back = stands.back;
  before = stands.before;
  is = λ input standing.
      stands.is input standing
      ∙ ap (λ d. stands.front ++ d ∷ stands.back input) (same input standing);
}
