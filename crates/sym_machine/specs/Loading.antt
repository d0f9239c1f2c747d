-- What a load decides, and what it makes of a run, from the address that a term is.
use Rattle.std.specs.Prelude.{◌≡◌, ℕ, ◌-◌, ◌/◌, ◌^◌, ◌<◌, ◌==◌, true, List, ◌∷◌, if◌then◌else◌}
use Rattle.bv_dag.specs.Graphs.{number_of}
use Rattle.fork_spec.specs.Decisions.{Number as Needs, load_decisions, step_decisions}
use Rattle.rv_decode.specs.declared.ops.LoadWidth.{LoadWidth}
use Rattle.rv_spec.specs.Machine.{State, is_load_aligned}
use Rattle.rv_spec.specs.Machine as machine
use Rattle.sym_state.specs.Expressions.{Expression}
use Rattle.sym_state.specs.Loading.{bytes}
use Rattle.sym_state.specs.Symbolic.{Symbolic, concrete, stands_for}
use Rattle.sym_state.specs.Unfolded.{unfolded}
use Rattle.sym_state.specs.Unfolding.{load_by}
use Rattle.sym_machine.specs.Steps.{AreUniform, Comes}
use Rattle.sym_machine.specs.declared.outcome.Step.{Step}

-- the bits that are 0 in an aligned address
abbrev pub mask_of : LoadWidth → ℕ
mask_of width = bytes width - 1

-- the place of the page among what the step decides
abbrev pub page_place : LoadWidth → ℕ
page_place width = if mask_of width == 0 then 1 else 2

-- the step decides its word, and then what a load from the address that a term is decides
pub record DecidesLoad (s : Symbolic) (width : LoadWidth) (term : ℕ) : Type 0 where
  pub word : ℕ
  pub is : (input : List ℕ) → stands_for s input ≡ true →
      step_decisions (concrete s input)
      ≡ Needs word ∷ load_decisions width (number_of s.terms term input)
  pub small : (input : List ℕ) → stands_for s input ≡ true → number_of s.terms term input < 2 ^ 32

-- the address that a term is isn't misaligned on any assignment
abbrev pub IsAligned : Symbolic → LoadWidth → (term : ℕ) → Type 0
IsAligned s width term = (input : List ℕ) → stands_for s input ≡ true
    → is_load_aligned width (number_of s.terms term input) ≡ true

-- it stands on this page on each assignment
abbrev pub IsOnPage : Symbolic → (term page : ℕ) → Type 0
IsOnPage s term page = (input : List ℕ) → stands_for s input ≡ true
    → number_of s.terms term input / 256 ≡ page

-- a load from the address that the machine's state gives was carried out, by the expression for it
pub record CarriesLoad (address : State → ℕ) (old new : Symbolic) (step : Step) (width : LoadWidth)
    (rd : ℕ) (by : Expression) : Type 0 where
  pub comes : Comes old new step (λ c. machine.load c width rd (address c))
  pub alike : AreUniform old (λ c. load_decisions width (address c))
  pub terms : (input : List ℕ) → stands_for old input ≡ true →
      unfolded new ≡ load_by (unfolded old) width rd by
      (load_decisions width (address (concrete old input)))
