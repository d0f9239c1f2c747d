-- What a symbolic run stands for stays where terms are added, and what instructions keep.
use Rattle.std.proofs.Common.{◌≡◌, ℕ, true, false, List, [], ◌∷◌, length, map, refl, sym, ap, subst, ◌∙◌, arith}
use Rattle.std.specs.Prelude.{◌==◌, Option, None, Some, if◌then◌else◌, slice_get, slice_set}
use Rattle.std.proofs.Math.ListN as lists
use Rattle.std.proofs.lemmas.List.{map-set}
use Rattle.fork_spec.specs.Decisions.{Decision, Number as Needs, instr_decisions, step_decisions}
use Rattle.rv_decode.specs.declared.instr.Instr.{Instr}
use Rattle.rv_spec.specs.Arithmetic.{sum32}
use Rattle.rv_spec.specs.Machine.{State, Outcome, to_register, written, x}
use Rattle.rv_spec.specs.Machine as machine
use Rattle.sym_state.specs.Moves.{IsGrown, MakesValue}
use Rattle.sym_state.specs.Symbolic.{Symbolic, IsTrulyKnown, KnowsTruth, concrete, known_at, set_value, stands_for, value_at}
use Rattle.sym_state.specs.Undecided.{StandsAt}
use Rattle.sym_state.specs.Values.{worth_of}
use Rattle.sym_state.specs.declared.decided.Decided.{Decided}
use Rattle.sym_state.specs.declared.value.Value.{Value}
use Rattle.sym_state.specs.declared.value.Value.TheVariants.{Number}
use Rattle.sym_state.proofs.Growing.{Continues-trans}
use Rattle.sym_state.proofs.Grown.{Continues-refl, IsGrown-trans, concrete-grown, still_stands, stood}
use Rattle.sym_state.proofs.Opening.{stands-bytes}
use Rattle.sym_machine.specs.Steps.{AreUniform, Comes, Keeps}
use Rattle.sym_machine.specs.Stops.{DecidesBy, Stops, StopsAt}
use Rattle.sym_machine.specs.declared.halt.Halt.{Halt}
use Rattle.sym_machine.specs.declared.halt.Halt.TheVariants.{Side as SideHalt, Number as NumberHalt, NoMemory}
use Rattle.sym_machine.specs.declared.outcome.Step.{Step}
use Rattle.sym_machine.specs.declared.outcome.Step.TheVariants.{Running}

-- ---- More terms: what was known is.
known-grown : (old new : Symbolic) (place : ℕ) (known : Option Decided) → IsGrown old new
    → IsTrulyKnown old place known → IsTrulyKnown new place known
known-grown old new place None grown is = tt
known-grown old new place (Some d) grown is = λ input stands.
    ap (λ (c : State). slice_get (step_decisions c) place) (concrete-grown old new input grown)
    ∙ is input (stood old new input grown stands)

pub knows-grown : (old new : Symbolic) → IsGrown old new → KnowsTruth old → KnowsTruth new
knows-grown old new grown knows place =
    subst (IsTrulyKnown new place) (sym (ap (λ (s : Symbolic). known_at s place) grown.same))
    (known-grown old new place (known_at old place) grown (knows place))

-- ---- What the step decides is what it was.
pub DecidesBy-grown : (old new : Symbolic) (instr : Instr) → IsGrown old new
    → DecidesBy old instr → DecidesBy new instr
DecidesBy-grown old new instr grown decides = record {
  word = decides.word;
  is = λ input standing.
      ap step_decisions (concrete-grown old new input grown)
      ∙ decides.is input (stood old new input grown standing)
      ∙ ap (λ (c : State). Needs decides.word ∷ instr_decisions c (Some instr))
      (sym (concrete-grown old new input grown));
}

pub AreAlike-grown : (old new : Symbolic) (decides : State → List Decision) → IsGrown old new
    → AreUniform new decides → AreUniform old decides
AreAlike-grown old new decides grown are = record {
  made = are.made;
  alike = λ input standing.
      ap decides (sym (concrete-grown old new input grown))
      ∙ are.alike input (still_stands old new input grown standing);
}

-- what an instruction decides first stands behind its word
pub StandsAt-first : (s : Symbolic) (instr : Instr) (decision : List ℕ → Decision)
    (back : List ℕ → List Decision)
    → ((input : List ℕ) → instr_decisions (concrete s input) (Some instr)
    ≡ decision input ∷ back input)
    → DecidesBy s instr → StandsAt s 1 decision
StandsAt-first s instr decision back first decides = record {
  front = Needs decides.word ∷ [];
  back = back;
  before = refl;
  is = λ input standing. decides.is input standing
      ∙ ap (λ ds. Needs decides.word ∷ ds) (first input);
}

-- ---- Where a step stops.
pub Stops-at : (old new : Symbolic) (halt : Halt) → IsGrown old new → StopsAt new halt
    → Stops old new halt
Stops-at old new (SideHalt term) grown at = (grown, at)
Stops-at old new (NumberHalt place term) grown at = (grown, at)
Stops-at old new NoMemory grown at = tt

-- after terms were made
pub Stops-made : (old mid new : Symbolic) (halt : Halt) → IsGrown old mid → Stops mid new halt
    → Stops old new halt
Stops-made old mid new (SideHalt term) grown stops =
    (IsGrown-trans old mid new grown stops.0, stops.1)
Stops-made old mid new (NumberHalt place term) grown stops =
    (IsGrown-trans old mid new grown stops.0, stops.1)
Stops-made old mid new NoMemory grown stops = tt

pub map-map : {A B C : Type 0} (f : B → C) (g : A → B) (xs : List A) → map f (map g xs) ≡ map (λ x. f (g x)) xs
map-map f g [] = refl
map-map f g (x ∷ xs) = ap (λ ys. f (g x) ∷ ys) (map-map f g xs)

-- ---- Registers.
pub x-worth : (s : Symbolic) (input : List ℕ) (r : ℕ)
    → x (concrete s input) r ≡ worth_of s.terms input (value_at s.registers r)
x-worth s input r = lists.get_or-map (worth_of s.terms input) s.registers r (Number 0)

-- what a write makes of the registers on an assignment
pub registers-set : (f : Value → ℕ) (rs : List Value) (rd : ℕ) (v : Value)
    → map f (set_value rs rd v) ≡ written (map f rs) rd (f v)
registers-set f rs rd v =
    elim (rd == 0) as (λ b. map f (if b then rs else slice_set rs rd v)
    ≡ (if b then map f rs else slice_set (map f rs) rd (f v)))
    [ true ↦ refl | false ↦ map-set f rs rd v ]

-- ---- What instructions keep.
pub Keeps-refl : (s : Symbolic) → Keeps s s
Keeps-refl s = record {
  continues = Continues-refl s.terms;
  condition = refl;
  choices = refl;
  steps = refl;
  known = refl;
  sample = refl;
  few = omega arith;
}

pub Keeps-grown : (old new : Symbolic) → IsGrown old new → Keeps old new
Keeps-grown old new grown = record {
  continues = grown.continues;
  condition = ap (λ (s : Symbolic). s.condition) grown.same;
  choices = ap (λ (s : Symbolic). s.choices) grown.same;
  steps = ap (λ (s : Symbolic). s.steps) grown.same;
  known = ap (λ (s : Symbolic). s.known) grown.same;
  sample = ap (λ (s : Symbolic). s.sample) grown.same;
  few = let same = ap (λ (s : Symbolic). length s.output) grown.same in omega (arith, same);
}

-- after something that has written no byte
pub Keeps-after : (old mid new : Symbolic) → Keeps old mid → mid.output ≡ old.output
    → Keeps mid new → Keeps old new
Keeps-after old mid new first same second = record {
  continues = Continues-trans first.continues second.continues;
  condition = second.condition ∙ first.condition;
  choices = second.choices ∙ first.choices;
  steps = second.steps ∙ first.steps;
  known = second.known ∙ first.known;
  sample = second.sample ∙ first.sample;
  few = let lengths = ap length same in omega (arith, lengths, second.few);
}

-- after terms were made
pub Keeps-made : (old mid new : Symbolic) → IsGrown old mid → Keeps mid new → Keeps old new
Keeps-made old mid new grown kept =
    Keeps-after old mid new (Keeps-grown old mid grown)
    (ap (λ (s : Symbolic). s.output) grown.same) kept

-- what comes of a run after terms were made comes of it before
pub Comes-made : (old mid new : Symbolic) (step : Step) (makes : State → Outcome) → IsGrown old mid
    → Comes mid new step makes → Comes old new step makes
Comes-made old mid new step makes grown comes = record {
  keeps = Keeps-made old mid new grown comes.keeps;
  is = λ input standing.
      ap makes (sym (concrete-grown old mid input grown))
      ∙ comes.is input (still_stands old mid input grown standing);
}

-- what the machine makes of it, in other words
pub Comes-by : (old new : Symbolic) (step : Step) (made makes : State → Outcome)
    → ((input : List ℕ) → stands_for old input ≡ true
    → makes (concrete old input) ≡ made (concrete old input))
    → Comes old new step made → Comes old new step makes
Comes-by old new step made makes same comes = record {
  keeps = comes.keeps;
  is = λ input standing. same input standing ∙ comes.is input standing;
}

-- at the next instruction, with a register written
abbrev pub onward_with : Symbolic → ℕ → Value → Symbolic
onward_with s rd v = record s { pc = sum32 s.pc 4; registers = set_value s.registers rd v }

pub to_register-is : (s : Symbolic) (rd : ℕ) (v : Value) (input : List ℕ)
    → to_register (concrete s input) rd (worth_of s.terms input v)
    ≡ machine.Running (concrete (onward_with s rd v) input)
to_register-is s rd v input =
    ap (λ rs. machine.Running (record (concrete s input) { pc = sum32 s.pc 4; registers = rs }))
    (sym (registers-set (worth_of s.terms input) s.registers rd v))

-- where only pc and registers change
pub Keeps-moved : (s : Symbolic) (pc : ℕ) (registers : List Value) → Keeps s (record s { pc = pc; registers = registers })
Keeps-moved s pc registers = record {
  continues = Continues-refl s.terms;
  condition = refl;
  choices = refl;
  steps = refl;
  known = refl;
  sample = refl;
  few = omega arith;
}

pub Keeps-onward : (s : Symbolic) (rd : ℕ) (v : Value) → Keeps s (onward_with s rd v)
Keeps-onward s rd v = Keeps-moved s (sum32 s.pc 4) (set_value s.registers rd v)

-- a value that was made is written
pub comes_to_register : (old mid new : Symbolic) (step : Step) (rd : ℕ) (v : Value)
    (number : List ℕ → ℕ) (makes : State → Outcome)
    → MakesValue old mid v number → step ≡ Running → new ≡ onward_with mid rd v
    → ((input : List ℕ) → stands_for old input ≡ true
    → makes (concrete old input) ≡ to_register (concrete old input) rd (number input))
    → Comes old new step makes
comes_to_register old mid new step rd v number makes made running there does =
    subst (λ (s : Symbolic). Comes old s step makes) (sym there)
    (subst (λ (t : Step). Comes old (onward_with mid rd v) t makes) (sym running)
    (record {
      keeps = Keeps-made old mid (onward_with mid rd v) made.grown (Keeps-onward mid rd v);
      is = λ input standing.
          does input standing
          ∙ ap (λ (c : State). to_register c rd (number input))
          (sym (concrete-grown old mid input made.grown))
          ∙ ap (to_register (concrete mid input) rd)
          (sym (made.gives.worth input (stands-bytes old input standing)))
          ∙ to_register-is mid rd v input;
    }))
