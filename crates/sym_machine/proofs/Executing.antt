-- Instructions that compute, branch and jump.
use Rattle.std.proofs.Common.{◌≡◌, ℕ, ◌<◌, Bool, true, List, [], ◌∷◌, refl, sym, ap, ◌∙◌}
use Rattle.rv_decode.specs.declared.instr.Instr.TheVariants.{Lui, Auipc, Jalr, Branch, Immediate, ShiftImmediate, Binary, Fence}
use Rattle.rv_decode.specs.declared.ends.PathStep.TheVariants.{Target}
use Rattle.rv_decode.specs.declared.ops.ImmediateOp.{ImmediateOp}
use Rattle.rv_decode.specs.declared.ops.RegisterOp.{RegisterOp}
use Rattle.rv_decode.specs.declared.ops.RegisterOp.TheVariants.{Add}
use Rattle.rv_decode.specs.declared.ops.ShiftOp.{ShiftOp}
use Rattle.rv_decode.specs.declared.ops.Test.{Test}
use Rattle.rv_spec.specs.Arithmetic.{sum32}
use Rattle.rv_spec.specs.Arithmetic as arithmetic
use Rattle.fork_spec.specs.Decisions.{Side, Number as Needs, step_decisions}
use Rattle.rv_spec.specs.Machine.{State, even, to_register, x}
use Rattle.rv_spec.specs.Machine as machine
use Rattle.sym_state.specs.Moves.{IsGrown, MakesBit, MakesValue}
use Rattle.sym_state.specs.Symbolic.{Symbolic, concrete, set_value, stands_for, value_at}
use Rattle.sym_state.specs.Expressions.{Number as ANumber, combined_of, value_expression}
use Rattle.sym_state.specs.Unfolded.{expression_at, unfolded}
use Rattle.sym_state.specs.Unfolding as symbolic
use Rattle.sym_state.specs.Values.{bit_worth, worth_of}
use Rattle.sym_state.specs.declared.value.Bit.{Bit}
use Rattle.sym_state.specs.declared.value.Value.{Value}
use Rattle.sym_state.specs.declared.value.Value.TheVariants.{Number}
use Rattle.sym_state.proofs.Grown.{IsGrown-trans, concrete-grown, unfolded-grown, still_stands, stood}
use Rattle.sym_state.proofs.Opening.{stands-bytes}
use Rattle.sym_machine.specs.Steps.{AreUniform, Carries, Comes}
use Rattle.sym_machine.specs.Stops.{DecidesBy}
use Rattle.sym_state.specs.Undecided.{StandsAt}
use Rattle.sym_machine.specs.declared.outcome.Step.{Step}
use Rattle.sym_machine.specs.declared.outcome.Step.TheVariants.{Running}
use Rattle.sym_machine.proofs.Unfolds.{expression-x, unfolded-onward, written}
use Rattle.sym_machine.proofs.Standing.{Comes-by, Comes-made, Keeps-moved, Keeps-onward, to_register-is, x-worth}

-- ---- A register is written.
pub comes_set : (s : Symbolic) (rd : ℕ) (v : Value) (of : State → ℕ)
    → ((input : List ℕ) → stands_for s input ≡ true → of (concrete s input) ≡ worth_of s.terms input v)
    → Comes s (record s { pc = sum32 s.pc 4; registers = set_value s.registers rd v }) Running (λ c. to_register c rd (of c))
comes_set s rd v of same = record {
  keeps = Keeps-onward s rd v;
  is = λ input stands. ap (to_register (concrete s input) rd) (same input stands) ∙ to_register-is s rd v input;
}

pub computes : (s t : Symbolic) (op : RegisterOp) (rd rs1 : ℕ) (second v : Value) (of : State → ℕ)
    → MakesValue s t v (λ input. arithmetic.combined op (worth_of s.terms input (value_at s.registers rs1)) (worth_of s.terms input second))
    → ((input : List ℕ) → stands_for s input ≡ true → of (concrete s input) ≡ worth_of s.terms input second)
    → Comes s (record t { pc = sum32 t.pc 4; registers = set_value t.registers rd v }) Running
    (λ c. to_register c rd (arithmetic.combined op (x c rs1) (of c)))
computes s t op rd rs1 second v of made same =
    let u : Symbolic = record t { pc = sum32 t.pc 4; registers = set_value t.registers rd v } in
    Comes-made s t u Running (λ c. to_register c rd (arithmetic.combined op (x c rs1) (of c))) made.grown
    (comes_set t rd v (λ c. arithmetic.combined op (x c rs1) (of c))
    (λ input stands.
    let before = stood s t input made.grown stands in
    let here = concrete-grown s t input made.grown in
    ap (λ c. arithmetic.combined op (x c rs1) (of c)) here
    ∙ ap (λ n. arithmetic.combined op n (of (concrete s input))) (x-worth s input rs1)
    ∙ ap (arithmetic.combined op (worth_of s.terms input (value_at s.registers rs1))) (same input before)
    ∙ sym (made.gives.worth input (stands-bytes s input before))))

pub computes_terms : (s t u : Symbolic) (op : RegisterOp) (rd rs1 : ℕ) (second v first : Value) → IsGrown s t
    → first ≡ value_at s.registers rs1
    → value_expression t.terms v ≡ combined_of op (value_expression s.terms first) (value_expression s.terms second)
    → u ≡ record t { pc = sum32 t.pc 4; registers = set_value t.registers rd v }
    → unfolded u ≡ symbolic.to_register (unfolded s) rd (combined_of op (expression_at (unfolded s).registers rs1) (value_expression s.terms second))
computes_terms s t u op rd rs1 second v first grown is made there =
    written s t u rd v (combined_of op (expression_at (unfolded s).registers rs1) (value_expression s.terms second)) grown there
    (made ∙ ap (λ w. combined_of op (value_expression s.terms w) (value_expression s.terms second)) is
    ∙ ap (λ e. combined_of op e (value_expression s.terms second)) (sym (expression-x s rs1)))

-- ---- A conditional branch.
module _ (s t : Symbolic) (test : Test) (rs1 rs2 offset : ℕ) (bit : Bit)
    (made : MakesBit s t bit (λ input. arithmetic.passes test (worth_of s.terms input (value_at s.registers rs1)) (worth_of s.terms input (value_at s.registers rs2))))
    (decides : DecidesBy s (Branch test rs1 rs2 offset)) where
  passes_is : (input : List ℕ) → stands_for s input ≡ true →
      arithmetic.passes test (x (concrete s input) rs1) (x (concrete s input) rs2) ≡ bit_worth t.terms input bit
  passes_is input stands =
      ap (λ n. arithmetic.passes test n (x (concrete s input) rs2)) (x-worth s input rs1)
      ∙ ap (arithmetic.passes test (worth_of s.terms input (value_at s.registers rs1))) (x-worth s input rs2)
      ∙ sym (made.gives.worth input (stands-bytes s input stands))

  pub side_next : StandsAt t 1 (λ input. Side (bit_worth t.terms input bit))
  side_next = record {
    front = Needs decides.word ∷ [];
    back = λ input. [];
    before = refl;
    is = λ input stands.
        let before = stood s t input made.grown stands in
        ap step_decisions (concrete-grown s t input made.grown) ∙ decides.is input before
        ∙ ap (λ b. Needs decides.word ∷ Side b ∷ []) (passes_is input before);
  }

  pub branches : (u : Symbolic) (step : Step) (taken : Bool) (target : ℕ) → target ≡ sum32 s.pc offset
      → ((input : List ℕ) → stands_for t input ≡ true → bit_worth t.terms input bit ≡ taken)
      → Comes t u step (λ c. machine.branch c taken target) → unfolded u ≡ symbolic.branch (unfolded t) taken target
      → Carries s u step (Branch test rs1 rs2 offset)
  branches u step taken target at known comes terms =
      let is_taken : (input : List ℕ) → stands_for s input ≡ true → arithmetic.passes test (x (concrete s input) rs1) (x (concrete s input) rs2) ≡ taken =
      λ input stands. passes_is input stands ∙ known input (still_stands s t input made.grown stands) in
      record {
        comes = Comes-by s u step (λ c. machine.branch c taken target) (λ c. machine.execute c (Branch test rs1 rs2 offset))
            (λ input stands. ap (λ b. machine.branch (concrete s input) b (sum32 s.pc offset)) (is_taken input stands)
            ∙ ap (machine.branch (concrete s input) taken) (sym at))
            (Comes-made s t u step (λ c. machine.branch c taken target) made.grown comes);
        alike = record { made = Side taken ∷ []; alike = λ input stands. ap (λ b. Side b ∷ []) (is_taken input stands) };
        terms = λ input stands.
            terms ∙ ap (λ x. symbolic.branch x taken target) (unfolded-grown s t made.grown)
            ∙ ap (symbolic.branch (unfolded s) taken) at
            ∙ ap (λ b. symbolic.branch (unfolded s) b (sum32 s.pc offset)) (sym (is_taken input stands));
      }

-- ---- A jump to an address in a register.
module _ (s t u : Symbolic) (rd rs1 offset : ℕ) (sum target : Value)
    (made : MakesValue s t sum (λ input. arithmetic.combined Add (worth_of s.terms input (value_at s.registers rs1)) offset))
    (cleared : MakesValue t u target (λ input. even (worth_of t.terms input sum)))
    (decides : DecidesBy s (Jalr rd rs1 offset)) where
  grown : IsGrown s u
  grown = IsGrown-trans s t u made.grown cleared.grown

  target_is : (input : List ℕ) → stands_for s input ≡ true → even (sum32 (x (concrete s input) rs1) offset) ≡ worth_of u.terms input target
  target_is input stands =
      ap (λ n. even (sum32 n offset)) (x-worth s input rs1)
      ∙ ap even (sym (made.gives.worth input (stands-bytes s input stands)))
      ∙ sym (cleared.gives.worth input (stands-bytes s input stands))

  pub target_next : StandsAt u 1 (λ input. Needs (worth_of u.terms input target))
  target_next = record {
    front = Needs decides.word ∷ [];
    back = λ input. [];
    before = refl;
    is = λ input stands.
        let before = stood s u input grown stands in
        ap step_decisions (concrete-grown s u input grown) ∙ decides.is input before
        ∙ ap (λ n. Needs decides.word ∷ Needs n ∷ []) (target_is input before);
  }

  pub ready_to_jump : IsGrown s u
  ready_to_jump = grown

  pub jumps : (v : Symbolic) (step : Step) (at : ℕ)
      → ((input : List ℕ) → stands_for u input ≡ true → worth_of u.terms input target ≡ at)
      → Comes u v step (λ c. machine.linked (machine.noted c (Target at)) rd at)
      → unfolded v ≡ symbolic.linked (symbolic.noted (unfolded u) (Target at)) rd at → Carries s v step (Jalr rd rs1 offset)
  jumps v step at known comes terms =
      let is_at : (input : List ℕ) → stands_for s input ≡ true → even (sum32 (x (concrete s input) rs1) offset) ≡ at =
      λ input stands. target_is input stands ∙ known input (still_stands s u input grown stands) in
      record {
        comes = Comes-by s v step (λ c. machine.linked (machine.noted c (Target at)) rd at) (λ c. machine.execute c (Jalr rd rs1 offset))
            (λ input stands. ap (λ n. machine.linked (machine.noted (concrete s input) (Target n)) rd n) (is_at input stands))
            (Comes-made s u v step (λ c. machine.linked (machine.noted c (Target at)) rd at) grown comes);
        alike = record { made = Needs at ∷ []; alike = λ input stands. ap (λ n. Needs n ∷ []) (is_at input stands) };
        terms = λ input stands.
            terms ∙ ap (λ x. symbolic.linked (symbolic.noted x (Target at)) rd at) (unfolded-grown s u grown)
            ∙ ap (λ n. symbolic.linked (symbolic.noted (unfolded s) (Target n)) rd n) (sym (is_at input stands));
      }

-- ---- Instructions that need nothing.
nothing_decided : (s : Symbolic) → AreUniform s (λ c. [])
nothing_decided s = record { made = []; alike = λ input stands. refl }

pub loads_upper : (s : Symbolic) (rd upper : ℕ)
    → Carries s (record s { pc = sum32 s.pc 4; registers = set_value s.registers rd (Number upper) }) Running (Lui rd upper)
loads_upper s rd upper = record {
  comes = comes_set s rd (Number upper) (λ c. upper) (λ input stands. refl);
  alike = nothing_decided s;
  terms = λ input stands. unfolded-onward s rd (Number upper);
}

pub adds_upper : (s : Symbolic) (rd upper address : ℕ) → address ≡ sum32 s.pc upper
    → Carries s (record s { pc = sum32 s.pc 4; registers = set_value s.registers rd (Number address) }) Running (Auipc rd upper)
adds_upper s rd upper address is = record {
  comes = comes_set s rd (Number address) (λ c. sum32 c.pc upper) (λ input stands. sym is);
  alike = nothing_decided s;
  terms = λ input stands. unfolded-onward s rd (Number address) ∙ ap (λ n. symbolic.to_register (unfolded s) rd (ANumber n)) is;
}

pub goes_on : (s : Symbolic) → Carries s (record s { pc = sum32 s.pc 4 }) Running Fence
goes_on s = record {
  comes = record {
    keeps = Keeps-moved s (sum32 s.pc 4) s.registers;
    is = λ input stands. refl;
  };
  alike = nothing_decided s;
  terms = λ input stands. refl;
}

-- ---- What is computed of registers and numbers.
abbrev pub Computes : Symbolic → Symbolic → Step → RegisterOp → (rd rs1 : ℕ) → Value → Type 0
Computes s u step op rd rs1 second = (of : State → ℕ)
    → ((input : List ℕ) → stands_for s input ≡ true → of (concrete s input) ≡ worth_of s.terms input second)
    → Comes s u step (λ c. to_register c rd (arithmetic.combined op (x c rs1) (of c)))

-- its terms
abbrev pub ComputesTerms : Symbolic → Symbolic → RegisterOp → (rd rs1 : ℕ) → Value → Type 0
ComputesTerms s u op rd rs1 second =
    unfolded u ≡ symbolic.to_register (unfolded s) rd (combined_of op (expression_at (unfolded s).registers rs1) (value_expression s.terms second))

pub with_immediate : (s u : Symbolic) (step : Step) (op : ImmediateOp) (of : RegisterOp) (rd rs1 immediate : ℕ)
    → ((a b : ℕ) → arithmetic.combined of a b ≡ arithmetic.with_immediate op a b)
    → of ≡ symbolic.of_immediate op
    → Computes s u step of rd rs1 (Number immediate) → ComputesTerms s u of rd rs1 (Number immediate)
    → Carries s u step (Immediate op rd rs1 immediate)
with_immediate s u step op of rd rs1 immediate same is computed terms = record {
  comes = Comes-by s u step (λ c. to_register c rd (arithmetic.combined of (x c rs1) immediate))
      (λ c. to_register c rd (arithmetic.with_immediate op (x c rs1) immediate))
      (λ input stands. ap (to_register (concrete s input) rd) (sym (same (x (concrete s input) rs1) immediate)))
      (computed (λ c. immediate) (λ input stands. refl));
  alike = nothing_decided s;
  terms = λ input stands.
      terms ∙ ap (λ o. symbolic.to_register (unfolded s) rd (combined_of o (expression_at (unfolded s).registers rs1) (ANumber immediate))) is;
}

pub shifted_by : (s u : Symbolic) (step : Step) (op : ShiftOp) (of : RegisterOp) (rd rs1 amount : ℕ) → amount < 32
    → ((a n : ℕ) → n < 32 → arithmetic.combined of a n ≡ arithmetic.shifted op a n)
    → of ≡ symbolic.of_shift op
    → Computes s u step of rd rs1 (Number amount) → ComputesTerms s u of rd rs1 (Number amount)
    → Carries s u step (ShiftImmediate op rd rs1 amount)
shifted_by s u step op of rd rs1 amount small same is computed terms = record {
  comes = Comes-by s u step (λ c. to_register c rd (arithmetic.combined of (x c rs1) amount))
      (λ c. to_register c rd (arithmetic.shifted op (x c rs1) amount))
      (λ input stands. ap (to_register (concrete s input) rd) (sym (same (x (concrete s input) rs1) amount small)))
      (computed (λ c. amount) (λ input stands. refl));
  alike = nothing_decided s;
  terms = λ input stands.
      terms ∙ ap (λ o. symbolic.to_register (unfolded s) rd (combined_of o (expression_at (unfolded s).registers rs1) (ANumber amount))) is;
}

pub of_two : (s u : Symbolic) (step : Step) (op : RegisterOp) (rd rs1 rs2 : ℕ)
    → Computes s u step op rd rs1 (value_at s.registers rs2) → ComputesTerms s u op rd rs1 (value_at s.registers rs2)
    → Carries s u step (Binary op rd rs1 rs2)
of_two s u step op rd rs1 rs2 computed terms = record {
  comes = computed (λ c. x c rs2) (λ input stands. x-worth s input rs2);
  alike = nothing_decided s;
  terms = λ input stands.
      terms ∙ ap (λ e. symbolic.to_register (unfolded s) rd (combined_of op (expression_at (unfolded s).registers rs1) e)) (sym (expression-x s rs2));
}
