-- Stores to addresses that are numbers, and that are terms.
use Rattle.std.proofs.Common.{◌≡◌, ℕ, ◌/◌, true, false, List, [], ◌∷◌, length, refl, sym, ap, subst, ◌∙◌, arith}
use Rattle.std.specs.Prelude.{Option, None, Some, IsSome, Result, Ok, Err, IfOk}
use Rattle.bv_dag.specs.Graphs.{number_of}
use Rattle.cow_pages.specs.SymbolicMemory.{memory_flags}
use Rattle.fork_spec.specs.Decisions.{Number as Needs, as_load, store_decisions}
use Rattle.rv_decode.specs.declared.ends.Trap.TheVariants.{StoreAccess, StoreMisaligned}
use Rattle.rv_decode.specs.declared.instr.Instr.TheVariants.{Store}
use Rattle.rv_decode.specs.declared.ops.RegisterOp.TheVariants.{Add}
use Rattle.rv_decode.specs.declared.ops.StoreWidth.{StoreWidth}
use Rattle.rv_decode.specs.declared.ops.StoreWidth.TheVariants.{Sb, Sh, Sw}
use Rattle.rv_spec.specs.Arithmetic.{sum32}
use Rattle.rv_spec.specs.Machine.{State, Outcome, is_load_aligned, is_store_aligned, onward, trapped, x}
use Rattle.rv_spec.specs.Machine as machine
use Rattle.rv_spec.specs.Memory.{can_write, has_w}
use Rattle.term_trees.specs.Trees.{tree_of}
use Rattle.sym_state.specs.Expressions.{Expression, Number as ANumber, Unknown, combined_of, value_expression}
use Rattle.sym_state.specs.KeptUpdates.{updates_expressed}
use Rattle.sym_state.specs.Moves.{IsGrown, with_terms}
use Rattle.sym_state.specs.Placing.{bytes_expressed, bytes_worth}
use Rattle.sym_state.specs.Scattering.{MakesStored}
use Rattle.sym_state.specs.Storing.{stored_on}
use Rattle.sym_state.specs.Symbolic.{Symbolic, concrete, stands_for, value_at}
use Rattle.sym_state.specs.Updates.{ExpressedUpdates}
use Rattle.sym_state.specs.Unfolded.{Unfolded, expression_at, unfolded}
use Rattle.sym_state.specs.Unfolding as symbolic
use Rattle.sym_state.specs.Unfolding.{store_by, with_store}
use Rattle.sym_state.specs.Values.{worth_of}
use Rattle.sym_state.specs.declared.value.Value.{Value}
use Rattle.sym_state.proofs.Grown.{concrete-grown, concrete-with_terms, unfolded-grown, unfolded-with_terms, still_stands}
use Rattle.sym_state.proofs.Opening.{stands-bytes}
use Rattle.sym_machine.specs.Loading.{IsAligned, IsOnPage}
use Rattle.sym_machine.specs.Steps.{Carries, Comes, Keeps, Puts}
use Rattle.sym_machine.specs.Storing.{CarriesStore}
use Rattle.sym_state.specs.declared.ended.RunEnd.TheVariants.{Traps}
use Rattle.sym_machine.specs.declared.outcome.Step.{Step}
use Rattle.sym_machine.specs.declared.outcome.Step.TheVariants.{Running, Ended}
use Rattle.sym_machine.proofs.Loads.{aligned, decisions_on, misaligned, on_page, place_by}
use Rattle.sym_machine.proofs.Putting.{Keeps-went, with_put}
use Rattle.sym_machine.proofs.Standing.{AreAlike-grown, Comes-made, Keeps-refl, x-worth}
use Rattle.sym_machine.proofs.Transfers.{address}
use Rattle.sym_machine.proofs.Unfolds.{expression-x}

-- ---- What the machine does.
-- a store is aligned where a load of as many bytes is
pub aligned_as : (width : StoreWidth) (a : ℕ) → is_store_aligned width a ≡ is_load_aligned (as_load width) a
aligned_as Sb a = refl
aligned_as Sh a = refl
aligned_as Sw a = refl

-- a page that can be written is mapped
pub mapped_as : (flags : Option ℕ) → has_w flags ≡ true → IsSome flags
mapped_as None is = cc is
mapped_as (Some flags) is = refl

traps_misaligned : (c : State) (width : StoreWidth) (a n : ℕ) → is_load_aligned (as_load width) a ≡ false
    → machine.store c width a n ≡ trapped StoreMisaligned c
traps_misaligned c width a n other = rw (aligned_as width a ∙ other) refl

traps_refused : (c : State) (width : StoreWidth) (a n : ℕ) → is_load_aligned (as_load width) a ≡ true → can_write c.flags a ≡ false
    → machine.store c width a n ≡ trapped StoreAccess c
traps_refused c width a n is other = rw (aligned_as width a ∙ is) (rw other refl)

stores : (c : State) (width : StoreWidth) (a n : ℕ) → is_load_aligned (as_load width) a ≡ true → can_write c.flags a ≡ true
    → machine.store c width a n ≡ machine.Running (onward (with_put c a (machine.stored width n)) c.registers)
stores c width a n is can = rw (aligned_as width a ∙ is) (rw can refl)

nothing_by : (width : StoreWidth) (u : Unfolded) (a : ℕ) (e v : Expression) → is_load_aligned (as_load width) a ≡ false
    → u ≡ store_by u width e v (Needs 1 ∷ [])
nothing_by Sb u a e v is = cc is
nothing_by Sh u a e v is = refl
nothing_by Sw u a e v is = refl

-- ---- An address that is this on each assignment.
module _ (s : Symbolic) (of : State → ℕ) (at : List ℕ → ℕ)
    (is : (input : List ℕ) → stands_for s input ≡ true → of (concrete s input) ≡ at input)
    (width : StoreWidth) (rs2 : ℕ) (e : Expression) where
  abbrev makes : State → Outcome
  makes c = machine.store c width (of c) (x c rs2)

  abbrev value : Expression
  value = expression_at (unfolded s).registers rs2

  pub carries_misaligned : ((input : List ℕ) → stands_for s input ≡ true → is_load_aligned (as_load width) (at input) ≡ false)
      → CarriesStore of s s (Ended (Traps StoreMisaligned)) width rs2 e
  carries_misaligned other = record {
    comes = record {
      keeps = Keeps-refl s;
      is = λ input stands. ap (λ a. machine.store (concrete s input) width a (x (concrete s input) rs2)) (is input stands)
          ∙ traps_misaligned (concrete s input) width (at input) (x (concrete s input) rs2) (other input stands);
    };
    alike = record {
      made = Needs 1 ∷ [];
      alike = λ input stands. ap (store_decisions width) (is input stands) ∙ misaligned (as_load width) (at input) (other input stands);
    };
    terms = λ input stands.
        nothing_by width (unfolded s) (at input) e value (other input stands)
        ∙ ap (store_by (unfolded s) width e value)
        (sym (ap (store_decisions width) (is input stands) ∙ misaligned (as_load width) (at input) (other input stands)));
  }

  -- it isn't misaligned, and stands on one page
  module _ (page : ℕ) (fits : (input : List ℕ) → stands_for s input ≡ true → is_load_aligned (as_load width) (at input) ≡ true)
      (on : (input : List ℕ) → stands_for s input ≡ true → at input / 256 ≡ page) where
    decides : (input : List ℕ) → stands_for s input ≡ true → store_decisions width (of (concrete s input)) ≡ decisions_on (as_load width) page
    decides input stands =
        ap (store_decisions width) (is input stands) ∙ aligned (as_load width) (at input) (fits input stands)
        ∙ ap (decisions_on (as_load width)) (on input stands)

    by_page : (input : List ℕ) → stands_for s input ≡ true
        → symbolic.store (unfolded s) width page e value ≡ store_by (unfolded s) width e value (store_decisions width (of (concrete s input)))
    by_page input stands =
        sym (on_page (as_load width) (unfolded s) page (λ p. symbolic.store (unfolded s) width p e value))
        ∙ ap (store_by (unfolded s) width e value) (sym (decides input stands))

    can_is : (input : List ℕ) → stands_for s input ≡ true → can_write (concrete s input).flags (at input) ≡ has_w (memory_flags s.memory page)
    can_is input stands = ap (λ p. has_w (memory_flags s.memory p)) (on input stands)

    pub carries_refused : has_w (memory_flags s.memory page) ≡ false → CarriesStore of s s (Ended (Traps StoreAccess)) width rs2 e
    carries_refused other = record {
      comes = record {
        keeps = Keeps-refl s;
        is = λ input stands. ap (λ a. machine.store (concrete s input) width a (x (concrete s input) rs2)) (is input stands)
            ∙ traps_refused (concrete s input) width (at input) (x (concrete s input) rs2) (fits input stands) (can_is input stands ∙ other);
      };
      alike = record { made = decisions_on (as_load width) page; alike = decides };
      terms = λ input stands. rw other refl ∙ by_page input stands;
    }

    -- memory became what is stored, and nothing else
    pub carries_stored : (mid new : Symbolic) (step : Step) → has_w (memory_flags s.memory page) ≡ true → Keeps s mid
        → ((input : List ℕ) → stands_for s input ≡ true
        → concrete mid input ≡ with_put (concrete s input) (at input) (machine.stored width (x (concrete s input) rs2)))
        → unfolded mid ≡ with_store (unfolded s) width page e value
        → step ≡ Running → new ≡ record mid { pc = sum32 mid.pc 4 } → CarriesStore of s new step width rs2 e
    carries_stored mid new step can kept put made running there = record {
      comes = subst (λ (t : Symbolic). Comes s t step makes) (sym there)
          (subst (λ (t : Step). Comes s (record mid { pc = sum32 mid.pc 4 }) t makes) (sym running)
          (record {
            keeps = Keeps-went s mid (sum32 mid.pc 4) kept;
            is = λ input stands.
                ap (λ a. machine.store (concrete s input) width a (x (concrete s input) rs2)) (is input stands)
                ∙ stores (concrete s input) width (at input) (x (concrete s input) rs2) (fits input stands) (can_is input stands ∙ can)
                ∙ ap (λ (c : State). machine.Running (record c { pc = sum32 c.pc 4 })) (sym (put input stands));
          }));
      alike = record { made = decisions_on (as_load width) page; alike = decides };
      terms = λ input stands.
          ap unfolded there
          ∙ ap (λ (u : Unfolded). record u { pc = sum32 u.pc 4 }) made
          ∙ rw can refl ∙ by_page input stands;
    }

-- ---- To an address that is a number.
pub put_is : (s mid : Symbolic) (width : StoreWidth) (at rs2 : ℕ) (v : Value) → v ≡ value_at s.registers rs2
    → Puts s mid at (λ input. machine.stored width (worth_of s.terms input v))
    → (input : List ℕ) → stands_for s input ≡ true
    → concrete mid input ≡ with_put (concrete s input) at (machine.stored width (x (concrete s input) rs2))
put_is s mid width at rs2 v is puts input stands =
    puts.is input stands
    ∙ ap (λ n. with_put (concrete s input) at (machine.stored width n))
    (ap (worth_of s.terms input) is ∙ sym (x-worth s input rs2))

-- ---- To the address that a term is.
pub Keeps-stored : (s mid : Symbolic) (width : StoreWidth) (page term : ℕ) (v : Value) → MakesStored s mid width page term v → Keeps s mid
Keeps-stored s mid width page term v made = record {
  continues = made.continues;
  condition = ap (λ (t : Symbolic). t.condition) made.same;
  choices = ap (λ (t : Symbolic). t.choices) made.same;
  steps = ap (λ (t : Symbolic). t.steps) made.same;
  known = ap (λ (t : Symbolic). t.known) made.same;
  sample = ap (λ (t : Symbolic). t.sample) made.same;
  few = let same = ap (λ (t : Symbolic). length t.output) made.same in omega (arith, same);
}

pub stored_is : (s mid : Symbolic) (width : StoreWidth) (page term rs2 : ℕ) (v : Value) → v ≡ value_at s.registers rs2
    → IsAligned s (as_load width) term → IsOnPage s term page → MakesStored s mid width page term v
    → (input : List ℕ) → stands_for s input ≡ true
    → concrete mid input ≡ with_put (concrete s input) (number_of s.terms term input) (machine.stored width (x (concrete s input) rs2))
stored_is s mid width page term rs2 v is fits on made input stands =
    let a = number_of s.terms term input in
    ap (λ (t : Symbolic). concrete t input) made.same
    ∙ ap (λ f. record (concrete (with_terms s mid.terms) input) { flags = f; byte = bytes_worth mid.terms mid.memory input }) made.flags
    ∙ ap (λ (c : State). record c { byte = bytes_worth mid.terms mid.memory input }) (concrete-with_terms s mid.terms input made.before made.continues)
    ∙ ap (λ (b : ℕ → ℕ). record (concrete s input) { byte = b })
    (made.worth input (stands-bytes s input stands) (place_by (as_load width) page a (on input stands) (fits input stands)))
    ∙ ap (λ n. with_put (concrete s input) a (machine.stored width n)) (ap (worth_of s.terms input) is ∙ sym (x-worth s input rs2))

pub stored_terms : (s mid : Symbolic) (width : StoreWidth) (page term rs2 : ℕ) (v : Value) → v ≡ value_at s.registers rs2
    → MakesStored s mid width page term v
    → unfolded mid ≡ with_store (unfolded s) width page (Unknown (tree_of s.terms term)) (expression_at (unfolded s).registers rs2)
stored_terms s mid width page term rs2 v is made =
    ap unfolded made.same
    ∙ ap (λ f. record (unfolded (with_terms s mid.terms)) { flags = f; byte = bytes_expressed mid.terms mid.memory; updates = updates_expressed mid.terms mid.updates }) made.flags
    ∙ ap (λ (u : Unfolded). record u { byte = bytes_expressed mid.terms mid.memory; updates = updates_expressed mid.terms mid.updates })
    (unfolded-with_terms s mid.terms made.before made.continues)
    ∙ ap (λ (b : ℕ → Expression). record (unfolded s) { byte = b; updates = updates_expressed mid.terms mid.updates }) made.expressed
    ∙ ap (λ (ts : List ExpressedUpdates). record (unfolded s) {
      byte = stored_on width (unfolded s).byte page (Unknown (tree_of s.terms term)) (value_expression s.terms v);
      updates = ts;
    }) made.updates
    ∙ ap (with_store (unfolded s) width page (Unknown (tree_of s.terms term)))
    (ap (value_expression s.terms) is ∙ sym (expression-x s rs2))

-- ---- After terms were made.
pub carries-made : (old mid new : Symbolic) (step : Step) (of : State → ℕ) (width : StoreWidth) (rs2 : ℕ) (d e : Expression) → IsGrown old mid → d ≡ e
    → CarriesStore of mid new step width rs2 d → CarriesStore of old new step width rs2 e
carries-made old mid new step of width rs2 d e grown same carries = record {
  comes = Comes-made old mid new step (λ c. machine.store c width (of c) (x c rs2)) grown carries.comes;
  alike = AreAlike-grown old mid (λ c. store_decisions width (of c)) grown carries.alike;
  terms = λ input stands.
      carries.terms input (still_stands old mid input grown stands)
      ∙ ap (λ (u : Unfolded). store_by u width d (expression_at u.registers rs2) (store_decisions width (of (concrete mid input)))) (unfolded-grown old mid grown)
      ∙ ap (λ c. store_by (unfolded old) width d (expression_at (unfolded old).registers rs2) (store_decisions width (of c))) (concrete-grown old mid input grown)
      ∙ ap (λ f. store_by (unfolded old) width f (expression_at (unfolded old).registers rs2) (store_decisions width (of (concrete old input)))) same;
}

-- ---- From the sum of a register and an offset.
pub carries_store : (old mid new : Symbolic) (step : Step) (width : StoreWidth) (rs1 rs2 offset : ℕ) (e : Expression) → IsGrown old mid
    → e ≡ combined_of Add (expression_at (unfolded old).registers rs1) (ANumber offset)
    → CarriesStore (λ c. sum32 (x c rs1) offset) mid new step width rs2 e
    → Carries old new step (Store width rs1 rs2 offset)
carries_store old mid new step width rs1 rs2 offset e grown is carries =
    let made = carries-made old mid new step (address rs1 offset) width rs2 e
    (combined_of Add (expression_at (unfolded old).registers rs1) (ANumber offset)) grown is carries in
    record { comes = made.comes; alike = made.alike; terms = made.terms }

pub carries_if : {E : Type 0} (old mid new : Symbolic) (r : Result Step E) (width : StoreWidth) (rs1 rs2 offset : ℕ) (e : Expression) → IsGrown old mid
    → e ≡ combined_of Add (expression_at (unfolded old).registers rs1) (ANumber offset)
    → IfOk r (λ step. CarriesStore (λ c. sum32 (x c rs1) offset) mid new step width rs2 e)
    → IfOk r (λ step. Carries old new step (Store width rs1 rs2 offset))
carries_if old mid new (Err halt) width rs1 rs2 offset e grown is carries = tt
carries_if old mid new (Ok step) width rs1 rs2 offset e grown is carries = carries_store old mid new step width rs1 rs2 offset e grown is carries
