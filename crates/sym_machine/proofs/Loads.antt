-- Loads from addresses that are numbers, and that are terms.
use Rattle.std.proofs.Common.{◌≡◌, ℕ, ◌/◌, ◌%◌, ◌^◌, ◌<◌, ◌&&◌, Bool, true, false, List, [], ◌∷◌, refl, sym, ap, subst, ◌∙◌, arith}
use Rattle.std.specs.Prelude.{◌==◌, not, is_some, nat_lt, Result, Ok, Err, IfOk, Some}
use Rattle.std.specs.Int.Bits.{bit_and}
use Rattle.std.proofs.lemmas.Bool.Decides.{nat_tests}
use Rattle.std.proofs.lemmas.Nat.{and_mask}
use Rattle.bv_dag.specs.Graphs.{number_of}
use Rattle.cow_pages.specs.SymbolicMemory.{memory_flags}
use Rattle.fork_spec.specs.Decisions.{Decision, Number as Needs, aligned_decisions, instr_decisions, load_decisions, step_decisions}
use Rattle.rv_decode.specs.declared.ops.RegisterOp.TheVariants.{Add, Srl}
use Rattle.rv_decode.specs.declared.ops.LoadWidth.{LoadWidth}
use Rattle.rv_decode.specs.declared.ops.LoadWidth.TheVariants.{Lb, Lh, Lw, Lbu, Lhu}
use Rattle.rv_decode.specs.declared.ends.Trap.TheVariants.{LoadAccess, LoadMisaligned}
use Rattle.rv_decode.specs.declared.instr.Instr.TheVariants.{Load}
use Rattle.rv_spec.specs.Arithmetic.{combined, one_where, shifted_right, sum32}
use Rattle.rv_spec.specs.Machine.{State, is_load_aligned, to_register, trapped, x}
use Rattle.rv_spec.specs.Machine as machine
use Rattle.rv_spec.specs.Memory.{is_mapped}
use Rattle.sym_state.specs.Expressions.{Expression, Number as ANumber, combined_of, value_expression}
use Rattle.sym_state.specs.Loading.{is_place}
use Rattle.sym_state.specs.Moves.{IsGrown, MakesValue}
use Rattle.sym_state.specs.Selecting.{MakesLoaded}
use Rattle.sym_state.specs.Updates.{loaded_on}
use Rattle.sym_state.specs.Symbolic.{Symbolic, concrete, stands_for}
use Rattle.sym_state.specs.Unfolded.{Unfolded, expression_at, unfolded}
use Rattle.sym_state.specs.Unfolding.{load, load_by, with_page}
use Rattle.sym_state.specs.Values.{IsUnknown, worth_of}
use Rattle.sym_state.specs.declared.value.Value.{Value}
use Rattle.sym_state.proofs.Growing.{Continues-trans, number-grown}
use Rattle.sym_state.proofs.Grown.{IsGrown-trans, concrete-grown, unfolded-grown, still_stands, stood}
use Rattle.sym_state.proofs.Opening.{stands-bytes}
use Rattle.sym_machine.specs.Loading.{CarriesLoad, DecidesLoad, IsAligned, IsOnPage, mask_of, page_place}
use Rattle.sym_machine.specs.Steps.{Carries, Comes}
use Rattle.sym_state.specs.Undecided.{StandsAt}
use Rattle.sym_state.specs.declared.ended.RunEnd.TheVariants.{Traps}
use Rattle.sym_machine.specs.declared.outcome.Step.{Step}
use Rattle.sym_machine.specs.declared.outcome.Step.TheVariants.{Running, Ended}
use Rattle.sym_machine.proofs.Standing.{AreAlike-grown, Comes-made, Keeps-made, Keeps-onward, Keeps-refl, onward_with, to_register-is}
use Rattle.sym_machine.proofs.Transfers.{address}
use Rattle.sym_machine.proofs.Unfolds.{written}

-- ---- What a load decides.
-- with this page, where it isn't misaligned
abbrev pub decisions_on : LoadWidth → (page : ℕ) → List Decision
decisions_on Lb page = Needs page ∷ []
decisions_on Lh page = Needs 0 ∷ Needs page ∷ []
decisions_on Lw page = Needs 0 ∷ Needs page ∷ []
decisions_on Lbu page = Needs page ∷ []
decisions_on Lhu page = Needs 0 ∷ Needs page ∷ []

pub aligned : (width : LoadWidth) (a : ℕ) → is_load_aligned width a ≡ true → load_decisions width a ≡ decisions_on width (a / 256)
aligned Lb a is = refl
aligned Lh a is = ap (λ t. aligned_decisions t (a / 256)) is
aligned Lw a is = ap (λ t. aligned_decisions t (a / 256)) is
aligned Lbu a is = refl
aligned Lhu a is = ap (λ t. aligned_decisions t (a / 256)) is

pub misaligned : (width : LoadWidth) (a : ℕ) → is_load_aligned width a ≡ false → load_decisions width a ≡ Needs 1 ∷ []
misaligned Lb a is = cc is
misaligned Lh a is = ap (λ t. aligned_decisions t (a / 256)) is
misaligned Lw a is = ap (λ t. aligned_decisions t (a / 256)) is
misaligned Lbu a is = cc is
misaligned Lhu a is = ap (λ t. aligned_decisions t (a / 256)) is

pub on_page : (width : LoadWidth) (u : Unfolded) (page : ℕ) (makes : ℕ → Unfolded) → with_page width u (decisions_on width page) makes ≡ makes page
on_page Lb u page makes = refl
on_page Lh u page makes = refl
on_page Lw u page makes = refl
on_page Lbu u page makes = refl
on_page Lhu u page makes = refl

nothing_by : (width : LoadWidth) (u : Unfolded) (rd a : ℕ) (e : Expression) → is_load_aligned width a ≡ false
    → u ≡ load_by u width rd e (Needs 1 ∷ [])
nothing_by Lb u rd a e is = cc is
nothing_by Lh u rd a e is = refl
nothing_by Lw u rd a e is = refl
nothing_by Lbu u rd a e is = cc is
nothing_by Lhu u rd a e is = refl

-- ---- What the machine does.
traps_misaligned : (c : State) (width : LoadWidth) (rd a : ℕ) → is_load_aligned width a ≡ false
    → machine.load c width rd a ≡ trapped LoadMisaligned c
traps_misaligned c width rd a other = rw other refl

traps_unmapped : (c : State) (width : LoadWidth) (rd a : ℕ) → is_load_aligned width a ≡ true → is_mapped c.flags a ≡ false
    → machine.load c width rd a ≡ trapped LoadAccess c
traps_unmapped c width rd a is other = rw is (rw other refl)

loads : (c : State) (width : LoadWidth) (rd a : ℕ) → is_load_aligned width a ≡ true → is_mapped c.flags a ≡ true
    → machine.load c width rd a ≡ to_register c rd (machine.loaded width c.byte a)
loads c width rd a is mapped = rw is (rw mapped refl)

-- ---- An address that is this on each assignment.
module _ (s : Symbolic) (of : State → ℕ) (at : List ℕ → ℕ)
    (is : (input : List ℕ) → stands_for s input ≡ true → of (concrete s input) ≡ at input)
    (width : LoadWidth) (rd : ℕ) (e : Expression) where
  pub carries_misaligned : ((input : List ℕ) → stands_for s input ≡ true → is_load_aligned width (at input) ≡ false)
      → CarriesLoad of s s (Ended (Traps LoadMisaligned)) width rd e
  carries_misaligned other = record {
    comes = record {
      keeps = Keeps-refl s;
      is = λ input stands. ap (machine.load (concrete s input) width rd) (is input stands)
          ∙ traps_misaligned (concrete s input) width rd (at input) (other input stands);
    };
    alike = record {
      made = Needs 1 ∷ [];
      alike = λ input stands. ap (load_decisions width) (is input stands) ∙ misaligned width (at input) (other input stands);
    };
    terms = λ input stands.
        nothing_by width (unfolded s) rd (at input) e (other input stands)
        ∙ ap (load_by (unfolded s) width rd e)
        (sym (ap (load_decisions width) (is input stands) ∙ misaligned width (at input) (other input stands)));
  }

  -- it isn't misaligned, and stands on one page
  module _ (page : ℕ) (fits : (input : List ℕ) → stands_for s input ≡ true → is_load_aligned width (at input) ≡ true)
      (on : (input : List ℕ) → stands_for s input ≡ true → at input / 256 ≡ page) where
    decides : (input : List ℕ) → stands_for s input ≡ true → load_decisions width (of (concrete s input)) ≡ decisions_on width page
    decides input stands =
        ap (load_decisions width) (is input stands) ∙ aligned width (at input) (fits input stands) ∙ ap (decisions_on width) (on input stands)

    by_page : (input : List ℕ) → stands_for s input ≡ true
        → load (unfolded s) width rd page e ≡ load_by (unfolded s) width rd e (load_decisions width (of (concrete s input)))
    by_page input stands =
        sym (on_page width (unfolded s) page (λ p. load (unfolded s) width rd p e))
        ∙ ap (load_by (unfolded s) width rd e) (sym (decides input stands))

    mapped_is : (input : List ℕ) → stands_for s input ≡ true → is_mapped (concrete s input).flags (at input) ≡ is_some (memory_flags s.memory page)
    mapped_is input stands = ap (λ p. is_some (memory_flags s.memory p)) (on input stands)

    pub carries_unmapped : is_some (memory_flags s.memory page) ≡ false → CarriesLoad of s s (Ended (Traps LoadAccess)) width rd e
    carries_unmapped other = record {
      comes = record {
        keeps = Keeps-refl s;
        is = λ input stands. ap (machine.load (concrete s input) width rd) (is input stands)
            ∙ traps_unmapped (concrete s input) width rd (at input) (fits input stands) (mapped_is input stands ∙ other);
      };
      alike = record { made = decisions_on width page; alike = decides };
      terms = λ input stands. rw other refl ∙ by_page input stands;
    }

    pub carries_loaded : (mid new : Symbolic) (step : Step) (v : Value) → is_some (memory_flags s.memory page) ≡ true
        → IsGrown s mid
        → ((input : List ℕ) → stands_for s input ≡ true → worth_of mid.terms input v ≡ machine.loaded width (concrete s input).byte (at input))
        → value_expression mid.terms v ≡ loaded_on width (unfolded s).byte (unfolded s).updates page e
        → step ≡ Running → new ≡ onward_with mid rd v → CarriesLoad of s new step width rd e
    carries_loaded mid new step v mapped grown worth made running there = record {
      comes = subst (λ (t : Symbolic). Comes s t step (λ c. machine.load c width rd (of c))) (sym there)
          (subst (λ (t : Step). Comes s (onward_with mid rd v) t (λ c. machine.load c width rd (of c))) (sym running)
          (record {
            keeps = Keeps-made s mid (onward_with mid rd v) grown (Keeps-onward mid rd v);
            is = λ input stands.
                ap (machine.load (concrete s input) width rd) (is input stands)
                ∙ loads (concrete s input) width rd (at input) (fits input stands) (mapped_is input stands ∙ mapped)
                ∙ ap (λ (c : State). to_register c rd (machine.loaded width (concrete s input).byte (at input)))
                (sym (concrete-grown s mid input grown))
                ∙ ap (to_register (concrete mid input) rd) (sym (worth input stands))
                ∙ to_register-is mid rd v input;
          }));
      alike = record { made = decisions_on width page; alike = decides };
      terms = λ input stands.
          written s mid new rd v (loaded_on width (unfolded s).byte (unfolded s).updates page e) grown there made
          ∙ rw mapped refl ∙ by_page input stands;
    }

-- ---- What a load from the address that a term is decides.
pub DecidesLoad-grown : (old new : Symbolic) (width : LoadWidth) (term : ℕ) → IsGrown old new → IsUnknown old.terms 32 term
    → DecidesLoad old width term → DecidesLoad new width term
DecidesLoad-grown old new width term grown unknown decides = record {
  word = decides.word;
  is = λ input stands.
      let before = stood old new input grown stands in
      ap step_decisions (concrete-grown old new input grown) ∙ decides.is input before
      ∙ ap (λ n. Needs decides.word ∷ load_decisions width n) (sym (number-grown old.terms new.terms term 32 input grown.continues unknown.width (omega arith)));
  small = λ input stands.
      subst (λ n. n < 2 ^ 32) (sym (number-grown old.terms new.terms term 32 input grown.continues unknown.width (omega arith)))
      (decides.small input (stood old new input grown stands));
}

-- whether one of so many bits is 1
pub any_made : {E : Type 0} (old mid new : Symbolic) (r : Result Value E) (mask term : ℕ) (bits : Value)
    → MakesValue old mid bits (λ input. bit_and (number_of old.terms term input) mask)
    → IfOk r (λ v. MakesValue mid new v (λ input. one_where (nat_lt 0 (worth_of mid.terms input bits))))
    → IfOk r (λ v. MakesValue old new v (λ input. one_where (nat_lt 0 (bit_and (number_of old.terms term input) mask))))
any_made old mid new (Err e) mask term bits first second = tt
any_made old mid new (Ok v) mask term bits first second = record {
  grown = IsGrown-trans old mid new first.grown second.grown;
  gives = record {
    continues = Continues-trans first.gives.continues second.gives.continues;
    wide = second.gives.wide;
    worth = λ input bytes. second.gives.worth input bytes ∙ ap (λ n. one_where (nat_lt 0 n)) (first.gives.worth input bytes);
  };
}

-- 1 where it is misaligned comes first
rest_of : Bool → (page : ℕ) → List Decision
rest_of true page = Needs page ∷ []
rest_of false page = []

first_of : (t : Bool) (page : ℕ) → aligned_decisions t page ≡ Needs (one_where (not t)) ∷ rest_of t page
unfolding rest_of
first_of true page = refl
first_of false page = refl

some_of : (n : ℕ) → nat_lt 0 n ≡ not (n == 0)
some_of n = grind (arith, nat_tests)

-- a load of several bytes is misaligned where one of these bits is 1
tests : (width : LoadWidth) (a : ℕ) → (mask_of width ≡ 0 → ⊥) → nat_lt 0 (bit_and a (mask_of width)) ≡ not (is_load_aligned width a)
tests Lb a some = absurd (some refl)
tests Lbu a some = absurd (some refl)
tests Lh a some = some_of (bit_and a 1) ∙ ap (λ n. not (n == 0)) (and_mask a 1)
tests Lhu a some = some_of (bit_and a 1) ∙ ap (λ n. not (n == 0)) (and_mask a 1)
tests Lw a some = some_of (bit_and a 3) ∙ ap (λ n. not (n == 0)) (and_mask a 2)

decides_first : (width : LoadWidth) (a : ℕ) → (mask_of width ≡ 0 → ⊥) → load_decisions width a ≡ aligned_decisions (is_load_aligned width a) (a / 256)
decides_first Lb a some = absurd (some refl)
decides_first Lbu a some = absurd (some refl)
decides_first Lh a some = refl
decides_first Lhu a some = refl
decides_first Lw a some = refl

pub never_misaligned : (width : LoadWidth) (a : ℕ) → mask_of width ≡ 0 → is_load_aligned width a ≡ not false
never_misaligned Lb a none = refl
never_misaligned Lbu a none = refl
never_misaligned Lh a none = cc none
never_misaligned Lhu a none = cc none
never_misaligned Lw a none = cc none

pub misaligned_stands : (old new : Symbolic) (width : LoadWidth) (term : ℕ) (v : Value) → (mask_of width ≡ 0 → ⊥)
    → DecidesLoad old width term
    → MakesValue old new v (λ input. one_where (nat_lt 0 (bit_and (number_of old.terms term input) (mask_of width))))
    → StandsAt new 1 (λ input. Needs (worth_of new.terms input v))
misaligned_stands old new width term v some decides made = record {
  front = Needs decides.word ∷ [];
  back = λ input. rest_of (is_load_aligned width (number_of old.terms term input)) (number_of old.terms term input / 256);
  before = refl;
  is = λ input stands.
      let before = stood old new input made.grown stands in
      let a = number_of old.terms term input in
      ap step_decisions (concrete-grown old new input made.grown) ∙ decides.is input before
      ∙ ap (λ ds. Needs decides.word ∷ ds) (decides_first width a some ∙ first_of (is_load_aligned width a) (a / 256))
      ∙ ap (λ n. Needs decides.word ∷ Needs n ∷ rest_of (is_load_aligned width a) (a / 256))
      (sym (made.gives.worth input (stands-bytes old input before) ∙ ap one_where (tests width a some)));
}

is_one : (t : Bool) (n : ℕ) → one_where (not t) ≡ n → t ≡ not (n == 1)
is_one true n is = grind (arith, nat_tests, is)
is_one false n is = grind (arith, nat_tests, is)

pub misaligned_is : (old new : Symbolic) (width : LoadWidth) (term n : ℕ) (v : Value) → (mask_of width ≡ 0 → ⊥)
    → MakesValue old new v (λ input. one_where (nat_lt 0 (bit_and (number_of old.terms term input) (mask_of width))))
    → ((input : List ℕ) → stands_for new input ≡ true → worth_of new.terms input v ≡ n)
    → (input : List ℕ) → stands_for old input ≡ true → is_load_aligned width (number_of old.terms term input) ≡ not (n == 1)
misaligned_is old new width term n v some made known input stands =
    let a = number_of old.terms term input in
    is_one (is_load_aligned width a) n
    (ap one_where (sym (tests width a some)) ∙ sym (made.gives.worth input (stands-bytes old input stands))
    ∙ known input (still_stands old new input made.grown stands))

front_of : LoadWidth → (word : ℕ) → List Decision
front_of Lb word = Needs word ∷ []
front_of Lh word = Needs word ∷ Needs 0 ∷ []
front_of Lw word = Needs word ∷ Needs 0 ∷ []
front_of Lbu word = Needs word ∷ []
front_of Lhu word = Needs word ∷ Needs 0 ∷ []

page_stands_by : (s : Symbolic) (width : LoadWidth) (word : ℕ) (decision : List ℕ → ℕ)
    → ((input : List ℕ) → stands_for s input ≡ true → step_decisions (concrete s input) ≡ Needs word ∷ decisions_on width (decision input))
    → StandsAt s (page_place width) (λ input. Needs (decision input))
unfolding front_of
page_stands_by s Lb word decision is = record { front = front_of Lb word; back = λ input. []; before = refl; is = is }
page_stands_by s Lh word decision is = record { front = front_of Lh word; back = λ input. []; before = refl; is = is }
page_stands_by s Lw word decision is = record { front = front_of Lw word; back = λ input. []; before = refl; is = is }
page_stands_by s Lbu word decision is = record { front = front_of Lbu word; back = λ input. []; before = refl; is = is }
page_stands_by s Lhu word decision is = record { front = front_of Lhu word; back = λ input. []; before = refl; is = is }

shift_page : (n : ℕ) → combined Srl n 8 ≡ n / 256
unfolding shifted_right
shift_page n = refl

pub page_made : (old new : Symbolic) (term : ℕ) (v : Value) → MakesValue old new v (λ input. combined Srl (number_of old.terms term input) 8)
    → MakesValue old new v (λ input. number_of old.terms term input / 256)
page_made old new term v made = record {
  grown = made.grown;
  gives = record {
    continues = made.gives.continues;
    wide = made.gives.wide;
    worth = λ input bytes. made.gives.worth input bytes ∙ shift_page (number_of old.terms term input);
  };
}

pub page_stands : (old new : Symbolic) (width : LoadWidth) (term : ℕ) (v : Value)
    → DecidesLoad old width term → IsAligned old width term
    → MakesValue old new v (λ input. number_of old.terms term input / 256)
    → StandsAt new (page_place width) (λ input. Needs (worth_of new.terms input v))
page_stands old new width term v decides fits made =
    page_stands_by new width decides.word (λ input. worth_of new.terms input v)
    (λ input stands.
    let before = stood old new input made.grown stands in
    ap step_decisions (concrete-grown old new input made.grown) ∙ decides.is input before
    ∙ ap (λ ds. Needs decides.word ∷ ds) (aligned width (number_of old.terms term input) (fits input before))
    ∙ ap (λ p. Needs decides.word ∷ decisions_on width p) (sym (made.gives.worth input (stands-bytes old input before))))

-- it is a page, whatever is known where there is no assignment
pub on_this_page : (old new : Symbolic) (page : ℕ) (width : LoadWidth) (term : ℕ) (v : Value) → DecidesLoad old width term
    → MakesValue old new v (λ input. number_of old.terms term input / 256)
    → ((input : List ℕ) → stands_for new input ≡ true → worth_of new.terms input v ≡ page) → IsOnPage old term (page % 2 ^ 24)
on_this_page old new page width term v decides made known = λ input stands.
    let here = sym (made.gives.worth input (stands-bytes old input stands)) ∙ known input (still_stands old new input made.grown stands) in
    let below = decides.small input stands in
    omega (arith, below, here)

-- ---- A value that was loaded.
pub place_by : (width : LoadWidth) (page a : ℕ) → a / 256 ≡ page → is_load_aligned width a ≡ true → is_place width page a ≡ true
place_by width page a on fits = let same : (a / 256 == page) ≡ true = grind (arith, nat_tests, on) in ap (λ t. t && is_load_aligned width a) same ∙ fits

pub loaded_worth : (old new : Symbolic) (width : LoadWidth) (page term : ℕ) (v : Value) → IsAligned old width term → IsOnPage old term page
    → MakesLoaded old new width page term v → (input : List ℕ) → stands_for old input ≡ true
    → worth_of new.terms input v ≡ machine.loaded width (concrete old input).byte (number_of old.terms term input)
loaded_worth old new width page term v fits on made input stands =
    made.worth input (stands-bytes old input stands)
    (place_by width page (number_of old.terms term input) (on input stands) (fits input stands))

-- ---- After terms were made.
pub carries-made : (old mid new : Symbolic) (step : Step) (of : State → ℕ) (width : LoadWidth) (rd : ℕ) (d e : Expression) → IsGrown old mid → d ≡ e
    → CarriesLoad of mid new step width rd d → CarriesLoad of old new step width rd e
carries-made old mid new step of width rd d e grown same carries = record {
  comes = Comes-made old mid new step (λ c. machine.load c width rd (of c)) grown carries.comes;
  alike = AreAlike-grown old mid (λ c. load_decisions width (of c)) grown carries.alike;
  terms = λ input stands.
      carries.terms input (still_stands old mid input grown stands)
      ∙ ap (λ u. load_by u width rd d (load_decisions width (of (concrete mid input)))) (unfolded-grown old mid grown)
      ∙ ap (λ c. load_by (unfolded old) width rd d (load_decisions width (of c))) (concrete-grown old mid input grown)
      ∙ ap (λ f. load_by (unfolded old) width rd f (load_decisions width (of (concrete old input)))) same;
}

-- ---- From the sum of a register and an offset.
pub carries_load : (old mid new : Symbolic) (step : Step) (width : LoadWidth) (rd rs1 offset : ℕ) (e : Expression) → IsGrown old mid
    → e ≡ combined_of Add (expression_at (unfolded old).registers rs1) (ANumber offset)
    → CarriesLoad (λ c. sum32 (x c rs1) offset) mid new step width rd e
    → Carries old new step (Load width rd rs1 offset)
carries_load old mid new step width rd rs1 offset e grown is carries = record {
  comes = Comes-made old mid new step (λ c. machine.execute c (Load width rd rs1 offset)) grown carries.comes;
  alike = AreAlike-grown old mid (λ c. instr_decisions c (Some (Load width rd rs1 offset))) grown carries.alike;
  terms = λ input stands.
      carries.terms input (still_stands old mid input grown stands)
      ∙ ap (λ u. load_by u width rd e (load_decisions width (address rs1 offset (concrete mid input)))) (unfolded-grown old mid grown)
      ∙ ap (λ f. load_by (unfolded old) width rd f (load_decisions width (address rs1 offset (concrete mid input)))) is
      ∙ ap (λ c. load_by (unfolded old) width rd (combined_of Add (expression_at (unfolded old).registers rs1) (ANumber offset))
      (load_decisions width (address rs1 offset c))) (concrete-grown old mid input grown);
}

pub carries_if : {E : Type 0} (old mid new : Symbolic) (r : Result Step E) (width : LoadWidth) (rd rs1 offset : ℕ) (e : Expression) → IsGrown old mid
    → e ≡ combined_of Add (expression_at (unfolded old).registers rs1) (ANumber offset)
    → IfOk r (λ step. CarriesLoad (λ c. sum32 (x c rs1) offset) mid new step width rd e)
    → IfOk r (λ step. Carries old new step (Load width rd rs1 offset))
carries_if old mid new (Err halt) width rd rs1 offset e grown is carries = tt
carries_if old mid new (Ok step) width rd rs1 offset e grown is carries = carries_load old mid new step width rd rs1 offset e grown is carries
