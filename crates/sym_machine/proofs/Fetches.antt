-- What comes next on all assignments alike.
use Rattle.std.proofs.Common.{◌≡◌, ℕ, ◌%◌, true, false, List, [], ◌∷◌, refl, sym, ap, ◌∙◌, rules}
use Rattle.std.specs.Prelude.{◌==◌, Option, None, Some, Err, IfSome}
use Rattle.std.specs.Option.{ok_or}
use Rattle.cow_pages.specs.SymbolicMemory.{IsWordAt, memory_byte, memory_flags}
use Rattle.rv_decode.specs.Instructions.{instr, ShiftsBelow32}
use Rattle.rv_decode.specs.declared.ends.Trap.TheVariants.{Illegal, FetchAccess, FetchMisaligned}
use Rattle.rv_decode.specs.declared.instr.Instr.{Instr}
use Rattle.fork_spec.specs.Decisions.{Number as Needs, instr_decisions, step_decisions}
use Rattle.rv_spec.specs.Machine.{State, fetch}
use Rattle.rv_spec.specs.Memory.{can_execute, word_at}
use Rattle.sym_state.specs.Moves.{IsGrown}
use Rattle.sym_state.specs.Symbolic.{Symbolic, concrete, stands_for}
use Rattle.sym_state.specs.Values.{byte_worth, worth_of}
use Rattle.sym_state.specs.declared.value.Value.{Value}
use Rattle.sym_state.specs.Unfolded.{Unfolded}
use Rattle.sym_state.specs.Unfolding.{execute_word, next_unfolded}
use Rattle.sym_state.proofs.Grown.{concrete-grown, stood}
use Rattle.sym_machine.specs.Fetching.{DecidesOnce, IsFetched, unfolded_by}
use Rattle.sym_state.specs.Undecided.{StandsAt}

pub zero_true : (n : ℕ) → n ≡ 0 → (n == 0) ≡ true
zero_true n is = rw is refl

pub zero_false : (n : ℕ) → (n ≡ 0 → ⊥) → (n == 0) ≡ false
zero_false n other = search (rules, other)

-- ---- What the terms become.
nothing_next : (u : Unfolded) → next_unfolded u [] ≡ u
unfolding next_unfolded
nothing_next u = refl

word_next : (u : Unfolded) (c : State) (w : ℕ) (i : Option Instr) → instr w ≡ i
    → next_unfolded u (Needs w ∷ instr_decisions c (instr w)) ≡ unfolded_by u c (ok_or i Illegal)
unfolding next_unfolded
word_next u c w None is = ap (λ j. execute_word u j (instr_decisions c j)) is
word_next u c w (Some k) is = ap (λ j. execute_word u j (instr_decisions c j)) is

-- ---- Nothing is fetched from an address that is no multiple of 4, nor from a page without X.
misaligned : (c : State) → (c.pc % 4 == 0) ≡ false → fetch c.flags c.byte c.pc ≡ Err FetchMisaligned
unfolding fetch
misaligned c other = rw other refl

misaligned-decides : (c : State) → (c.pc % 4 == 0) ≡ false → step_decisions c ≡ []
unfolding step_decisions
misaligned-decides c other = rw other refl

pub fetch_misaligned : (s : Symbolic) → (s.pc % 4 ≡ 0 → ⊥) → IsFetched s (Err FetchMisaligned)
fetch_misaligned s other = record {
  is = λ input stands. misaligned (concrete s input) (zero_false (s.pc % 4) other);
  decides = record { made = []; alike = λ input stands. misaligned-decides (concrete s input) (zero_false (s.pc % 4) other) };
  terms = λ input stands u. ap (next_unfolded u) (misaligned-decides (concrete s input) (zero_false (s.pc % 4) other)) ∙ nothing_next u;
}

refused : (c : State) → (c.pc % 4 == 0) ≡ true → can_execute c.flags c.pc ≡ false → fetch c.flags c.byte c.pc ≡ Err FetchAccess
unfolding fetch
refused c aligned cannot = rw (aligned, cannot) refl

refused-decides : (c : State) → (c.pc % 4 == 0) ≡ true → can_execute c.flags c.pc ≡ false → step_decisions c ≡ []
unfolding step_decisions
refused-decides c aligned cannot = rw (aligned, cannot) refl

pub fetch_refused : (s : Symbolic) → s.pc % 4 ≡ 0 → can_execute (memory_flags s.memory) s.pc ≡ false
    → IsFetched s (Err FetchAccess)
fetch_refused s aligned cannot = record {
  is = λ input stands. refused (concrete s input) (zero_true (s.pc % 4) aligned) cannot;
  decides = record { made = []; alike = λ input stands. refused-decides (concrete s input) (zero_true (s.pc % 4) aligned) cannot };
  terms = λ input stands u. ap (next_unfolded u) (refused-decides (concrete s input) (zero_true (s.pc % 4) aligned) cannot) ∙ nothing_next u;
}

-- ---- Else the word is.
fetched : (c : State) (w : ℕ) → (c.pc % 4 == 0) ≡ true → can_execute c.flags c.pc ≡ true → word_at c.byte c.pc ≡ w
    → fetch c.flags c.byte c.pc ≡ ok_or (instr w) Illegal
unfolding fetch
fetched c w aligned can word = rw (aligned, can, word) refl

word_decides : (c : State) → (c.pc % 4 == 0) ≡ true → can_execute c.flags c.pc ≡ true
    → step_decisions c ≡ Needs (word_at c.byte c.pc) ∷ instr_decisions c (instr (word_at c.byte c.pc))
unfolding step_decisions
word_decides c aligned can = rw (aligned, can) refl

-- the word stands first among the decisions
pub word_first : (old new : Symbolic) (v : Value) → IsGrown old new → old.pc % 4 ≡ 0
    → can_execute (memory_flags old.memory) old.pc ≡ true
    → ((input : List ℕ) → stands_for old input ≡ true → worth_of new.terms input v ≡ word_at (concrete old input).byte old.pc)
    → StandsAt new 0 (λ input. Needs (worth_of new.terms input v))
word_first old new v grown aligned can worth = record {
  front = [];
  back = λ input. instr_decisions (concrete old input) (instr (word_at (concrete old input).byte old.pc));
  before = refl;
  is = λ input stands.
      let stood_for = stood old new input grown stands in
      ap step_decisions (concrete-grown old new input grown)
      ∙ word_decides (concrete old input) (zero_true (old.pc % 4) aligned) can
      ∙ ap (λ w. Needs w ∷ instr_decisions (concrete old input) (instr (word_at (concrete old input).byte old.pc))) (sym (worth input stood_for));
}

-- what is decided where a word is known
known_decides : (c : State) (w : ℕ) → (c.pc % 4 == 0) ≡ true → can_execute c.flags c.pc ≡ true → word_at c.byte c.pc ≡ w
    → step_decisions c ≡ Needs w ∷ instr_decisions c (instr w)
known_decides c w aligned can word = word_decides c aligned can ∙ ap (λ n. Needs n ∷ instr_decisions c (instr n)) word

decides_once : (s : Symbolic) (w : ℕ) (i : Option Instr) → instr w ≡ i → IfSome i ShiftsBelow32
    → ((input : List ℕ) → stands_for s input ≡ true → step_decisions (concrete s input) ≡ Needs w ∷ instr_decisions (concrete s input) (instr w))
    → DecidesOnce s (ok_or i Illegal)
decides_once s w None is shifts decides = record {
  made = Needs w ∷ [];
  alike = λ input stands. decides input stands ∙ ap (λ i. Needs w ∷ instr_decisions (concrete s input) i) is;
}
decides_once s w (Some i) is shifts decides = (
  record {
    word = w;
    is = λ input stands. decides input stands ∙ ap (λ j. Needs w ∷ instr_decisions (concrete s input) j) is;
  },
  shifts,
)

pub fetch_word : (s : Symbolic) (w : ℕ) (i : Option Instr) → s.pc % 4 ≡ 0 → can_execute (memory_flags s.memory) s.pc ≡ true
    → ((input : List ℕ) → stands_for s input ≡ true → word_at (concrete s input).byte s.pc ≡ w)
    → i ≡ instr w → IfSome i ShiftsBelow32 → IsFetched s (ok_or i Illegal)
fetch_word s w i aligned can word is shifts = record {
  is = λ input stands.
      fetched (concrete s input) w (zero_true (s.pc % 4) aligned) can (word input stands)
      ∙ ap (λ j. ok_or j Illegal) (sym is);
  decides = decides_once s w i (sym is) shifts (λ input stands.
      known_decides (concrete s input) w (zero_true (s.pc % 4) aligned) can (word input stands));
  terms = λ input stands u.
      ap (next_unfolded u) (known_decides (concrete s input) w (zero_true (s.pc % 4) aligned) can (word input stands))
      ∙ word_next u (concrete s input) w i (sym is);
}

-- a word of bare numbers is the same on all assignments
pub code_word : (s : Symbolic) (w : ℕ) (input : List ℕ) → IsWordAt (memory_byte s.memory) s.pc w → word_at (concrete s input).byte s.pc ≡ w
code_word s w input at =
    let b0 = ap (byte_worth s.terms input) at.is0 in
    let b1 = ap (byte_worth s.terms input) at.is1 in
    let b2 = ap (byte_worth s.terms input) at.is2 in
    let b3 = ap (byte_worth s.terms input) at.is3 in
    cc (b0, b1, b2, b3) ∙ sym at.is
