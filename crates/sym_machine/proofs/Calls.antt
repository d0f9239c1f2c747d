-- Environment calls of symbolic runs.
use Rattle.std.proofs.Common.{◌≡◌, ℕ, ◌+◌, ◌%◌, ◌^◌, ◌<◌, ◌≤◌, ◌≢◌, true, false, ◌||◌, List, [], ◌∷◌, ◌++◌, map, refl, sym, ap, subst, ◌∙◌, arith}
use Rattle.std.specs.Prelude.{◌==◌, min, if◌then◌else◌, Result, Ok, Err, IfOk, IfErr}
use Rattle.std.specs.List.{list_all}
use Rattle.std.proofs.Math.Nat.{min-le_right}
use Rattle.std.proofs.lemmas.Bool.Decides.{nat_tests}
use Rattle.std.proofs.lemmas.List.{length-append, length-map, map-append}
use Rattle.cow_pages.specs.SymbolicMemory.{memory_byte, memory_flags}
use Rattle.cow_pages.specs.declared.byte.Byte.{Byte}
use Rattle.rv_decode.specs.declared.ends.End.TheVariants.{Exit}
use Rattle.rv_decode.specs.declared.ends.Trap.TheVariants.{Call, LoadAccess}
use Rattle.rv_decode.specs.declared.instr.Instr.TheVariants.{Ecall}
use Rattle.rv_machine.proofs.Addresses.{bytes_none, bytes-more, length-addresses}
use Rattle.rv_spec.specs.Arithmetic.{sum32}
use Rattle.fork_spec.specs.Decisions.{Number as Needs, call_decisions, write_decisions}
use Rattle.rv_spec.specs.Machine.{State, addresses, trapped, write, x}
use Rattle.rv_spec.specs.Machine as machine
use Rattle.rv_spec.specs.Memory.{is_mapped}
use Rattle.sym_state.specs.Moves.{IsGrown}
use Rattle.sym_state.specs.Symbolic.{Symbolic, IsFormed, concrete, set_value, stands_for, value_at}
use Rattle.sym_state.specs.Values.{byte_worth, worth_of}
use Rattle.sym_state.specs.declared.value.Value.TheVariants.{Number}
use Rattle.sym_state.specs.Unfolded.{unfolded}
use Rattle.sym_state.specs.Unfolding as symbolic
use Rattle.sym_state.proofs.Grown.{Continues-refl}
use Rattle.sym_machine.specs.Calls.{WritesOutput}
use Rattle.sym_machine.specs.Steps.{Carries, Comes}
use Rattle.sym_machine.specs.Stops.{DecidesBy, Stops, StopsAt}
use Rattle.sym_state.specs.Undecided.{StandsAt}
use Rattle.sym_machine.specs.declared.halt.Halt.{Halt}
use Rattle.sym_machine.specs.declared.halt.Halt.TheVariants.{Side as SideHalt, Number as NumberHalt, NoMemory}
use Rattle.sym_state.specs.declared.ended.RunEnd.TheVariants.{Exits, Traps}
use Rattle.sym_machine.specs.declared.outcome.Step.{Step}
use Rattle.sym_machine.specs.declared.outcome.Step.TheVariants.{Running, Ended}
use Rattle.sym_machine.proofs.Standing.{Keeps-refl, map-map, registers-set, x-worth}

-- ---- Bytes behind the output.
pub none_written : (s : Symbolic) (start : ℕ) → WritesOutput s s start 0
none_written s start = record {
  is = ap (λ os. record s { output = os }) (bytes_none (memory_byte s.memory) start s.output);
}

pub more_written : (s t : Symbolic) (start count : ℕ) (b : Byte) → start < 2 ^ 32 → WritesOutput s t start count
    → b ≡ memory_byte t.memory ((start + count) % 2 ^ 32)
    → WritesOutput s (record t { output = t.output ++ b ∷ [] }) start (count + 1)
more_written s t start count b small was read =
    let output = ap (λ (r : Symbolic). r.output) was.is in
    let memory = ap (λ (r : Symbolic). r.memory) was.is in
    record {
      is =
          ap (λ (r : Symbolic). record r { output = t.output ++ b ∷ [] }) was.is
          ∙ ap (λ os. record s { output = os })
          (bytes-more (memory_byte s.memory) start count b s.output t.output small output
          (read ∙ ap (λ m. memory_byte m ((start + count) % 2 ^ 32)) memory));
    }

-- ---- A write.
refused : (c : State) (start asked : ℕ) → list_all (is_mapped c.flags) (addresses start (min asked 4096)) ≡ false
    → write c 1 start asked ≡ trapped LoadAccess c
unfolding write
refused c start asked other = rw other refl

pub write_refused : (s : Symbolic) (start asked : ℕ)
    → list_all (is_mapped (memory_flags s.memory)) (addresses start (min asked 4096)) ≡ false
    → Comes s s (Ended (Traps LoadAccess)) (λ c. write c 1 start asked)
write_refused s start asked other = record {
  keeps = Keeps-refl s;
  is = λ input stands. refused (concrete s input) start asked other;
}

done : (c : State) (start asked : ℕ) → list_all (is_mapped c.flags) (addresses start (min asked 4096)) ≡ true
    → write c 1 start asked
    ≡ machine.Running (record c { pc = sum32 c.pc 4; registers = machine.written c.registers 10 (min asked 4096); output = c.output ++ map c.byte (addresses start (min asked 4096)) })
unfolding write
done c start asked all = rw all refl

-- the run after a write, on an assignment
abbrev after_write : Symbolic → (start count : ℕ) → Symbolic
after_write s start count = record s {
  pc = sum32 s.pc 4;
  registers = set_value s.registers 10 (Number count);
  output = s.output ++ map (memory_byte s.memory) (addresses start count);
}

written_on : (s : Symbolic) (input : List ℕ) (start count : ℕ) →
    record (concrete s input) {
      pc = sum32 s.pc 4;
      registers = machine.written (concrete s input).registers 10 count;
      output = (concrete s input).output ++ map (concrete s input).byte (addresses start count);
    } ≡ concrete (after_write s start count) input
written_on s input start count =
    ap (λ rs. record (concrete s input) {
      pc = sum32 s.pc 4;
      registers = rs;
      output = (concrete s input).output ++ map (concrete s input).byte (addresses start count);
    }) (sym (registers-set (worth_of s.terms input) s.registers 10 (Number count)))
    ∙ ap (λ os. record (concrete (after_write s start count) input) { output = os })
    (ap (λ bs. map (byte_worth s.terms input) s.output ++ bs) (sym (map-map (byte_worth s.terms input) (memory_byte s.memory) (addresses start count)))
    ∙ sym (map-append (byte_worth s.terms input) s.output (map (memory_byte s.memory) (addresses start count))))

pub write_done : (s t : Symbolic) (start asked count : ℕ) → count ≡ min asked 4096
    → list_all (is_mapped (memory_flags s.memory)) (addresses start count) ≡ true → WritesOutput s t start count
    → Comes s (record t { pc = sum32 t.pc 4; registers = set_value t.registers 10 (Number count) }) Running (λ c. write c 1 start asked)
write_done s t start asked count is all written =
    let same : record t { pc = sum32 t.pc 4; registers = set_value t.registers 10 (Number count) } ≡ after_write s start count =
    ap (λ (r : Symbolic). record r { pc = sum32 r.pc 4; registers = set_value r.registers 10 (Number count) }) written.is in
    subst (λ r. Comes s r Running (λ c. write c 1 start asked)) (sym same) (record {
      keeps = record {
        continues = Continues-refl s.terms;
        condition = refl;
        choices = refl;
        steps = refl;
        known = refl;
        sample = refl;
        few =
            let longer = length-append s.output (map (memory_byte s.memory) (addresses start count)) in
            let some = length-map (addresses start count) (memory_byte s.memory) ∙ length-addresses start count in
            let few : count ≤ 4096 = subst (λ n. n ≤ 4096) (sym is) (min-le_right asked 4096) in
            omega (arith, longer, some, few);
      };
      is = λ input stands.
          done (concrete s input) start asked (ap (λ n. list_all (is_mapped (memory_flags s.memory)) (addresses start n)) (sym is) ∙ all)
          ∙ ap (λ n. machine.Running (record (concrete s input) { pc = sum32 s.pc 4; registers = machine.written (concrete s input).registers 10 n; output = (concrete s input).output ++ map (concrete s input).byte (addresses start n) })) (sym is)
          ∙ ap machine.Running (written_on s input start count);
    })

-- ---- What a call needs, one after the other.
pub needs-worth : (s : Symbolic) (place r : ℕ) → StandsAt s place (λ input. Needs (x (concrete s input) r))
    → StandsAt s place (λ input. Needs (worth_of s.terms input (value_at s.registers r)))
needs-worth s place r at = record {
  front = at.front;
  back = at.back;
  before = at.before;
  is = λ input stands. at.is input stands ∙ ap (λ n. at.front ++ Needs n ∷ at.back input) (x-worth s input r);
}

pub number_first : (s : Symbolic) → DecidesBy s Ecall → StandsAt s 1 (λ input. Needs (x (concrete s input) 17))
number_first s decides = record {
  front = Needs decides.word ∷ [];
  back = λ input. if x (concrete s input) 17 == 64 then write_decisions (concrete s input) else [];
  before = refl;
  is = decides.is;
}

-- a run that stops where it is has not changed
pub grown-refl : (s : Symbolic) → IsFormed s → IsGrown s s
grown-refl s formed = record { before = formed; same = refl; continues = Continues-refl s.terms; formed = formed }

stops_here : (s : Symbolic) (halt : Halt) → IsFormed s → StopsAt s halt → Stops s s halt
stops_here s (SideHalt term) formed at = (grown-refl s formed, at)
stops_here s (NumberHalt place term) formed at = (grown-refl s formed, at)
stops_here s NoMemory formed at = tt

pub stops_if : {A : Type 0} (s : Symbolic) (r : Result A Halt) → IsFormed s → IfErr r (StopsAt s) → IfErr r (Stops s s)
stops_if s (Ok a) formed at = tt
stops_if s (Err halt) formed at = stops_here s halt formed at

pub known_number : {E : Type 0} (s : Symbolic) (r : ℕ) (result : Result ℕ E)
    → IfOk result (λ n. (input : List ℕ) → stands_for s input ≡ true → worth_of s.terms input (value_at s.registers r) ≡ n)
    → IfOk result (λ n. (input : List ℕ) → stands_for s input ≡ true → x (concrete s input) r ≡ n)
known_number s r (Err e) known = tt
known_number s r (Ok n) known = λ input stands. x-worth s input r ∙ known input stands

-- a register is this number on all assignments
abbrev pub IsKnown : Symbolic → ℕ → ℕ → Type 0
IsKnown s r n = (input : List ℕ) → stands_for s input ≡ true → x (concrete s input) r ≡ n

of_write : (f start count : ℕ) → (if f == 1 || f == 2 then Needs f ∷ Needs start ∷ Needs count ∷ [] else Needs f ∷ [])
    ≡ Needs f ∷ (if f == 1 || f == 2 then Needs start ∷ Needs count ∷ [] else [])
of_write f start count =
    elim (f == 1 || f == 2) as (λ b. (if b then Needs f ∷ Needs start ∷ Needs count ∷ [] else Needs f ∷ []) ≡ Needs f ∷ (if b then Needs start ∷ Needs count ∷ [] else []))
    [ true ↦ refl | false ↦ refl ]

calls : (c : State) (n : ℕ) → x c 17 ≡ n → call_decisions c ≡ Needs n ∷ (if n == 64 then write_decisions c else [])
calls c n is = ap (λ k. Needs k ∷ (if k == 64 then write_decisions c else [])) is

-- of a write
calls_write : (c : State) → x c 17 ≡ 64 →
    call_decisions c ≡ Needs 64 ∷ Needs (x c 10) ∷ (if x c 10 == 1 || x c 10 == 2 then Needs (x c 11) ∷ Needs (x c 12) ∷ [] else [])
calls_write c is = calls c 64 is ∙ ap (λ ds. Needs 64 ∷ ds) (of_write (x c 10) (x c 11) (x c 12))

-- to a file that is there
calls_file : (c : State) (f : ℕ) → x c 17 ≡ 64 → x c 10 ≡ f → (f == 1 || f == 2) ≡ true →
    call_decisions c ≡ Needs 64 ∷ Needs f ∷ Needs (x c 11) ∷ Needs (x c 12) ∷ []
calls_file c f is file there =
    calls_write c is
    ∙ ap (λ n. Needs 64 ∷ Needs n ∷ (if n == 1 || n == 2 then Needs (x c 11) ∷ Needs (x c 12) ∷ [] else [])) file
    ∙ ap (λ b. Needs 64 ∷ Needs f ∷ (if b then Needs (x c 11) ∷ Needs (x c 12) ∷ [] else [])) there

module _ (s : Symbolic) (decides : DecidesBy s Ecall) where
  pub file_next : IsKnown s 17 64 → StandsAt s 2 (λ input. Needs (x (concrete s input) 10))
  file_next number = record {
    front = Needs decides.word ∷ Needs 64 ∷ [];
    back = λ input. if x (concrete s input) 10 == 1 || x (concrete s input) 10 == 2 then Needs (x (concrete s input) 11) ∷ Needs (x (concrete s input) 12) ∷ [] else [];
    before = refl;
    is = λ input stands.
        decides.is input stands ∙ ap (λ ds. Needs decides.word ∷ ds) (calls_write (concrete s input) (number input stands));
  }

  pub start_next : (f : ℕ) → IsKnown s 17 64 → IsKnown s 10 f → (f == 1 || f == 2) ≡ true
      → StandsAt s 3 (λ input. Needs (x (concrete s input) 11))
  start_next f number file there = record {
    front = Needs decides.word ∷ Needs 64 ∷ Needs f ∷ [];
    back = λ input. Needs (x (concrete s input) 12) ∷ [];
    before = refl;
    is = λ input stands.
        decides.is input stands
        ∙ ap (λ ds. Needs decides.word ∷ ds) (calls_file (concrete s input) f (number input stands) (file input stands) there);
  }

  pub count_next : (f start : ℕ) → IsKnown s 17 64 → IsKnown s 10 f → (f == 1 || f == 2) ≡ true → IsKnown s 11 start
      → StandsAt s 4 (λ input. Needs (x (concrete s input) 12))
  count_next f start number file there at = record {
    front = Needs decides.word ∷ Needs 64 ∷ Needs f ∷ Needs start ∷ [];
    back = λ input. [];
    before = refl;
    is = λ input stands.
        decides.is input stands
        ∙ ap (λ ds. Needs decides.word ∷ ds) (calls_file (concrete s input) f (number input stands) (file input stands) there)
        ∙ ap (λ n. Needs decides.word ∷ Needs 64 ∷ Needs f ∷ Needs n ∷ Needs (x (concrete s input) 12) ∷ []) (at input stands);
  }

-- ---- How a call ends.
pub exits : (s : Symbolic) → IsKnown s 17 93 → Carries s s (Ended Exits) Ecall
exits s number = record {
  comes = record {
    keeps = Keeps-refl s;
    is = λ input stands.
        ap (machine.call (concrete s input)) (number input stands)
        ∙ ap (λ n. machine.Ended (Exit (n % 256)) (concrete s input)) (x-worth s input 10);
  };
  alike = record { made = Needs 93 ∷ []; alike = λ input stands. calls (concrete s input) 93 (number input stands) };
  terms = λ input stands. sym (ap (symbolic.call (unfolded s)) (calls (concrete s input) 93 (number input stands)));
}

no_call : (c : State) (n : ℕ) → n ≢ 93 → n ≢ 64 → machine.call c n ≡ trapped Call c
no_call c n other another =
    let first : (n == 93) ≡ false = grind (arith, nat_tests, other) in
    let second : (n == 64) ≡ false = grind (arith, nat_tests, another) in
    rw (first, second) refl

no_call_decides : (c : State) (n : ℕ) → x c 17 ≡ n → n ≢ 64 → call_decisions c ≡ Needs n ∷ []
no_call_decides c n is another =
    let second : (n == 64) ≡ false = grind (arith, nat_tests, another) in
    calls c n is ∙ ap (λ b. Needs n ∷ (if b then write_decisions c else [])) second

pub no_such_call : (s : Symbolic) (n : ℕ) → IsKnown s 17 n → n ≢ 93 → n ≢ 64 → Carries s s (Ended (Traps Call)) Ecall
no_such_call s n number other another = record {
  comes = record {
    keeps = Keeps-refl s;
    is = λ input stands. ap (machine.call (concrete s input)) (number input stands) ∙ no_call (concrete s input) n other another;
  };
  alike = record {
    made = Needs n ∷ [];
    alike = λ input stands. no_call_decides (concrete s input) n (number input stands) another;
  };
  terms = λ input stands. sym (ap (symbolic.call (unfolded s)) (no_call_decides (concrete s input) n (number input stands) another));
}

not_written : (c : State) (f start count : ℕ) → (f == 1 || f == 2) ≡ false → write c f start count ≡ trapped Call c
unfolding write
not_written c f start count other = rw other refl

no_file_decides : (c : State) (f : ℕ) → x c 17 ≡ 64 → x c 10 ≡ f → (f == 1 || f == 2) ≡ false → call_decisions c ≡ Needs 64 ∷ Needs f ∷ []
no_file_decides c f is file other =
    calls_write c is
    ∙ ap (λ n. Needs 64 ∷ Needs n ∷ (if n == 1 || n == 2 then Needs (x c 11) ∷ Needs (x c 12) ∷ [] else [])) file
    ∙ ap (λ b. Needs 64 ∷ Needs f ∷ (if b then Needs (x c 11) ∷ Needs (x c 12) ∷ [] else [])) other

pub no_file : (s : Symbolic) (f : ℕ) → IsKnown s 17 64 → IsKnown s 10 f → (f == 1 || f == 2) ≡ false
    → Carries s s (Ended (Traps Call)) Ecall
no_file s f number file other = record {
  comes = record {
    keeps = Keeps-refl s;
    is = λ input stands.
        ap (machine.call (concrete s input)) (number input stands)
        ∙ ap (λ n. write (concrete s input) n (x (concrete s input) 11) (x (concrete s input) 12)) (file input stands)
        ∙ not_written (concrete s input) f (x (concrete s input) 11) (x (concrete s input) 12) other;
  };
  alike = record {
    made = Needs 64 ∷ Needs f ∷ [];
    alike = λ input stands. no_file_decides (concrete s input) f (number input stands) (file input stands) other;
  };
  terms = λ input stands. sym (ap (symbolic.call (unfolded s)) (no_file_decides (concrete s input) f (number input stands) (file input stands) other));
}

-- both files are one
either_file : (c : State) (f start count : ℕ) → (f == 1 || f == 2) ≡ true → write c f start count ≡ write c 1 start count
unfolding write
either_file c f start count there = rw there refl

-- all that a write decides
write_decides : (c : State) (f start count : ℕ) → x c 17 ≡ 64 → x c 10 ≡ f → (f == 1 || f == 2) ≡ true → x c 11 ≡ start → x c 12 ≡ count
    → call_decisions c ≡ Needs 64 ∷ Needs f ∷ Needs start ∷ Needs count ∷ []
write_decides c f start count is file there at many = calls_file c f is file there ∙ cc (at, many)

pub writes : (s t : Symbolic) (step : Step) (f start count : ℕ) → IsKnown s 17 64 → IsKnown s 10 f → (f == 1 || f == 2) ≡ true
    → IsKnown s 11 start → IsKnown s 12 count → Comes s t step (λ c. write c 1 start count)
    → unfolded t ≡ symbolic.write (unfolded s) start (min count 4096) → Carries s t step Ecall
writes s t step f start count number file there at many comes terms = record {
  comes = record {
    keeps = comes.keeps;
    is = λ input stands.
        ap (machine.call (concrete s input)) (number input stands)
        ∙ ap (λ n. write (concrete s input) n (x (concrete s input) 11) (x (concrete s input) 12)) (file input stands)
        ∙ either_file (concrete s input) f (x (concrete s input) 11) (x (concrete s input) 12) there
        ∙ cc (at input stands, many input stands)
        ∙ comes.is input stands;
  };
  alike = record {
    made = Needs 64 ∷ Needs f ∷ Needs start ∷ Needs count ∷ [];
    alike = λ input stands. write_decides (concrete s input) f start count (number input stands) (file input stands) there (at input stands) (many input stands);
  };
  terms = λ input stands.
      terms ∙ sym (ap (symbolic.call (unfolded s))
      (write_decides (concrete s input) f start count (number input stands) (file input stands) there (at input stands) (many input stands)));
}
