-- Bytes that are put to memory.
use Rattle.std.proofs.Common.{◌≡◌, ℕ, ◌+◌, ◌*◌, ◌/◌, ◌%◌, ◌^◌, Bool, true, false, List, [], ◌∷◌, length, refl, sym, ap, subst, ◌∙◌, arith}
use Rattle.std.specs.Prelude.{◌==◌, Result, Ok, Err, OnOk, if◌then◌else◌}
use Rattle.std.proofs.Math.Path.{fun_ext}
use Rattle.bv_dag.specs.Graphs.{Graph}
use Rattle.cow_pages.specs.SymbolicMemory.{memory_byte, memory_flags}
use Rattle.cow_pages.specs.declared.byte.Byte.{Byte}
use Rattle.rv_decode.specs.declared.ops.StoreWidth.TheVariants.{Sh, Sw}
use Rattle.rv_spec.specs.Machine.{State, stored}
use Rattle.rv_spec.specs.Memory.{with_bytes}
use Rattle.term_trees.specs.Growth.{Continues}
use Rattle.sym_state.specs.Moves.{MakesByte, stored_at}
use Rattle.sym_state.specs.Symbolic.{Symbolic, IsFormed, concrete, stands_for}
use Rattle.sym_state.specs.Updates.{without}
use Rattle.sym_state.specs.Values.{IsWide, byte_worth, worth_of}
use Rattle.sym_state.specs.declared.value.Value.{Value}
use Rattle.sym_state.proofs.Growing.{Continues-trans, IsWide-grown, worth-grown}
use Rattle.sym_state.proofs.Grown.{concrete-grown, stands-with_terms}
use Rattle.sym_state.proofs.Opening.{stands-bytes}
use Rattle.sym_machine.specs.Steps.{Keeps, Puts}

-- a state with these bytes from an address on
abbrev pub with_put : State → ℕ → List ℕ → State
with_put c address bytes = record c { byte = with_bytes c.byte address bytes }

byte-if : (g : Graph) (input : List ℕ) (t : Bool) (a b : Byte)
    → byte_worth g input (if t then a else b)
    ≡ (if t then byte_worth g input a else byte_worth g input b)
byte-if g input true a b = refl
byte-if g input false a b = refl

-- one byte, which terms were made for
module _ (old mid new : Symbolic) (address : ℕ) (byte : Byte) (number : List ℕ → ℕ)
    (made : MakesByte old mid byte number)
    (there : new ≡ stored_at mid address byte)
    (bytes : (at : ℕ) → memory_byte new.memory at
    ≡ (if at == address then byte else memory_byte mid.memory at))
    (flags : (page : ℕ) → memory_flags new.memory page ≡ memory_flags mid.memory page) where
  there_now : new ≡ record mid { memory = new.memory; updates = new.updates }
  there_now =
      there
      ∙ ap (λ m. record mid { memory = m; updates = without address mid.updates })
      (sym (ap (λ (s : Symbolic). s.memory) there))
      ∙ ap (λ ts. record mid { memory = new.memory; updates = ts })
      (sym (ap (λ (s : Symbolic). s.updates) there))

  same : new ≡ record old { memory = new.memory; terms = new.terms; updates = new.updates }
  same =
      there_now
      ∙ ap (λ (s : Symbolic). record s { memory = new.memory; updates = new.updates }) made.grown.same
      ∙ ap (λ g. record old { memory = new.memory; terms = g; updates = new.updates })
      (sym (ap (λ (s : Symbolic). s.terms) there))

  concrete-put : (input : List ℕ)
      → concrete new input
      ≡ with_put (concrete mid input) address (byte_worth mid.terms input byte ∷ [])
  concrete-put input =
      ap (λ (s : Symbolic). concrete s input) there_now
      ∙ ap (λ f. record (concrete (record mid { memory = new.memory }) input) { flags = f })
      (fun_ext flags)
      ∙ ap (λ (f : ℕ → ℕ). record (concrete mid input) { byte = f })
      (fun_ext (λ at. ap (byte_worth mid.terms input) (bytes at)
      ∙ byte-if mid.terms input (at == address) byte (memory_byte mid.memory at)))

  pub puts_byte : IsFormed new → Puts old new address (λ input. number input ∷ [])
  puts_byte formed = record {
    before = made.grown.before;
    same = same;
    continues = subst (λ g. Continues old.terms g)
        (sym (ap (λ (s : Symbolic). s.terms) there)) made.grown.continues;
    formed = formed;
    flags = λ page. flags page ∙ ap (λ (s : Symbolic). memory_flags s.memory page) made.grown.same;
    is = λ input standing.
        concrete-put input
        ∙ ap (λ n. with_put (concrete mid input) address (n ∷ []))
        (made.gives.worth input (stands-bytes old input standing))
        ∙ ap (λ c. with_put c address (number input ∷ []))
        (concrete-grown old mid input made.grown);
  }

-- the run stands for the same assignments
puts_stands : (old new : Symbolic) (address : ℕ) (bytes : List ℕ → List ℕ) (input : List ℕ)
    → Puts old new address bytes
    → stands_for old input ≡ true → stands_for new input ≡ true
puts_stands old new address bytes input put standing =
    ap (λ (s : Symbolic). stands_for s input) put.same
    ∙ stands-with_terms old new.terms input put.before put.continues ∙ standing

-- a value stays one
pub puts_wide : (old new : Symbolic) (address : ℕ) (bytes : List ℕ → List ℕ) (v : Value)
    → Puts old new address bytes
    → IsWide old.terms v → IsWide new.terms v
puts_wide old new address bytes v put wide = IsWide-grown old.terms new.terms v put.continues wide

-- a byte of a value, and more behind it
pub puts_more : (old mid new : Symbolic) (address next : ℕ) (v : Value) (b : ℕ → ℕ)
    (bs : ℕ → List ℕ) → next ≡ address + 1
    → IsWide old.terms v → Puts old mid address (λ input. b (worth_of old.terms input v) ∷ [])
    → Puts mid new next (λ input. bs (worth_of mid.terms input v))
    → Puts old new address
    (λ input. b (worth_of old.terms input v) ∷ bs (worth_of old.terms input v))
puts_more old mid new address next v b bs is_next wide first second = record {
  before = first.before;
  same = second.same
      ∙ ap (λ (s : Symbolic). record s { memory = new.memory; terms = new.terms; updates = new.updates })
      first.same;
  continues = Continues-trans first.continues second.continues;
  formed = second.formed;
  flags = λ page. second.flags page ∙ first.flags page;
  is = λ input standing.
      second.is input
      (puts_stands old mid address (λ i. b (worth_of old.terms i v) ∷ []) input first standing)
      ∙ ap (λ n. with_put (concrete mid input) n (bs (worth_of mid.terms input v))) is_next
      ∙ ap (λ n. with_put (concrete mid input) (address + 1) (bs n))
      (worth-grown old.terms mid.terms input v first.continues wide)
      ∙ ap (λ c. with_put c (address + 1) (bs (worth_of old.terms input v)))
      (first.is input standing);
}

-- the lowest byte of a number
lowest : (n : ℕ) → n / 2 ^ (8 * 0) % 2 ^ 8 ≡ n % 2 ^ 8
lowest n = omega arith

-- the byte of a number that is so many bytes up
abbrev pub byte_up : ℕ → ℕ → ℕ
byte_up at n = n / 2 ^ (8 * at) % 2 ^ 8

abbrev PutsByte : Symbolic → Symbolic → (address at : ℕ) → Value → Type 0
PutsByte old new address at v = Puts old new address
    (λ input. byte_up at (worth_of old.terms input v) ∷ [])

puts_by : (old new : Symbolic) (address : ℕ) (v : Value) (bytes others : ℕ → List ℕ)
    → ((n : ℕ) → bytes n ≡ others n)
    → Puts old new address (λ input. bytes (worth_of old.terms input v))
    → Puts old new address (λ input. others (worth_of old.terms input v))
puts_by old new address v bytes others equal put = record {
  before = put.before;
  same = put.same;
  continues = put.continues;
  formed = put.formed;
  flags = put.flags;
  is = λ input standing.
      put.is input standing
      ∙ ap (with_put (concrete old input) address) (equal (worth_of old.terms input v));
}

pub puts_half : {E : Type 0} (s0 s1 s2 : Symbolic) (address : ℕ) (v : Value)
    (r : Result (Unit {0}) E) → IsWide s0.terms v
    → PutsByte s0 s1 address 0 v → OnOk r (PutsByte s1 s2 (address + 1) 1 v)
    → OnOk r (Puts s0 s2 address (λ input. stored Sh (worth_of s0.terms input v)))
puts_half s0 s1 s2 address v (Err e) wide first second = tt
puts_half s0 s1 s2 address v (Ok u) wide first second =
    puts_by s0 s2 address v (λ n. byte_up 0 n ∷ byte_up 1 n ∷ []) (stored Sh)
    (λ n. ap (λ b. b ∷ byte_up 1 n ∷ []) (lowest n))
    (puts_more s0 s1 s2 address (address + 1) v (byte_up 0)
    (λ n. byte_up 1 n ∷ []) refl wide first second)

pub puts_word : {E : Type 0} (s0 s1 s2 s3 s4 : Symbolic) (address : ℕ) (v : Value)
    (r : Result (Unit {0}) E) → IsWide s0.terms v
    → PutsByte s0 s1 address 0 v → PutsByte s1 s2 (address + 1) 1 v
    → PutsByte s2 s3 (address + 2) 2 v → OnOk r (PutsByte s3 s4 (address + 3) 3 v)
    → OnOk r (Puts s0 s4 address (λ input. stored Sw (worth_of s0.terms input v)))
puts_word s0 s1 s2 s3 s4 address v (Err e) wide first second third fourth = tt
puts_word s0 s1 s2 s3 s4 address v (Ok u) wide first second third fourth =
    let wide1 : IsWide s1.terms v = IsWide-grown s0.terms s1.terms v first.continues wide in
    let wide2 : IsWide s2.terms v = IsWide-grown s1.terms s2.terms v second.continues wide1 in
    puts_by s0 s4 address v (λ n. byte_up 0 n ∷ byte_up 1 n ∷ byte_up 2 n ∷ byte_up 3 n ∷ [])
    (stored Sw) (λ n. ap (λ b. b ∷ byte_up 1 n ∷ byte_up 2 n ∷ byte_up 3 n ∷ []) (lowest n))
    (puts_more s0 s1 s4 address (address + 1) v (byte_up 0)
    (λ n. byte_up 1 n ∷ byte_up 2 n ∷ byte_up 3 n ∷ []) refl wide first
    (puts_more s1 s2 s4 (address + 1) (address + 2) v (byte_up 1)
    (λ n. byte_up 2 n ∷ byte_up 3 n ∷ []) (omega arith) wide1 second
    (puts_more s2 s3 s4 (address + 2) (address + 3) v (byte_up 2) (λ n. byte_up 3 n ∷ [])
    (omega arith) wide2 third fourth)))

-- ---- What stays.
pub Keeps-put : (old new : Symbolic) (address : ℕ) (bytes : List ℕ → List ℕ)
    → Puts old new address bytes → Keeps old new
Keeps-put old new address bytes put = record {
  continues = put.continues;
  condition = ap (λ (s : Symbolic). s.condition) put.same;
  choices = ap (λ (s : Symbolic). s.choices) put.same;
  steps = ap (λ (s : Symbolic). s.steps) put.same;
  known = ap (λ (s : Symbolic). s.known) put.same;
  sample = ap (λ (s : Symbolic). s.sample) put.same;
  few = let same = ap (λ (s : Symbolic). length s.output) put.same in omega (arith, same);
}

pub Keeps-went : (old new : Symbolic) (pc : ℕ) → Keeps old new → Keeps old (record new { pc = pc })
Keeps-went old new pc kept = record {
  continues = kept.continues;
  condition = kept.condition;
  choices = kept.choices;
  steps = kept.steps;
  known = kept.known;
  sample = kept.sample;
  few = kept.few;
}
