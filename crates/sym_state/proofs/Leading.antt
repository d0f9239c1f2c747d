-- Bytes that are chosen by the bits of an address.
use Rattle.std.proofs.Common.{◌≡◌, ℕ, zero, suc, ◌+◌, ◌-◌, ◌*◌, ◌/◌, ◌%◌, ◌^◌, ◌<◌, ◌≤◌, Bool, true, false, List, [], ◌∷◌, ◌++◌, length, map, refl, sym, ap, subst, ◌∙◌, arith}
use Rattle.std.specs.Prelude.{◌==◌, All, IfSome, IfOk, OnOk, Result, Ok, Err, Option, Some, None, if◌then◌else◌}
use Rattle.std.specs.Option.{option_map}
use Rattle.std.proofs.Math.Nat.{add-mul, div-div-eq-div-mul, mod-eq_of_lt, mod-lt, mod-one, mul_assoc, mul_comm, two-pow-succ, zero-mul}
use Rattle.std.proofs.lemmas.Bool.Decides.{nat_tests}
use Rattle.std.proofs.lemmas.Nat.{mod-pow-add, pow-add, pow_pos}
use Rattle.std.proofs.lemmas.List.{append-nil, append_assoc, length-map}
use Rattle.std.proofs.lemmas.List.Elements.{All-append, All-cons, All-head, All-nil, All-tail}
use Rattle.bv_dag.specs.Graphs.{Graph, number_of, width_of}
use Rattle.cow_pages.specs.SymbolicMemory.{SymbolicMemory, memory_byte}
use Rattle.cow_pages.specs.declared.byte.Byte.{Byte}
use Rattle.rv_decode.specs.declared.ops.LoadWidth.{LoadWidth}
use Rattle.rv_decode.specs.declared.ops.LoadWidth.TheVariants.{Lb, Lh, Lw, Lbu, Lhu}
use Rattle.rv_spec.specs.Arithmetic.{sum32}
use Rattle.rv_spec.specs.Machine.{is_load_aligned}
use Rattle.term_trees.specs.Growth.{Continues}
use Rattle.term_trees.specs.Trees.{tree_of}
use Rattle.sym_state.specs.Expressions.{Expression, bit_expression, bit_in, byte_expression}
use Rattle.sym_state.specs.Loading.{bits_of, byte_behind, chosen, is_place, selected, zero_bits}
use Rattle.sym_state.specs.Placing.{HasBytes, bytes_expressed, bytes_worth}
use Rattle.sym_state.specs.Selecting.{AreBitsOf, IsEither, PushesBits, Selects, number_bits, reached}
use Rattle.sym_state.specs.Values.{GivesBit, IsBit, IsByte, bit_worth, byte_worth}
use Rattle.sym_state.specs.declared.selecting.Place.{Place}
use Rattle.sym_state.specs.declared.value.Bit.{Bit}
use Rattle.sym_state.specs.declared.value.Bit.TheVariants.{Term}
use Rattle.sym_state.proofs.Expressing.{bit_expression-grown, byte_expression-grown, bytes_expressed-grown, tree-kept}
use Rattle.sym_state.proofs.Growing.{Continues-trans, IsBit-grown, IsByte-grown, bit_worth-grown, byte_worth-grown, number-grown}
use Rattle.sym_state.proofs.Grown.{Continues-refl}

-- ---- More terms change neither bits nor bytes.
pub bits-grown : (g h : Graph) (bits : List Bit) → Continues g h → AreBitsOf g bits → AreBitsOf h bits
bits-grown g h [] grown are = All-nil (IsBit h)
bits-grown g h (b ∷ bits) grown are =
    All-cons (IsBit h) b bits (IsBit-grown g h b grown (All-head (IsBit g) b bits are))
    (bits-grown g h bits grown (All-tail (IsBit g) b bits are))

pub reached-grown : (g h : Graph) (input : List ℕ) (scale : ℕ) (bits : List Bit) (start : ℕ) → Continues g h → AreBitsOf g bits
    → reached h input scale bits start ≡ reached g input scale bits start
reached-grown g h input scale [] start grown are = refl
reached-grown g h input scale (b ∷ bits) start grown are =
    reached-grown g h input scale bits
    (if bit_worth h input b then sum32 start (2 ^ (scale + length bits)) else start) grown (All-tail (IsBit g) b bits are)
    ∙ ap (λ t. reached g input scale bits (if t then sum32 start (2 ^ (scale + length bits)) else start))
    (bit_worth-grown g h input b grown (All-head (IsBit g) b bits are))

pub expressions-grown : (g h : Graph) (bits : List Bit) → Continues g h → AreBitsOf g bits
    → map (bit_expression h) bits ≡ map (bit_expression g) bits
expressions-grown g h [] grown are = refl
expressions-grown g h (b ∷ bits) grown are =
    cc (
      bit_expression-grown g h b grown (All-head (IsBit g) b bits are),
      expressions-grown g h bits grown (All-tail (IsBit g) b bits are),
    )

pub found-grown : (g h : Graph) (found : Option Byte) → Continues g h → IfSome found (IsByte g)
    → option_map (byte_expression h) found ≡ option_map (byte_expression g) found
found-grown g h (Some b) grown is = ap Some (byte_expression-grown g h b grown is)
found-grown g h None grown is = refl

pub found-is : (g h : Graph) (found : Option Byte) → Continues g h → IfSome found (IsByte g) → IfSome found (IsByte h)
found-is g h (Some b) grown is = IsByte-grown g h b grown is
found-is g h None grown is = tt

-- ---- Where a bit is a term.
found_here : (g h k m : Graph) (input : List ℕ) (one found : Option Byte) (n : ℕ) → Continues h k → IfSome one (IsByte h)
    → option_map (byte_worth h input) one ≡ Some n
    → IfSome one (λ b. option_map (byte_worth m input) found ≡ Some (byte_worth k input b))
    → option_map (byte_worth m input) found ≡ Some n
found_here g h k m input (Some b) found n grown is worth chosen =
    chosen ∙ ap Some (byte_worth-grown h k input b grown is) ∙ worth
found_here g h k m input None found n grown is worth chosen = cc worth

module _ (g h k m : Graph) (memory : SymbolicMemory) (place : Place) (by bit : ℕ) (bits : List Bit) (start : ℕ)
    (first second found : Option Byte)
    (are : AreBitsOf g (Term bit ∷ bits)) (has : HasBytes g memory)
    (further : Selects g h memory place by bits (sum32 start (2 ^ (place.scale + length bits))) first)
    (nearer : Selects h k memory place by bits start second)
    (either : IsEither k m bit first second found) where
  is_bit : IsBit g (Term bit)
  is_bit = All-head (IsBit g) (Term bit) bits are

  rest : AreBitsOf g bits
  rest = All-tail (IsBit g) (Term bit) bits are

  both : Continues g k
  both = Continues-trans further.continues nearer.continues

  same_bit : (input : List ℕ) → number_of k bit input ≡ number_of g bit input
  same_bit input = number-grown g k bit 1 input both is_bit.width (omega arith)

  nearer_byte : (input : List ℕ) → bytes_worth h memory input (reached h input place.scale bits start + by)
      ≡ bytes_worth g memory input (reached g input place.scale bits start + by)
  nearer_byte input =
      let at = reached g input place.scale bits start + by in
      ap (λ n. bytes_worth h memory input (n + by)) (reached-grown g h input place.scale bits start further.continues rest)
      ∙ byte_worth-grown g h input (memory_byte memory at) further.continues (has at)

  worth_by : (input : List ℕ) → All (λ b. b < 256) input → (one : Bool) → (number_of g bit input == 1) ≡ one
      → is_place place.width place.page (reached g input place.scale bits (if one then sum32 start (2 ^ (place.scale + length bits)) else start)) ≡ true
      → option_map (byte_worth m input) found
      ≡ Some (bytes_worth g memory input (reached g input place.scale bits (if one then sum32 start (2 ^ (place.scale + length bits)) else start) + by))
  worth_by input small true is here =
      found_here g h k m input first found _ nearer.continues further.is_byte
      (further.worth input small here)
      (either.further input small (same_bit input ∙ grind (arith, nat_tests, is)))
  worth_by input small false is here =
      found_here g k k m input second found _ (Continues-refl k) nearer.is_byte
      (nearer.worth input small
      (ap (is_place place.width place.page) (reached-grown g h input place.scale bits start further.continues rest) ∙ here)
      ∙ ap Some (nearer_byte input))
      (either.nearer input small (ap (λ n. n == 1) (same_bit input) ∙ is))

  tree : tree_of k bit ≡ tree_of g bit
  tree = tree-kept g k bit 1 both is_bit.width (omega arith)

  further_is : option_map (byte_expression k) first
      ≡ selected place.scale (byte_behind (bytes_expressed g memory) place.width place.page by) (map (bit_expression g) bits)
      (sum32 start (2 ^ (place.scale + length (map (bit_expression g) bits))))
  further_is =
      found-grown h k first nearer.continues further.is_byte ∙ further.expression
      ∙ ap (λ n. selected place.scale (byte_behind (bytes_expressed g memory) place.width place.page by) (map (bit_expression g) bits)
      (sum32 start (2 ^ (place.scale + n)))) (sym (length-map bits (bit_expression g)))

  nearer_is : option_map (byte_expression k) second
      ≡ selected place.scale (byte_behind (bytes_expressed g memory) place.width place.page by) (map (bit_expression g) bits) start
  nearer_is =
      nearer.expression
      ∙ ap (λ (e : ℕ → Expression). selected place.scale (byte_behind e place.width place.page by) (map (bit_expression h) bits) start)
      (bytes_expressed-grown g h memory further.continues has)
      ∙ ap (λ es. selected place.scale (byte_behind (bytes_expressed g memory) place.width place.page by) es start)
      (expressions-grown g h bits further.continues rest)

  pub selects_one : Selects g m memory place by (Term bit ∷ bits) start found
  selects_one = record {
    continues = Continues-trans both either.continues;
    is_byte = either.is_byte;
    worth = λ input small here. worth_by input small (number_of g bit input == 1) refl here;
    expression = either.expression ∙ cc (tree, further_is, nearer_is);
  }

pub selects_either : {E : Type 0} (g h k m : Graph) (r : Result (Option Byte) E) (memory : SymbolicMemory) (place : Place) (by bit : ℕ) (bits : List Bit) (start : ℕ)
    (first second : Option Byte) → AreBitsOf g (Term bit ∷ bits) → HasBytes g memory
    → Selects g h memory place by bits (sum32 start (2 ^ (place.scale + length bits))) first
    → Selects h k memory place by bits start second
    → IfOk r (IsEither k m bit first second)
    → IfOk r (Selects g m memory place by (Term bit ∷ bits) start)
selects_either g h k m (Err e) memory place by bit bits start first second are has further nearer either = tt
selects_either g h k m (Ok found) memory place by bit bits start first second are has further nearer either =
    selects_one g h k m memory place by bit bits start first second found are has further nearer either

-- ---- Where the bits of a number lead.
abbrev pub reached_by : (scale : ℕ) → List Bool → (start : ℕ) → ℕ
reached_by scale [] start = start
reached_by scale (b ∷ bits) start =
    reached_by scale bits (if b then sum32 start (2 ^ (scale + length bits)) else start)

reached-worth : (g : Graph) (input : List ℕ) (scale : ℕ) (bits : List Bit) (start : ℕ)
    → reached g input scale bits start ≡ reached_by scale (map (bit_worth g input) bits) start
reached-worth g input scale [] start = refl
reached-worth g input scale (b ∷ bits) start =
    reached-worth g input scale bits (if bit_worth g input b then sum32 start (2 ^ (scale + length bits)) else start)
    ∙ ap (λ n. reached_by scale (map (bit_worth g input) bits) (if bit_worth g input b then sum32 start (2 ^ (scale + n)) else start))
    (sym (length-map bits (bit_worth g input)))

length-bits : (first k n : ℕ) → length (number_bits first k n) ≡ k
length-bits first zero n = refl
length-bits first (suc k) n = ap suc (length-bits first k n)

-- one bit more: it leads on by its distance, and then the others lead from there
reached_further : (scale k start low n : ℕ) (bits : List Bool) (b : Bool) → n < 2 → (n == 1) ≡ b → length bits ≡ k
    → start + (2 ^ (scale + k) + 2 ^ (scale + k)) ≤ 2 ^ 32
    → ((from : ℕ) → from + 2 ^ (scale + k) ≤ 2 ^ 32 → reached_by scale bits from ≡ from + low)
    → reached_by scale bits (if b then sum32 start (2 ^ (scale + length bits)) else start) ≡ start + n * 2 ^ (scale + k) + low
reached_further scale k start low n bits true small is many room rest =
    let one : n ≡ 1 = grind (arith, nat_tests, is) in
    let some : 0 < 2 ^ (scale + k) = pow_pos (scale + k) in
    ap (λ m. reached_by scale bits (sum32 start (2 ^ (scale + m)))) many
    ∙ ap (reached_by scale bits) (mod-eq_of_lt (omega (arith, room, some)))
    ∙ rest (start + 2 ^ (scale + k)) (omega (arith, room))
    ∙ (let once : n * 2 ^ (scale + k) ≡ 2 ^ (scale + k) = ap (λ m. m * 2 ^ (scale + k)) one ∙ omega arith in omega (arith, once))
reached_further scale k start low n bits false small is many room rest =
    let none : n ≡ 0 = grind (arith, nat_tests, is, small) in
    rest start (omega (arith, room))
    ∙ (let nothing : n * 2 ^ (scale + k) ≡ 0 = ap (λ m. m * 2 ^ (scale + k)) none ∙ zero-mul (2 ^ (scale + k)) in omega (arith, nothing))

-- the parts of a number below 2 ^ (k + 1)
upper_and_lower : (scale k x : ℕ) → x / 2 ^ k % 2 * 2 ^ (scale + k) + x % 2 ^ k * 2 ^ scale ≡ x % 2 ^ suc k * 2 ^ scale
upper_and_lower scale k x =
    let split : x % 2 ^ suc k ≡ x / 2 ^ k % 2 * 2 ^ k + x % 2 ^ k =
    ap (λ m. x % 2 ^ m) (let next : suc k ≡ 1 + k = omega arith in next) ∙ mod-pow-add x 1 k in
    let apart : 2 ^ (scale + k) ≡ 2 ^ k * 2 ^ scale = pow-add 2 scale k ∙ mul_comm (2 ^ scale) (2 ^ k) in
    ap (λ m. x / 2 ^ k % 2 * m + x % 2 ^ k * 2 ^ scale) apart
    ∙ ap (λ m. m + x % 2 ^ k * 2 ^ scale) (sym (mul_assoc (x / 2 ^ k % 2) (2 ^ k) (2 ^ scale)))
    ∙ sym (add-mul (x / 2 ^ k % 2 * 2 ^ k) (x % 2 ^ k) (2 ^ scale))
    ∙ ap (λ m. m * 2 ^ scale) (sym split)

-- a number's bits lead as far as they are worth
pub reached_number : (scale first k n start : ℕ) → start + 2 ^ (scale + k) ≤ 2 ^ 32
    → reached_by scale (number_bits first k n) start ≡ start + n / 2 ^ first % 2 ^ k * 2 ^ scale
reached_number scale first zero n start room =
    let none : n / 2 ^ first % 2 ^ 0 * 2 ^ scale ≡ 0 = ap (λ m. m * 2 ^ scale) (mod-one (n / 2 ^ first)) ∙ zero-mul (2 ^ scale) in omega (arith, none)
reached_number scale first (suc k) n start room =
    let twice : 2 ^ (scale + suc k) ≡ 2 ^ (scale + k) + 2 ^ (scale + k) =
    ap (λ m. 2 ^ m) (let next : scale + suc k ≡ suc (scale + k) = omega arith in next) ∙ two-pow-succ (scale + k) in
    let above : n / 2 ^ (first + k) ≡ n / 2 ^ first / 2 ^ k =
    ap (λ m. n / m) (pow-add 2 first k) ∙ sym (div-div-eq-div-mul n (2 ^ first) (2 ^ k)) in
    reached_further scale k start (n / 2 ^ first % 2 ^ k * 2 ^ scale) (n / 2 ^ (first + k) % 2) (number_bits first k n)
    (n / 2 ^ (first + k) % 2 == 1) (mod-lt (n / 2 ^ (first + k)) (omega arith)) refl (length-bits first k n)
    (omega (arith, room, twice)) (λ from fits. reached_number scale first k n from fits)
    ∙ ap (λ m. start + m % 2 * 2 ^ (scale + k) + n / 2 ^ first % 2 ^ k * 2 ^ scale) above
    ∙ (let both = upper_and_lower scale k (n / 2 ^ first) in omega (arith, both))

-- an address that a load may take something from, by its page and the bits above those that are 0
pub address_is : (width : LoadWidth) (page a : ℕ) → (a / 256 == page) ≡ true → is_load_aligned width a ≡ true
    → 256 * page + a / 2 ^ zero_bits width % 2 ^ (8 - zero_bits width) * 2 ^ zero_bits width ≡ a
address_is Lb page a on aligned = let here : a / 256 ≡ page = grind (arith, nat_tests, on) in omega (arith, here)
address_is Lbu page a on aligned = let here : a / 256 ≡ page = grind (arith, nat_tests, on) in omega (arith, here)
address_is Lh page a on aligned =
    let here : a / 256 ≡ page = grind (arith, nat_tests, on) in
    let even : a % 2 ≡ 0 = grind (arith, nat_tests, aligned) in omega (arith, here, even)
address_is Lhu page a on aligned =
    let here : a / 256 ≡ page = grind (arith, nat_tests, on) in
    let even : a % 2 ≡ 0 = grind (arith, nat_tests, aligned) in omega (arith, here, even)
address_is Lw page a on aligned =
    let here : a / 256 ≡ page = grind (arith, nat_tests, on) in
    let fourth : a % 4 ≡ 0 = grind (arith, nat_tests, aligned) in omega (arith, here, fourth)

pub eight : (width : LoadWidth) → zero_bits width + (8 - zero_bits width) ≡ 8
eight Lb = refl
eight Lh = refl
eight Lw = refl
eight Lbu = refl
eight Lhu = refl

-- bits of a term lead as far as they are worth
pub led_to : (h : Graph) (input : List ℕ) (bits : List Bit) (scale first count n start a : ℕ)
    → map (bit_worth h input) bits ≡ number_bits first count n → start + 2 ^ (scale + count) ≤ 2 ^ 32
    → start + n / 2 ^ first % 2 ^ count * 2 ^ scale ≡ a → reached h input scale bits start ≡ a
led_to h input bits scale first count n start a are room leads =
    reached-worth h input scale bits start
    ∙ ap (λ bs. reached_by scale bs start) are
    ∙ reached_number scale first count n start room
    ∙ leads

-- ---- Bits of a term, the highest first.
pub pushed_bits : (g h : Graph) (bits : List Bit) (bit : Bit) → Continues g h → AreBitsOf g bits → IsBit h bit
    → AreBitsOf h (bits ++ bit ∷ [])
pushed_bits g h bits bit grown are is =
    All-append (IsBit h) bits (bit ∷ []) (bits-grown g h bits grown are) (All-cons (IsBit h) bit [] is (All-nil (IsBit h)))

pub pushes_none : (g : Graph) (before : List Bit) (term first : ℕ) → PushesBits g g before before term first 0
pushes_none g before term first = record {
  made = [];
  behind = sym (append-nil before);
  are_bits = All-nil (IsBit g);
  number = refl;
  worth = λ input small. refl;
  expression = refl;
}

-- a bit was put behind others, and then so many more
push_one : (g h k : Graph) (before after : List Bit) (bit : Bit) (term first n : ℕ) → first + suc n ≤ width_of g term
    → GivesBit g h bit (λ input. number_of g term input / 2 ^ (first + n) % 2 == 1)
    → bit_expression h bit ≡ bit_in (first + n) (tree_of g term) → Continues h k
    → PushesBits h k (before ++ bit ∷ []) after term first n → PushesBits g k before after term first (suc n)
push_one g h k before after bit term first n within gives expressed grown more =
    let there : 0 < width_of g term = omega (arith, within) in
    record {
      made = bit ∷ more.made;
      behind = more.behind ∙ append_assoc before (bit ∷ []) more.made;
      are_bits = All-cons (IsBit k) bit more.made (IsBit-grown h k bit grown gives.is_bit) more.are_bits;
      number = ap suc more.number;
      worth = λ input small. cc (
        bit_worth-grown h k input bit grown gives.is_bit ∙ gives.worth input small,
        more.worth input small
            ∙ ap (number_bits first n) (number-grown g h term (width_of g term) input gives.continues refl there),
      );
      expression = cc (
        bit_expression-grown h k bit grown gives.is_bit ∙ expressed,
        more.expression ∙ ap (bits_of first n) (tree-kept g h term (width_of g term) gives.continues refl there),
      );
    }

pub pushes_more : {E : Type 0} (g h k : Graph) (r : Result (Unit {0}) E) (before after : List Bit) (bit : Bit) (term first count : ℕ) → (count ≡ 0 → ⊥)
    → first + count ≤ width_of g term
    → GivesBit g h bit (λ input. number_of g term input / 2 ^ (first + (count - 1)) % 2 == 1)
    → bit_expression h bit ≡ bit_in (first + (count - 1)) (tree_of g term)
    → Continues h k
    → OnOk r (PushesBits h k (before ++ bit ∷ []) after term first (count - 1))
    → OnOk r (PushesBits g k before after term first count)
pushes_more g h k (Err e) before after bit term first count some within gives expressed grown more = tt
pushes_more g h k (Ok u) before after bit term first count some within gives expressed grown more =
    let next : suc (count - 1) ≡ count = omega (arith, some) in
    subst (PushesBits g k before after term first) next
    (push_one g h k before after bit term first (count - 1) (omega (arith, some, within)) gives expressed grown more)
