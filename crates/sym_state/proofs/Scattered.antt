-- Memory whose bytes on a page are stored one after the other, where a way comes to them.
use Rattle.std.proofs.Common.{◌≡◌, ◌≢◌, ℕ, ◌+◌, ◌*◌, ◌/◌, ◌%◌, ◌^◌, ◌<◌, ◌&&◌, Bool, true, false, List, [], ◌∷◌, ◌++◌, length, refl, sym, ap, subst, ◌∙◌, arith}
use Rattle.std.specs.Prelude.{◌==◌, All, Result, IfOk, if◌then◌else◌, nat_le, nat_lt}
use Rattle.std.proofs.Math.Path.{fun_ext}
use Rattle.std.proofs.Math.Nat.{mod-lt}
use Rattle.std.proofs.lemmas.Bool.Decides.{nat_tests}
use Rattle.std.proofs.lemmas.List.{get_or_append_left, get_or_push, length-append}
use Rattle.std.proofs.lemmas.Result.{IfOk-weaker}
use Rattle.bv_dag.specs.Graphs.{Graph, width_of}
use Rattle.cow_pages.specs.SymbolicMemory.{SymbolicMemory, memory_byte, memory_flags}
use Rattle.cow_pages.specs.declared.byte.Byte.{Byte}
use Rattle.cow_pages.specs.declared.byte.Byte.TheVariants.{Number as ByteNumber}
use Rattle.rv_decode.specs.declared.ops.LoadWidth.{LoadWidth}
use Rattle.rv_decode.specs.declared.ops.LoadWidth.TheVariants.{Lb, Lh, Lw, Lbu, Lhu}
use Rattle.term_trees.specs.Growth.{Continues}
use Rattle.sym_state.specs.Expressions.{Expression, bit_expression, byte_expression, register_byte, value_expression}
use Rattle.sym_state.specs.Loading.{bytes}
use Rattle.sym_state.specs.Placing.{HasBytes, bytes_expressed, bytes_worth}
use Rattle.sym_state.specs.Scattering.{AreBytesFor, AreWayBits, MakesBytes, Scatters, come_to, expressed_after, listed_byte, worth_after}
use Rattle.sym_state.specs.Selecting.{as_way}
use Rattle.sym_state.specs.Storing.{byte_where, comes_to, replaced, way_bits}
use Rattle.sym_state.specs.Values.{GivesBit, GivesByte, IsByte, IsWide, bit_worth, byte_worth, worth_of}
use Rattle.sym_state.specs.declared.value.Bit.{Bit}
use Rattle.sym_state.specs.declared.value.Value.{Value}
use Rattle.sym_state.specs.declared.ways.Way.{Way}
use Rattle.sym_state.proofs.Expressing.{byte_expression-grown, expression-grown, tree-kept}
use Rattle.sym_state.proofs.Growing.{Continues-trans, IsByte-grown, byte_worth-grown, number-grown, width-kept, worth-grown}
use Rattle.sym_state.proofs.Grown.{Continues-refl}

-- ---- The bytes of a value.
pub makes_none : (g : Graph) (v : Value) (made : List Byte) → length made ≡ 0 → MakesBytes g g v 0 made
makes_none g v made none = record {
  continues = Continues-refl g;
  many = none;
  are_bytes = λ at below. absurd (omega (arith, below));
  worth = λ at below. absurd (omega (arith, below));
  expression = λ at below. absurd (omega (arith, below));
}

-- one more behind them
module _ (g h k : Graph) (v : Value) (count : ℕ) (made : List Byte) (byte : Byte) (wide : IsWide g v)
    (makes : MakesBytes g h v count made) (gives : GivesByte h k byte (λ input. worth_of h input v / 2 ^ (8 * count) % 2 ^ 8))
    (is : byte_expression k byte ≡ register_byte count (value_expression h v)) where
  now : List Byte
  now = made ++ byte ∷ []

  earlier : (at : ℕ) → at < count → listed_byte (made ++ byte ∷ []) at ≡ listed_byte made at
  earlier at below = let many = makes.many in get_or_append_left made (byte ∷ []) (ByteNumber 0) at (omega (arith, below, many))

  last : (at : ℕ) → (at == count) ≡ true → listed_byte (made ++ byte ∷ []) at ≡ byte
  last at here = get_or_push made byte (ByteNumber 0) at (let same : at ≡ count = grind (arith, nat_tests, here) in makes.many ∙ sym same)

  before_it : (at : ℕ) → at < count + 1 → (at == count) ≡ false → at < count
  before_it at below other = grind (arith, nat_tests, below, other)

  byte_is : (at : ℕ) (t : Bool) → (at == count) ≡ t → at < count + 1 → IsByte k (listed_byte (made ++ byte ∷ []) at)
  byte_is at true here below = subst (IsByte k) (sym (last at here)) gives.is_byte
  byte_is at false other below =
      let sooner = before_it at below other in
      subst (IsByte k) (sym (earlier at sooner)) (IsByte-grown h k (listed_byte made at) gives.continues (makes.are_bytes at sooner))

  worth_is : (at : ℕ) (t : Bool) → (at == count) ≡ t → at < count + 1 → (input : List ℕ) → All (λ b. b < 256) input
      → byte_worth k input (listed_byte (made ++ byte ∷ []) at) ≡ worth_of g input v / 2 ^ (8 * at) % 2 ^ 8
  worth_is at true here below input small =
      let same : count ≡ at = grind (arith, nat_tests, here) in
      ap (byte_worth k input) (last at here) ∙ gives.worth input small
      ∙ ap (λ n. worth_of h input v / 2 ^ (8 * n) % 2 ^ 8) same
      ∙ ap (λ n. n / 2 ^ (8 * at) % 2 ^ 8) (worth-grown g h input v makes.continues wide)
  worth_is at false other below input small =
      let sooner = before_it at below other in
      ap (byte_worth k input) (earlier at sooner)
      ∙ byte_worth-grown h k input (listed_byte made at) gives.continues (makes.are_bytes at sooner)
      ∙ makes.worth at sooner input small

  expression_is : (at : ℕ) (t : Bool) → (at == count) ≡ t → at < count + 1
      → byte_expression k (listed_byte (made ++ byte ∷ []) at) ≡ register_byte at (value_expression g v)
  expression_is at true here below =
      let same : count ≡ at = grind (arith, nat_tests, here) in
      ap (byte_expression k) (last at here) ∙ is
      ∙ ap (λ n. register_byte n (value_expression h v)) same
      ∙ ap (register_byte at) (expression-grown g h v makes.continues wide)
  expression_is at false other below =
      let sooner = before_it at below other in
      ap (byte_expression k) (earlier at sooner)
      ∙ byte_expression-grown h k (listed_byte made at) gives.continues (makes.are_bytes at sooner)
      ∙ makes.expression at sooner

  pub makes_more : MakesBytes g k v (count + 1) (made ++ byte ∷ [])
  makes_more = record {
    continues = Continues-trans makes.continues gives.continues;
    many = length-append made (byte ∷ []) ∙ ap (λ n. n + 1) makes.many;
    are_bytes = λ at below. byte_is at (at == count) refl below;
    worth = λ at below. worth_is at (at == count) refl below;
    expression = λ at below. expression_is at (at == count) refl below;
  }

-- ---- More terms change neither a way nor the bytes.
pub as_way-grown : (g h : Graph) (way : Way) → Continues g h → 0 < width_of g way.term → as_way h way ≡ as_way g way
as_way-grown g h way grown there =
    ap (λ t. record { term = t; first = way.first; count = way.count; scale = way.scale; start = way.start })
    (tree-kept g h way.term (width_of g way.term) grown refl there)

pub come_to-grown : (g h : Graph) (way : Way) (input : List ℕ) → Continues g h → 0 < width_of g way.term
    → come_to h way input ≡ come_to g way input
come_to-grown g h way input grown there =
    ap (λ n. way.start + n / 2 ^ way.first % 2 ^ way.count * 2 ^ way.scale)
    (number-grown g h way.term (width_of g way.term) input grown refl there)

pub AreWayBits-grown : (g h : Graph) (way : Way) (bits : ℕ) → Continues g h → AreWayBits g way bits → AreWayBits h way bits
AreWayBits-grown g h way bits grown are = record {
  there = let same = width-kept g h way.term (width_of g way.term) grown refl are.there in let some = are.there in omega (arith, same, some);
  width = width-kept g h bits way.count grown are.width are.some;
  some = are.some;
  tree = tree-kept g h bits way.count grown are.width are.some ∙ are.tree ∙ ap way_bits (sym (as_way-grown g h way grown are.there));
  worth = λ input small.
      number-grown g h bits way.count input grown are.width are.some ∙ are.worth input small
      ∙ ap (λ n. n / 2 ^ way.first % 2 ^ way.count) (sym (number-grown g h way.term (width_of g way.term) input grown refl are.there));
}

pub AreBytesFor-grown : (g h : Graph) (width : LoadWidth) (stored : List Byte) → Continues g h → AreBytesFor g width stored
    → AreBytesFor h width stored
AreBytesFor-grown g h width stored grown for = record {
  many = for.many;
  are_bytes = λ at below. IsByte-grown g h (listed_byte stored at) grown (for.are_bytes at below);
}

some_bytes : (width : LoadWidth) → 0 < bytes width
some_bytes Lb = omega arith
some_bytes Lh = omega arith
some_bytes Lw = omega arith
some_bytes Lbu = omega arith
some_bytes Lhu = omega arith

pub place_small : (width : LoadWidth) (x : ℕ) → x % bytes width < bytes width
place_small width x = mod-lt x (some_bytes width)

-- ---- One byte.
module _ {E : Type 0} (g h k : Graph) (r : Result Byte E) (m : SymbolicMemory) (width : LoadWidth) (way : Way) (stored : List Byte) (address : ℕ) (bit : Bit) where
  pub gives_there : IsByte g (memory_byte m address) → AreBytesFor g width stored
      → GivesBit g h bit (λ input. address / bytes width * bytes width == come_to g way input)
      → IfOk r (λ byte. GivesByte h k byte (λ input. if bit_worth h input bit then byte_worth h input (listed_byte stored (address % bytes width)) else bytes_worth h m input address))
      → IfOk r (λ byte. GivesByte g k byte (λ input. worth_after g m width way stored input address))
  gives_there kept for test gives = IfOk-weaker r _ _ (λ byte given. record {
    continues = Continues-trans test.continues given.continues;
    is_byte = given.is_byte;
    worth = λ input small.
        given.worth input small
        ∙ ap (λ t. if t then byte_worth h input (listed_byte stored (address % bytes width)) else bytes_worth h m input address) (test.worth input small)
        ∙ cc (
          byte_worth-grown g h input (listed_byte stored (address % bytes width)) test.continues (for.are_bytes (address % bytes width) (place_small width address)),
          byte_worth-grown g h input (memory_byte m address) test.continues kept,
        );
  }) gives

  pub expressed_there : Continues g h → IsByte g (memory_byte m address) → AreBytesFor g width stored
      → bit_expression h bit ≡ comes_to (as_way g way) (address / bytes width * bytes width)
      → IfOk r (λ byte. byte_expression k byte ≡ byte_where (bit_expression h bit) (byte_expression h (listed_byte stored (address % bytes width))) (bytes_expressed h m address))
      → IfOk r (λ byte. byte_expression k byte ≡ expressed_after g m width way stored address)
  expressed_there grown kept for test is = IfOk-weaker r _ _ (λ byte same.
      same ∙ cc (
        test,
        byte_expression-grown g h (listed_byte stored (address % bytes width)) grown (for.are_bytes (address % bytes width) (place_small width address)),
        byte_expression-grown g h (memory_byte m address) grown kept,
      )) is

-- ---- Bytes from an address on that are replaced.
module _ {A : Type 0} (start : ℕ) (after before : ℕ → A) where
  pub replaced_none : (x : ℕ) → before x ≡ replaced start 0 after before x
  replaced_none x =
      let out : (nat_le start x && nat_lt x (start + 0)) ≡ false = grind (arith, nat_tests) in
      ap (λ t. if t then after x else before x) (sym out)

  pub replaced_here : (i x : ℕ) → (x == start + i) ≡ true → after x ≡ replaced start (i + 1) after before x
  replaced_here i x here =
      let at : x ≡ start + i = grind (arith, nat_tests, here) in
      let within : (nat_le start x && nat_lt x (start + (i + 1))) ≡ true = grind (arith, nat_tests, at) in
      ap (λ t. if t then after x else before x) (sym within)

  pub replaced_beside : (i x : ℕ) → (x == start + i) ≡ false → replaced start i after before x ≡ replaced start (i + 1) after before x
  replaced_beside i x beside =
      let apart : x ≢ start + i = grind (arith, nat_tests, beside) in
      let same : (nat_le start x && nat_lt x (start + i)) ≡ (nat_le start x && nat_lt x (start + (i + 1))) =
      grind (arith, nat_tests, apart) in
      ap (λ t. if t then after x else before x) same

  -- the next one isn't replaced yet
  pub replaced_next : (i : ℕ) → replaced start i after before (start + i) ≡ before (start + i)
  replaced_next i =
      let out : (nat_le start (start + i) && nat_lt (start + i) (start + i)) ≡ false = grind (arith, nat_tests) in
      ap (λ t. if t then after (start + i) else before (start + i)) out

-- ---- A page, byte by byte.
pub scatters_none : (g : Graph) (m : SymbolicMemory) (width : LoadWidth) (page : ℕ) (way : Way) (stored : List Byte)
    → HasBytes g m → Scatters g g m m width page way stored 0
scatters_none g m width page way stored has = record {
  continues = Continues-refl g;
  flags = refl;
  has_bytes = has;
  expressed = fun_ext (replaced_none (256 * page) (expressed_after g m width way stored) (bytes_expressed g m));
  worth = λ input small. fun_ext (replaced_none (256 * page) (worth_after g m width way stored input) (bytes_worth g m input));
}

-- what stands at an address after the store is the same with more terms, while the byte there stays
module _ (g t : Graph) (m n : SymbolicMemory) (width : LoadWidth) (way : Way) (stored : List Byte) (address : ℕ)
    (grown : Continues g t) (there : 0 < width_of g way.term) (for : AreBytesFor g width stored) where
  worth_after-grown : (input : List ℕ) → bytes_worth t n input address ≡ bytes_worth g m input address
      → worth_after t n width way stored input address ≡ worth_after g m width way stored input address
  worth_after-grown input same =
      ap (λ a. if address / bytes width * bytes width == a then byte_worth t input (listed_byte stored (address % bytes width)) else bytes_worth t n input address)
      (come_to-grown g t way input grown there)
      ∙ ap (λ b. if address / bytes width * bytes width == come_to g way input then b else bytes_worth t n input address)
      (byte_worth-grown g t input (listed_byte stored (address % bytes width)) grown (for.are_bytes (address % bytes width) (place_small width address)))
      ∙ ap (λ b. if address / bytes width * bytes width == come_to g way input then byte_worth g input (listed_byte stored (address % bytes width)) else b) same

  expressed_after-grown : bytes_expressed t n address ≡ bytes_expressed g m address
      → expressed_after t n width way stored address ≡ expressed_after g m width way stored address
  expressed_after-grown same =
      cc (
        as_way-grown g t way grown there,
        byte_expression-grown g t (listed_byte stored (address % bytes width)) grown (for.are_bytes (address % bytes width) (place_small width address)),
        same,
      )

module _ (g t u : Graph) (m n o : SymbolicMemory) (width : LoadWidth) (page : ℕ) (way : Way) (bits : ℕ) (stored : List Byte) (i : ℕ) (byte : Byte)
    (puts : Scatters g t m n width page way stored i) (are : AreWayBits g way bits) (for : AreBytesFor g width stored)
    (gives : GivesByte t u byte (λ input. worth_after t n width way stored input (256 * page + i)))
    (made : byte_expression u byte ≡ expressed_after t n width way stored (256 * page + i))
    (bytes_are : (x : ℕ) → memory_byte o x ≡ (if x == 256 * page + i then byte else memory_byte n x)) where
  still_byte : (x : ℕ) (here : Bool) → memory_byte o x ≡ (if here then byte else memory_byte n x) → IsByte u (memory_byte o x)
  still_byte x true is = subst (IsByte u) (sym is) gives.is_byte
  still_byte x false is = subst (IsByte u) (sym is) (IsByte-grown t u (memory_byte n x) gives.continues (puts.has_bytes x))

  here_worth : (input : List ℕ) → All (λ b. b < 256) input
      → worth_after t n width way stored input (256 * page + i) ≡ worth_after g m width way stored input (256 * page + i)
  here_worth input small =
      worth_after-grown g t m n width way stored (256 * page + i) puts.continues are.there for input
      (ap (λ (w : ℕ → ℕ). w (256 * page + i)) (puts.worth input small)
      ∙ replaced_next (256 * page) (worth_after g m width way stored input) (bytes_worth g m input) i)

  here_expressed : expressed_after t n width way stored (256 * page + i) ≡ expressed_after g m width way stored (256 * page + i)
  here_expressed =
      expressed_after-grown g t m n width way stored (256 * page + i) puts.continues are.there for
      (ap (λ (e : ℕ → Expression). e (256 * page + i)) puts.expressed
      ∙ replaced_next (256 * page) (expressed_after g m width way stored) (bytes_expressed g m) i)

  is_worth : (input : List ℕ) → All (λ b. b < 256) input → (x : ℕ) (here : Bool)
      → (x == 256 * page + i) ≡ here → memory_byte o x ≡ (if here then byte else memory_byte n x)
      → bytes_worth u o input x ≡ replaced (256 * page) (i + 1) (worth_after g m width way stored input) (bytes_worth g m input) x
  is_worth input small x true here is =
      let at : 256 * page + i ≡ x = grind (arith, nat_tests, here) in
      ap (byte_worth u input) is ∙ gives.worth input small ∙ here_worth input small
      ∙ ap (worth_after g m width way stored input) at
      ∙ replaced_here (256 * page) (worth_after g m width way stored input) (bytes_worth g m input) i x here
  is_worth input small x false here is =
      ap (byte_worth u input) is
      ∙ byte_worth-grown t u input (memory_byte n x) gives.continues (puts.has_bytes x)
      ∙ ap (λ (w : ℕ → ℕ). w x) (puts.worth input small)
      ∙ replaced_beside (256 * page) (worth_after g m width way stored input) (bytes_worth g m input) i x here

  is_expressed : (x : ℕ) (here : Bool) → (x == 256 * page + i) ≡ here → memory_byte o x ≡ (if here then byte else memory_byte n x)
      → bytes_expressed u o x ≡ replaced (256 * page) (i + 1) (expressed_after g m width way stored) (bytes_expressed g m) x
  is_expressed x true here is =
      let at : 256 * page + i ≡ x = grind (arith, nat_tests, here) in
      ap (byte_expression u) is ∙ made ∙ here_expressed
      ∙ ap (expressed_after g m width way stored) at
      ∙ replaced_here (256 * page) (expressed_after g m width way stored) (bytes_expressed g m) i x here
  is_expressed x false here is =
      ap (byte_expression u) is
      ∙ byte_expression-grown t u (memory_byte n x) gives.continues (puts.has_bytes x)
      ∙ ap (λ (e : ℕ → Expression). e x) puts.expressed
      ∙ replaced_beside (256 * page) (expressed_after g m width way stored) (bytes_expressed g m) i x here

  pub scatters_more : ((number : ℕ) → memory_flags o number ≡ memory_flags n number) → Scatters g u m o width page way stored (i + 1)
  scatters_more flags = record {
    continues = Continues-trans puts.continues gives.continues;
    flags = fun_ext flags ∙ puts.flags;
    has_bytes = λ x. still_byte x (x == 256 * page + i) (bytes_are x);
    expressed = fun_ext (λ x. is_expressed x (x == 256 * page + i) refl (bytes_are x));
    worth = λ input small. fun_ext (λ x. is_worth input small x (x == 256 * page + i) refl (bytes_are x));
  }
