-- A store to the address that a term is: what memory is afterwards, and what it is worth.
use Rattle.std.proofs.Common.{◌≡◌, ◌≢◌, ℕ, ◌+◌, ◌-◌, ◌*◌, ◌/◌, ◌%◌, ◌^◌, ◌<◌, ◌≤◌, ◌&&◌, Bool, true, false, List, refl, sym, ap, ◌∙◌, arith}
use Rattle.std.specs.Prelude.{◌==◌, All, Result, Ok, Err, IfOk, if◌then◌else◌, nat_le, nat_lt}
use Rattle.std.proofs.Math.Path.{fun_ext}
use Rattle.std.proofs.lemmas.Bool.{and_parts}
use Rattle.std.proofs.lemmas.Bool.Decides.{nat_tests}
use Rattle.bv_dag.specs.BitVectors.{BitVector, extract}
use Rattle.bv_dag.specs.Graphs.{Graph, number_of, val, width_of}
use Rattle.bv_dag.specs.declared.nodes.Node.TheVariants.{Extract}
use Rattle.cow_pages.specs.SymbolicMemory.{SymbolicMemory, memory_byte}
use Rattle.cow_pages.specs.declared.byte.Byte.{Byte}
use Rattle.fork_spec.specs.Decisions.{as_load}
use Rattle.rv_decode.specs.declared.ops.LoadWidth.{LoadWidth}
use Rattle.rv_decode.specs.declared.ops.StoreWidth.{StoreWidth}
use Rattle.rv_decode.specs.declared.ops.StoreWidth.TheVariants.{Sb, Sh, Sw}
use Rattle.rv_spec.specs.Machine as machine
use Rattle.rv_spec.specs.Memory.{with_bytes}
use Rattle.term_simplify.specs.Builds.{BuildsNode}
use Rattle.term_trees.specs.Growth.{Continues}
use Rattle.term_trees.specs.Trees.{tree_of}
use Rattle.sym_state.specs.Expressions.{Expression, Unknown, register_byte, value_expression}
use Rattle.sym_state.specs.Indexing.{index_of}
use Rattle.sym_state.specs.KeptUpdates.{AreUpdates, byte_with, update_expressed, updates_expressed}
use Rattle.sym_state.specs.Loading.{bytes, is_place, way_by}
use Rattle.sym_state.specs.Placing.{HasBytes, bytes_expressed, bytes_worth}
use Rattle.sym_state.specs.Scattering.{AreWayBits, MakesBytes, MakesStored, Scatters, come_to, expressed_after, listed_byte, worth_after}
use Rattle.sym_state.specs.Selecting.{IsWay, as_way}
use Rattle.sym_state.specs.Storing.{byte_after, replaced, way_bits}
use Rattle.sym_state.specs.Symbolic.{Symbolic, IsFormed}
use Rattle.sym_state.specs.Updates.{Update, site_of, updates_after, updates_along, updates_with}
use Rattle.sym_state.specs.Values.{IsWide, byte_worth, worth_of}
use Rattle.sym_state.specs.declared.updates.Site.{Site}
use Rattle.sym_state.specs.declared.updates.Update as code
use Rattle.sym_state.specs.declared.value.Value.{Value}
use Rattle.sym_state.specs.declared.ways.Way.{Way}
use Rattle.sym_state.proofs.Forms.{formed-put}
use Rattle.sym_state.proofs.Expressing.{bytes_expressed-grown, expression-grown, tree-kept}
use Rattle.sym_state.proofs.Growing.{Continues-trans, IsWide-grown, byte_worth-grown, memory-grown, number-grown, width-kept, worth-grown}
use Rattle.sym_state.proofs.Updating.{updates-grown, updates_expressed-grown}
use Rattle.sym_state.proofs.Noted.{updates_noted, updates_with-expressed}
use Rattle.sym_state.proofs.Scattered.{as_way-grown, come_to-grown, place_small}

-- ---- The bits of a way.
extract-number : (high low : ℕ) (x : BitVector) → (extract high low x).number ≡ x.number / 2 ^ low % 2 ^ (high - low + 1)
unfolding extract
extract-number high low x = refl

pub way_bits-made : {E : Type 0} (g h : Graph) (r : Result ℕ E) (way : Way) → 0 < way.count → way.first + way.count ≤ width_of g way.term
    → IfOk r (BuildsNode g h (Extract (way.first + way.count - 1) way.first way.term)) → IfOk r (AreWayBits h way)
way_bits-made g h (Err e) way some within built = tt
way_bits-made g h (Ok bits) way some within built =
    let there : 0 < width_of g way.term = omega (arith, some, within) in
    let many : way.first + way.count - 1 - way.first + 1 ≡ way.count = omega (arith, some) in
    record {
      there = let same = width-kept g h way.term (width_of g way.term) built.continues refl there in omega (arith, same, there);
      width = built.width ∙ many;
      some = some;
      tree = built.tree ∙ ap way_bits (sym (as_way-grown g h way built.continues there));
      worth = λ input small.
          ap (λ (x : BitVector). x.number) (built.value input small)
          ∙ extract-number (way.first + way.count - 1) way.first (val g way.term input)
          ∙ ap (λ n. number_of g way.term input / 2 ^ way.first % 2 ^ n) many
          ∙ ap (λ n. n / 2 ^ way.first % 2 ^ way.count) (sym (number-grown g h way.term (width_of g way.term) input built.continues refl there));
    }

-- ---- By the width: what each byte of the page is.
abbrev byte_up : (n at : ℕ) → ℕ
byte_up n at = n / 2 ^ (8 * at) % 2 ^ 8

-- the byte that is so many up, as the machine takes it
first_up : (v at : ℕ) → at ≡ 0 → byte_up v at ≡ v % 2 ^ 8
first_up v at is = ap (λ n. v / 2 ^ (8 * n) % 2 ^ 8) is ∙ omega arith

up_is : (v at n : ℕ) → at ≡ n → byte_up v at ≡ byte_up v n
up_is v at n is = ap (byte_up v) is

stores_byte : (a v : ℕ) (byte : ℕ → ℕ) (x : ℕ) (t : Bool) → (x == a) ≡ t
    → (if x / 1 * 1 == a then byte_up v (x % 1) else byte x) ≡ (if t then v % 2 ^ 8 else byte x)
stores_byte a v byte x true is =
    let here : (x / 1 * 1 == a) ≡ true = grind (arith, nat_tests, is) in
    ap (λ t. if t then byte_up v (x % 1) else byte x) here ∙ first_up v (x % 1) (omega arith)
stores_byte a v byte x false is =
    let other : (x / 1 * 1 == a) ≡ false = grind (arith, nat_tests, is) in
    ap (λ t. if t then byte_up v (x % 1) else byte x) other

stores_half : (a v : ℕ) (byte : ℕ → ℕ) (x : ℕ) (t u : Bool) → a % 2 ≡ 0 → (x == a + 1) ≡ t → (x == a) ≡ u
    → (if x / 2 * 2 == a then byte_up v (x % 2) else byte x)
    ≡ (if t then v / 2 ^ 8 % 2 ^ 8 else if u then v % 2 ^ 8 else byte x)
stores_half a v byte x true u even second first =
    let at : x ≡ a + 1 = grind (arith, nat_tests, second) in
    let here : (x / 2 * 2 == a) ≡ true = let same : x / 2 * 2 ≡ a = omega (arith, at, even) in grind (arith, nat_tests, same) in
    ap (λ t. if t then byte_up v (x % 2) else byte x) here ∙ up_is v (x % 2) 1 (omega (arith, at, even))
stores_half a v byte x false true even second first =
    let at : x ≡ a = grind (arith, nat_tests, first) in
    let here : (x / 2 * 2 == a) ≡ true = let same : x / 2 * 2 ≡ a = omega (arith, at, even) in grind (arith, nat_tests, same) in
    ap (λ t. if t then byte_up v (x % 2) else byte x) here ∙ first_up v (x % 2) (omega (arith, at, even))
stores_half a v byte x false false even second first =
    let one : x ≢ a + 1 = grind (arith, nat_tests, second) in
    let none : x ≢ a = grind (arith, nat_tests, first) in
    let other : (x / 2 * 2 == a) ≡ false = let apart : x / 2 * 2 ≢ a = λ same. omega (arith, same, one, none) in grind (arith, nat_tests, apart) in
    ap (λ t. if t then byte_up v (x % 2) else byte x) other

-- at one of the places of a word
word_there : (a v x at : ℕ) (byte : ℕ → ℕ) → a % 4 ≡ 0 → at < 4 → x ≡ a + at
    → (if x / 4 * 4 == a then byte_up v (x % 4) else byte x) ≡ byte_up v at
word_there a v x at byte fourth small is =
    let here : (x / 4 * 4 == a) ≡ true = let same : x / 4 * 4 ≡ a = omega (arith, is, fourth, small) in grind (arith, nat_tests, same) in
    ap (λ t. if t then byte_up v (x % 4) else byte x) here ∙ up_is v (x % 4) at (omega (arith, is, fourth, small))

stores_word : (a v : ℕ) (byte : ℕ → ℕ) (x : ℕ) (t u s r : Bool) → a % 4 ≡ 0 → (x == a + 1 + 1 + 1) ≡ t → (x == a + 1 + 1) ≡ u → (x == a + 1) ≡ s → (x == a) ≡ r
    → (if x / 4 * 4 == a then byte_up v (x % 4) else byte x)
    ≡ (if t then v / 2 ^ 24 % 2 ^ 8 else if u then v / 2 ^ 16 % 2 ^ 8 else if s then v / 2 ^ 8 % 2 ^ 8 else if r then v % 2 ^ 8 else byte x)
stores_word a v byte x true u s r fourth b3 b2 b1 b0 =
    word_there a v x 3 byte fourth (omega arith) (grind (arith, nat_tests, b3))
stores_word a v byte x false true s r fourth b3 b2 b1 b0 =
    word_there a v x 2 byte fourth (omega arith) (grind (arith, nat_tests, b2))
stores_word a v byte x false false true r fourth b3 b2 b1 b0 =
    word_there a v x 1 byte fourth (omega arith) (grind (arith, nat_tests, b1))
stores_word a v byte x false false false true fourth b3 b2 b1 b0 =
    word_there a v x 0 byte fourth (omega arith) (grind (arith, nat_tests, b0)) ∙ first_up v 0 refl
stores_word a v byte x false false false false fourth b3 b2 b1 b0 =
    let three : x ≢ a + 1 + 1 + 1 = grind (arith, nat_tests, b3) in
    let two : x ≢ a + 1 + 1 = grind (arith, nat_tests, b2) in
    let one : x ≢ a + 1 = grind (arith, nat_tests, b1) in
    let none : x ≢ a = grind (arith, nat_tests, b0) in
    let other : (x / 4 * 4 == a) ≡ false = let apart : x / 4 * 4 ≢ a = λ same. omega (arith, same, three, two, one, none) in grind (arith, nat_tests, apart) in
    ap (λ t. if t then byte_up v (x % 4) else byte x) other

aligned_on : (k page a : ℕ) → (a / 256 == page) && (a % k == 0) ≡ true → ((a / 256 == page) ≡ true) × (a % k ≡ 0)
aligned_on k page a is =
    let both = and_parts (a / 256 == page) (a % k == 0) is in
    (both.0, let even = both.1 in grind (arith, nat_tests, even))

there_by : (width : StoreWidth) (page a v : ℕ) (byte : ℕ → ℕ) (x : ℕ) → is_place (as_load width) page a ≡ true
    → (if x / bytes (as_load width) * bytes (as_load width) == a then byte_up v (x % bytes (as_load width)) else byte x)
    ≡ with_bytes byte a (machine.stored width v) x
there_by Sb page a v byte x here = stores_byte a v byte x (x == a) refl
there_by Sh page a v byte x here = stores_half a v byte x (x == a + 1) (x == a) (aligned_on 2 page a here).1 refl refl
there_by Sw page a v byte x here =
    stores_word a v byte x (x == a + 1 + 1 + 1) (x == a + 1 + 1) (x == a + 1) (x == a) (aligned_on 4 page a here).1 refl refl refl refl

-- elsewhere nothing is stored
elsewhere : (width : StoreWidth) (page a v : ℕ) (byte : ℕ → ℕ) (x : ℕ) → is_place (as_load width) page a ≡ true
    → (nat_le (256 * page) x && nat_lt x (256 * page + 256)) ≡ false
    → (if x / bytes (as_load width) * bytes (as_load width) == a then byte_up v (x % bytes (as_load width)) else byte x) ≡ byte x
elsewhere Sb page a v byte x here out =
    let on : a / 256 ≡ page = let t = (and_parts (a / 256 == page) true here).0 in grind (arith, nat_tests, t) in
    let off : x / 256 ≢ page = grind (arith, nat_tests, out) in
    let other : (x / 1 * 1 == a) ≡ false = let apart : x / 1 * 1 ≢ a = λ same. omega (arith, same, on, off) in grind (arith, nat_tests, apart) in
    ap (λ t. if t then byte_up v (x % 1) else byte x) other
elsewhere Sh page a v byte x here out =
    let on : a / 256 ≡ page = let t = (aligned_on 2 page a here).0 in grind (arith, nat_tests, t) in
    let off : x / 256 ≢ page = grind (arith, nat_tests, out) in
    let other : (x / 2 * 2 == a) ≡ false = let apart : x / 2 * 2 ≢ a = λ same. omega (arith, same, on, off) in grind (arith, nat_tests, apart) in
    ap (λ t. if t then byte_up v (x % 2) else byte x) other
elsewhere Sw page a v byte x here out =
    let on : a / 256 ≡ page = let t = (aligned_on 4 page a here).0 in grind (arith, nat_tests, t) in
    let off : x / 256 ≢ page = grind (arith, nat_tests, out) in
    let other : (x / 4 * 4 == a) ≡ false = let apart : x / 4 * 4 ≢ a = λ same. omega (arith, same, on, off) in grind (arith, nat_tests, apart) in
    ap (λ t. if t then byte_up v (x % 4) else byte x) other

abbrev stored_at_place : LoadWidth → (a v : ℕ) → (ℕ → ℕ) → ℕ → ℕ
stored_at_place width a v byte x = if x / bytes width * bytes width == a then byte_up v (x % bytes width) else byte x

replaced_by : (width : StoreWidth) (page a v : ℕ) (byte : ℕ → ℕ) (x : ℕ) (t : Bool) → (nat_le (256 * page) x && nat_lt x (256 * page + 256)) ≡ t
    → is_place (as_load width) page a ≡ true
    → (if t then stored_at_place (as_load width) a v byte x else byte x) ≡ with_bytes byte a (machine.stored width v) x
replaced_by width page a v byte x true within here = there_by width page a v byte x here
replaced_by width page a v byte x false out here =
    sym (elsewhere width page a v byte x here out) ∙ there_by width page a v byte x here

-- the bytes of the page that are stored are those that the machine stores
stores : (width : StoreWidth) (page a v : ℕ) (byte : ℕ → ℕ) → is_place (as_load width) page a ≡ true
    → replaced (256 * page) 256 (stored_at_place (as_load width) a v byte) byte ≡ with_bytes byte a (machine.stored width v)
stores width page a v byte here =
    fun_ext (λ x. replaced_by width page a v byte x (nat_le (256 * page) x && nat_lt x (256 * page + 256)) refl here)

-- a place of another page is none of this one
out_of : (page a : ℕ) (t : Bool) → (nat_le (256 * page) a && nat_lt a (256 * page + 256)) ≡ t → a / 256 ≢ page → t ≡ false
out_of page a true is off =
    let both = and_parts (nat_le (256 * page) a) (nat_lt a (256 * page + 256)) is in
    let low : 256 * page ≤ a = let t = both.0 in grind (arith, nat_tests, t) in
    let high : a < 256 * page + 256 = let t = both.1 in grind (arith, nat_tests, t) in
    absurd (off (omega (arith, low, high)))
out_of page a false is off = refl

-- ---- From the address that a term is.
replaced-same : {A : Type 0} (start count : ℕ) (f g b : ℕ → A) → ((x : ℕ) → f x ≡ g x) → replaced start count f b ≡ replaced start count g b
replaced-same start count f g b same = fun_ext (λ x. ap (λ n. if nat_le start x && nat_lt x (start + count) then n else b x) (same x))

module _ (s : Symbolic) (f h : Graph) (width : StoreWidth) (page term : ℕ) (value : Value) (way : Way) (stored : List Byte)
    (formed : IsFormed s) (wide : IsWide s.terms value) (is : IsWay s.terms (as_load width) page term way) (first : Continues s.terms f)
    (made : MakesBytes f h value (bytes (as_load width)) stored) where
  grown : Continues s.terms h
  grown = Continues-trans first made.continues

  there : 0 < width_of s.terms way.term
  there = let some = is.some in let within = is.within in omega (arith, some, within)

  memory_is : (input : List ℕ) → bytes_worth h s.memory input ≡ bytes_worth s.terms s.memory input
  memory_is input = fun_ext (λ a. byte_worth-grown s.terms h input (memory_byte s.memory a) grown (formed.memory a))

  comes_there : (input : List ℕ) → All (λ b. b < 256) input → is_place (as_load width) page (number_of s.terms term input) ≡ true
      → come_to h way input ≡ number_of s.terms term input
  comes_there input small here = come_to-grown s.terms h way input grown there ∙ is.leads input small here

  worth_by : (input : List ℕ) → All (λ b. b < 256) input → is_place (as_load width) page (number_of s.terms term input) ≡ true
      → (x : ℕ) → worth_after h s.memory (as_load width) way stored input x
      ≡ stored_at_place (as_load width) (number_of s.terms term input) (worth_of s.terms input value) (bytes_worth s.terms s.memory input) x
  worth_by input small here x =
      ap (λ a. if x / bytes (as_load width) * bytes (as_load width) == a then byte_worth h input (listed_byte stored (x % bytes (as_load width))) else bytes_worth h s.memory input x)
      (comes_there input small here)
      ∙ ap (λ b. if x / bytes (as_load width) * bytes (as_load width) == number_of s.terms term input then b else bytes_worth h s.memory input x)
      (made.worth (x % bytes (as_load width)) (place_small (as_load width) x) input small
      ∙ ap (λ v. byte_up v (x % bytes (as_load width))) (worth-grown s.terms f input value first wide))
      ∙ ap (λ (f : ℕ → ℕ). stored_at_place (as_load width) (number_of s.terms term input) (worth_of s.terms input value) f x) (memory_is input)

  expressed_by : (x : ℕ) → expressed_after h s.memory (as_load width) way stored x
      ≡ byte_after (bytes_expressed s.terms s.memory) (as_load width) (way_by (index_of (tree_of s.terms term)) (as_load width) page (tree_of s.terms term))
      (λ at. register_byte at (value_expression s.terms value)) x
  expressed_by x =
      cc (
        as_way-grown s.terms h way grown there ∙ is.is,
        made.expression (x % bytes (as_load width)) (place_small (as_load width) x)
            ∙ ap (register_byte (x % bytes (as_load width))) (expression-grown s.terms f value first wide),
        ap (λ (e : ℕ → Expression). e x) (bytes_expressed-grown s.terms h s.memory grown formed.memory),
      )

  -- ---- With the list that the store goes to.
  module _ (bits : ℕ) (are : AreWayBits h way bits) (k : Graph) (o : SymbolicMemory) (more : Continues h k) (has : HasBytes k o)
      (scatters : Scatters h k s.memory o (as_load width) page way stored 256) where
    abbrev site : Site
    site = site_of (as_load width) page (as_way s.terms way)

    abbrev one : code.Update
    one = record { bits = bits; value = value }

    all : Continues s.terms k
    all = Continues-trans grown more

    after_is : (input : List ℕ) → All (λ b. b < 256) input → (a : ℕ) (t : Bool) → (nat_le (256 * page) a && nat_lt a (256 * page + 256)) ≡ t
        → bytes_worth k o input a ≡ (if t then worth_after h s.memory (as_load width) way stored input a else bytes_worth h s.memory input a)
    after_is input small a t is =
        ap (λ (f : ℕ → ℕ). f a) (scatters.worth input small)
        ∙ ap (λ b. if b then worth_after h s.memory (as_load width) way stored input a else bytes_worth h s.memory input a) is

    before_is : (input : List ℕ) (a : ℕ) → bytes_worth h s.memory input a ≡ bytes_worth k s.memory input a
    before_is input a = sym (byte_worth-grown h k input (memory_byte s.memory a) more (memory-grown s.terms h s.memory grown formed.memory a))

    elsewhere_is : (input : List ℕ) → All (λ b. b < 256) input → (a : ℕ) → a / 256 ≢ page
        → bytes_worth k o input a ≡ bytes_worth k s.memory input a
    elsewhere_is input small a off =
        after_is input small a false (out_of page a (nat_le (256 * page) a && nat_lt a (256 * page + 256)) refl off)
        ∙ before_is input a

    here_is : (input : List ℕ) → All (λ b. b < 256) input → (a : ℕ) → a / 256 ≡ page
        → bytes_worth k o input a ≡ byte_with k site input a one (bytes_worth k s.memory input a)
    here_is input small a on =
        after_is input small a true (let low : 256 * page ≤ a = omega (arith, on) in let high : a < 256 * page + 256 = omega (arith, on) in grind (arith, nat_tests, low, high))
        ∙ ap (λ n. if a / bytes (as_load width) * bytes (as_load width) == way.start + n * 2 ^ way.scale
        then byte_worth h input (listed_byte stored (a % bytes (as_load width))) else bytes_worth h s.memory input a)
        (sym (are.worth input small) ∙ sym (number-grown h k bits way.count input more are.width are.some))
        ∙ ap (λ n. if a / bytes (as_load width) * bytes (as_load width) == way.start + number_of k bits input * 2 ^ way.scale then n else bytes_worth h s.memory input a)
        (made.worth (a % bytes (as_load width)) (place_small (as_load width) a) input small
        ∙ ap (λ v. byte_up v (a % bytes (as_load width)))
        (worth-grown s.terms f input value first wide ∙ sym (worth-grown s.terms k input value all wide)))
        ∙ ap (byte_with k site input a one) (before_is input a)

    pub updates_are : All (AreUpdates k o) (updates_with site s.memory one s.updates)
    updates_are =
        updates_noted k s.memory o site one elsewhere_is here_is s.updates is.some is.short
        (memory-grown s.terms k s.memory all formed.memory)
        (record { bits = width-kept h k bits way.count more are.width are.some; wide = IsWide-grown s.terms k value all wide })
        (updates-grown s.terms k all s.memory s.updates formed.memory formed.updates)

    pub updates_expressed_are : updates_expressed k (updates_with site s.memory one s.updates)
        ≡ updates_after width (bytes_expressed s.terms s.memory) (updates_expressed s.terms s.updates) page (Unknown (tree_of s.terms term)) (value_expression s.terms value)
    updates_expressed_are =
        updates_with-expressed k site s.memory one s.updates
        ∙ ap (λ (b : ℕ → Expression). updates_with site b (update_expressed k one) (updates_expressed k s.updates))
        (bytes_expressed-grown s.terms k s.memory all formed.memory)
        ∙ ap (updates_with site (bytes_expressed s.terms s.memory) (update_expressed k one))
        (updates_expressed-grown s.terms k all s.memory s.updates formed.updates)
        ∙ ap (λ (e : Update). updates_with site (bytes_expressed s.terms s.memory) e (updates_expressed s.terms s.updates)) one_expressed
        ∙ ap (λ w. updates_along (bytes_expressed s.terms s.memory) (as_load width) page w (value_expression s.terms value) (updates_expressed s.terms s.updates)) is.is
      where
        one_expressed : update_expressed k one ≡ record { bits = way_bits (as_way s.terms way); value = value_expression s.terms value }
        one_expressed = cc (
          tree-kept h k bits way.count more are.width are.some ∙ are.tree ∙ ap way_bits (as_way-grown s.terms h way grown there),
          expression-grown s.terms k value all wide,
        )

    pub stored_made : MakesStored s (record s { memory = o; terms = k; updates = updates_with site s.memory one s.updates }) width page term value
    stored_made = record {
      before = formed;
      same = refl;
      continues = all;
      formed = formed-put s k o (updates_with site s.memory one s.updates) formed all has updates_are;
      flags = scatters.flags;
      worth = λ input small here.
          scatters.worth input small
          ∙ replaced-same (256 * page) 256 _ _ (bytes_worth h s.memory input) (worth_by input small here)
          ∙ ap (replaced (256 * page) 256 (stored_at_place (as_load width) (number_of s.terms term input) (worth_of s.terms input value) (bytes_worth s.terms s.memory input)))
          (memory_is input)
          ∙ stores width page (number_of s.terms term input) (worth_of s.terms input value) (bytes_worth s.terms s.memory input) here;
      expressed =
          scatters.expressed
          ∙ replaced-same (256 * page) 256 _ _ (bytes_expressed h s.memory) expressed_by
          ∙ ap (replaced (256 * page) 256 (byte_after (bytes_expressed s.terms s.memory) (as_load width) (way_by (index_of (tree_of s.terms term)) (as_load width) page (tree_of s.terms term))
          (λ at. register_byte at (value_expression s.terms value))))
          (bytes_expressed-grown s.terms h s.memory grown formed.memory);
      updates = updates_expressed_are;
    }
