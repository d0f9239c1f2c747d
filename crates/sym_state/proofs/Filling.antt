-- Memory that gets the input bytes of a region, one after the other.
use Rattle.std.proofs.Common.{◌≡◌, ◌≢◌, ℕ, ◌+◌, ◌-◌, ◌<◌, ◌&&◌, Bool, true, false, List, get_or, length, drop, refl, sym, ap, subst, ◌∙◌, arith}
use Rattle.std.specs.Prelude.{◌==◌, nat_le, nat_lt, if◌then◌else◌, All, Option, slice_index}
use Rattle.std.proofs.Math.Path.{fun_ext}
use Rattle.std.proofs.lemmas.Bool.Decides.{nat_tests}
use Rattle.std.proofs.lemmas.List.{drop-drop, drop_more, get_or-drop, take_all}
use Rattle.bv_dag.specs.Graphs.{Graph}
use Rattle.bv_dag.specs.declared.nodes.Node.TheVariants.{Input}
use Rattle.cow_pages.specs.SymbolicMemory.{SymbolicMemory, memory_byte, memory_flags}
use Rattle.cow_pages.specs.declared.byte.Byte.TheVariants.{Term}
use Rattle.elf_load.specs.declared.region.Region.{Region}
use Rattle.rv_machine.specs.Pages.{AreMapped, filled}
use Rattle.rv_spec.specs.Memory.{count_of, placed}
use Rattle.term_simplify.specs.Builds.{BuildsNode}
use Rattle.term_simplify.specs.Plain.{tree_number}
use Rattle.term_trees.specs.Trees.{Byte}
use Rattle.sym_state.specs.Expressions.{Expression, Unknown, byte_expression}
use Rattle.sym_state.specs.Placing.{HasBytes, PutsBytes, bytes_expressed, bytes_worth, inputs_filled}
use Rattle.sym_state.specs.Unfolded.{inputs_placed}
use Rattle.sym_state.specs.Values.{IsByte, byte_worth}
use Rattle.sym_state.proofs.Expressing.{byte_expression-grown}
use Rattle.sym_state.proofs.Growing.{Continues-trans, IsByte-grown, byte_worth-grown}

-- the term of an input byte is a byte, and is worth it
input_byte : (t g : Graph) (i id : ℕ) → BuildsNode t g (Input i) id → IsByte g (Term id)
input_byte t g i id built = record { width = built.width; no_number = ap tree_number built.tree }

input_worth : (t g : Graph) (i id : ℕ) (input : List ℕ) → BuildsNode t g (Input i) id
    → All (λ b. b < 256) input → byte_worth g input (Term id) ≡ slice_index input i
input_worth t g i id input built bytes = ap (λ w. w.number) (built.value input bytes)

input_expression : (t g : Graph) (i id : ℕ) → BuildsNode t g (Input i) id → byte_expression g (Term id) ≡ Unknown (Byte i)
input_expression t g i id built = ap (λ s. Unknown s) built.tree

-- none of the bytes from an address on
filled_none : (start : ℕ) (bytes : List ℕ) (byte : ℕ → ℕ) (x : ℕ) → byte x ≡ filled start 0 bytes byte x
filled_none start bytes byte x =
    let out : (nat_le start x && nat_lt x (start + 0)) ≡ false = grind (arith, nat_tests) in
    ap (λ t. if t then slice_index bytes (x - start) else byte x) (sym out)

-- the address behind them gets the next byte
filled_here : (start i x : ℕ) (bytes : List ℕ) (byte : ℕ → ℕ) → (x == start + i) ≡ true
    → slice_index bytes i ≡ filled start (i + 1) bytes byte x
filled_here start i x bytes byte here =
    let at : x ≡ start + i = grind (arith, nat_tests, here) in
    let within : (nat_le start x && nat_lt x (start + (i + 1))) ≡ true = grind (arith, nat_tests, at) in
    let place : i ≡ x - start = omega (arith, at) in
    ap (slice_index bytes) place
    ∙ ap (λ t. if t then slice_index bytes (x - start) else byte x) (sym within)

-- any other address has what it had
filled_beside : (start i x : ℕ) (bytes : List ℕ) (byte : ℕ → ℕ) → (x == start + i) ≡ false
    → filled start i bytes byte x ≡ filled start (i + 1) bytes byte x
filled_beside start i x bytes byte beside =
    let apart : x ≢ start + i = grind (arith, nat_tests, beside) in
    let same : (nat_le start x && nat_lt x (start + i)) ≡ (nat_le start x && nat_lt x (start + (i + 1))) =
    grind (arith, nat_tests, apart) in
    ap (λ t. if t then slice_index bytes (x - start) else byte x) same

-- ---- The same of inputs.
inputs_none : (start first : ℕ) (byte : ℕ → Expression) (x : ℕ) → byte x ≡ inputs_filled start 0 first byte x
inputs_none start first byte x =
    let out : (nat_le start x && nat_lt x (start + 0)) ≡ false = grind (arith, nat_tests) in
    ap (λ t. if t then Unknown (Byte (first + (x - start))) else byte x) (sym out)

inputs_here : (start i first x : ℕ) (byte : ℕ → Expression) → (x == start + i) ≡ true
    → Unknown (Byte (first + i)) ≡ inputs_filled start (i + 1) first byte x
inputs_here start i first x byte here =
    let at : x ≡ start + i = grind (arith, nat_tests, here) in
    let within : (nat_le start x && nat_lt x (start + (i + 1))) ≡ true = grind (arith, nat_tests, at) in
    let place : i ≡ x - start = omega (arith, at) in
    ap (λ n. Unknown (Byte (first + n))) place
    ∙ ap (λ t. if t then Unknown (Byte (first + (x - start))) else byte x) (sym within)

inputs_beside : (start i first x : ℕ) (byte : ℕ → Expression) → (x == start + i) ≡ false
    → inputs_filled start i first byte x ≡ inputs_filled start (i + 1) first byte x
inputs_beside start i first x byte beside =
    let apart : x ≢ start + i = grind (arith, nat_tests, beside) in
    let same : (nat_le start x && nat_lt x (start + i)) ≡ (nat_le start x && nat_lt x (start + (i + 1))) =
    grind (arith, nat_tests, apart) in
    ap (λ t. if t then Unknown (Byte (first + (x - start))) else byte x) same

-- nothing was put yet
pub filled_first : (terms : Graph) (memory : SymbolicMemory) (start first : ℕ) → HasBytes terms memory
    → PutsBytes terms terms memory memory (inputs_filled start 0 first (bytes_expressed terms memory))
    (λ input. filled start 0 (drop first input) (bytes_worth terms memory input))
filled_first terms memory start first has = record {
  continues = record { inputs = refl; front = take_all (length terms.nodes) terms.nodes (omega arith) };
  flags = refl;
  has_bytes = has;
  expressed = fun_ext (inputs_none start first (bytes_expressed terms memory));
  worth = λ input bytes. fun_ext (filled_none start (drop first input) (bytes_worth terms memory input));
}

-- the term of the next input byte was put to the next address
module _ (g t u : Graph) (m n o : SymbolicMemory) (start i first id : ℕ)
    (puts : PutsBytes g t m n (inputs_filled start i first (bytes_expressed g m)) (λ input. filled start i (drop first input) (bytes_worth g m input)))
    (built : BuildsNode t u (Input (first + i)) id)
    (bytes : (x : ℕ) → memory_byte o x ≡ (if x == start + i then Term id else memory_byte n x)) where
  byte_is : (x : ℕ) (here : Bool) → memory_byte o x ≡ (if here then Term id else memory_byte n x)
      → IsByte u (memory_byte o x)
  byte_is x true is = subst (IsByte u) (sym is) (input_byte t u (first + i) id built)
  byte_is x false is =
      subst (IsByte u) (sym is) (IsByte-grown t u (memory_byte n x) built.continues (puts.has_bytes x))

  byte_worth_is : (input : List ℕ) → All (λ b. b < 256) input → (x : ℕ) (here : Bool)
      → (x == start + i) ≡ here → memory_byte o x ≡ (if here then Term id else memory_byte n x)
      → bytes_worth u o input x ≡ filled start (i + 1) (drop first input) (bytes_worth g m input) x
  byte_worth_is input small x true here is =
      ap (byte_worth u input) is ∙ input_worth t u (first + i) id input built small
      ∙ sym (get_or-drop first input i 0)
      ∙ filled_here start i x (drop first input) (bytes_worth g m input) here
  byte_worth_is input small x false here is =
      ap (byte_worth u input) is
      ∙ byte_worth-grown t u input (memory_byte n x) built.continues (puts.has_bytes x)
      ∙ ap (λ (w : ℕ → ℕ). w x) (puts.worth input small)
      ∙ filled_beside start i x (drop first input) (bytes_worth g m input) here

  expression_is : (x : ℕ) (here : Bool) → (x == start + i) ≡ here → memory_byte o x ≡ (if here then Term id else memory_byte n x)
      → bytes_expressed u o x ≡ inputs_filled start (i + 1) first (bytes_expressed g m) x
  expression_is x true here is =
      ap (byte_expression u) is ∙ input_expression t u (first + i) id built
      ∙ inputs_here start i first x (bytes_expressed g m) here
  expression_is x false here is =
      ap (byte_expression u) is
      ∙ byte_expression-grown t u (memory_byte n x) built.continues (puts.has_bytes x)
      ∙ ap (λ (e : ℕ → Expression). e x) puts.expressed
      ∙ inputs_beside start i first x (bytes_expressed g m) here

  pub filled_more : ((page : ℕ) → memory_flags o page ≡ memory_flags n page)
      → PutsBytes g u m o (inputs_filled start (i + 1) first (bytes_expressed g m)) (λ input. filled start (i + 1) (drop first input) (bytes_worth g m input))
  filled_more flags = record {
    continues = Continues-trans puts.continues built.continues;
    flags = fun_ext flags ∙ puts.flags;
    has_bytes = λ x. byte_is x (x == start + i) (bytes x);
    expressed = fun_ext (λ x. expression_is x (x == start + i) refl (bytes x));
    worth = λ input small. fun_ext (λ x. byte_worth_is input small x (x == start + i) refl (bytes x));
  }

-- a region was filled, and those behind it are left
pub placed_more : (t u : Graph) (n o : SymbolicMemory) (rs : List Region) (r : Region) (k first : ℕ)
    → k < length rs
    → PutsBytes t u n o (inputs_filled (get_or rs k r).start (get_or rs k r).count first (bytes_expressed t n))
    (λ input. filled (get_or rs k r).start (get_or rs k r).count (drop first input) (bytes_worth t n input))
    → (input : List ℕ) → All (λ b. b < 256) input
    → placed (drop (k + 1) rs) (drop (first + (get_or rs k r).count) input) (bytes_worth u o input)
    ≡ placed (drop k rs) (drop first input) (bytes_worth t n input)
placed_more t u n o rs r k first within puts input small =
    let next = get_or rs k r in
    ap (placed (drop (k + 1) rs) (drop (first + next.count) input)) (puts.worth input small)
    ∙ ap (λ left. placed (drop (k + 1) rs) left
    (filled next.start next.count (drop first input) (bytes_worth t n input)))
    (sym (drop-drop next.count first input))
    ∙ ap (λ left. placed left (drop first input) (bytes_worth t n input)) (sym (drop_more rs k r within))

pub inputs_more : (t u : Graph) (n o : SymbolicMemory) (rs : List Region) (r : Region) (k first : ℕ)
    → k < length rs
    → PutsBytes t u n o (inputs_filled (get_or rs k r).start (get_or rs k r).count first (bytes_expressed t n))
    (λ input. filled (get_or rs k r).start (get_or rs k r).count (drop first input) (bytes_worth t n input))
    → inputs_placed (drop (k + 1) rs) (first + (get_or rs k r).count) (bytes_expressed u o)
    ≡ inputs_placed (drop k rs) first (bytes_expressed t n)
inputs_more t u n o rs r k first within puts =
    ap (inputs_placed (drop (k + 1) rs) (first + (get_or rs k r).count)) puts.expressed
    ∙ ap (λ left. inputs_placed left first (bytes_expressed t n)) (sym (drop_more rs k r within))

-- regions behind the first of those that are left
pub rest_mapped : (flags : ℕ → Option ℕ) (rs : List Region) (k : ℕ) (r : Region) → k < length rs
    → AreMapped flags (drop k rs) → AreMapped flags (drop (k + 1) rs)
rest_mapped flags rs k r within mapped = (subst (AreMapped flags) (drop_more rs k r within) mapped).1

pub rest_left : (rs : List Region) (k : ℕ) (r : Region) (first : ℕ) → k < length rs
    → first + (get_or rs k r).count + count_of (drop (k + 1) rs) ≡ first + count_of (drop k rs)
rest_left rs k r first within = omega (arith, ap count_of (drop_more rs k r within))
