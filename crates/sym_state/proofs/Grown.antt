-- A run to which terms were added is where it was, stands for the same assignments, and has the same
-- terms.
use Rattle.std.proofs.Common.{◌≡◌, ℕ, ◌&&◌, List, [], ◌∷◌, true, length, map, refl, sym, ap, ◌∙◌, arith}
use Rattle.std.specs.Prelude.{All, ◌==◌}
use Rattle.std.specs.List.{list_all}
use Rattle.std.proofs.Math.Path.{fun_ext}
use Rattle.std.proofs.lemmas.List.{take_all}
use Rattle.std.proofs.lemmas.List.Elements.{All-head, All-tail}
use Rattle.bv_dag.specs.Graphs.{Graph, number_of, width_of}
use Rattle.bv_dag.specs.Queries.{AreBits, holds}
use Rattle.cow_pages.specs.SymbolicMemory.{memory_byte}
use Rattle.cow_pages.specs.declared.byte.Byte.{Byte}
use Rattle.fork_spec.specs.Leaves.{are_bytes}
use Rattle.term_trees.specs.Growth.{Continues}
use Rattle.sym_state.specs.Expressions.{Expression, byte_expression, value_expression}
use Rattle.sym_state.specs.KeptUpdates.{updates_expressed}
use Rattle.sym_state.specs.Moves.{IsGrown, with_terms}
use Rattle.sym_state.specs.Symbolic.{Symbolic, IsFormed, concrete, stands_for}
use Rattle.sym_state.specs.Updates.{ExpressedUpdates}
use Rattle.sym_state.specs.Unfolded.{unfolded}
use Rattle.sym_state.specs.Values.{IsByte, IsWide, byte_worth, worth_of}
use Rattle.sym_state.proofs.Expressing.{byte_expression-grown, expression-grown}
use Rattle.sym_state.proofs.Growing.{Continues-trans, byte_worth-grown, number-grown, worth-grown}
use Rattle.sym_state.proofs.Updating.{map-same, updates_expressed-grown}

pub Continues-refl : (g : Graph) → Continues g g
Continues-refl g = record { inputs = refl; front = take_all (length g.nodes) g.nodes (omega arith) }

pub ones-grown : (g h : Graph) (input ids : List ℕ) → Continues g h → AreBits g ids
    → list_all (λ id. number_of h id input == 1) ids ≡ list_all (λ id. number_of g id input == 1) ids
ones-grown g h input [] grown bits = refl
ones-grown g h input (id ∷ ids) grown bits =
    let first : number_of h id input ≡ number_of g id input = number-grown g h id 1 input grown (All-head (λ i. width_of g i ≡ 1) id ids bits) (omega arith) in
    cc (first, ones-grown g h input ids grown (All-tail (λ i. width_of g i ≡ 1) id ids bits))

-- a condition is met where it was
pub holds-grown : (g h : Graph) (ids input : List ℕ) → Continues g h → AreBits g ids
    → holds (record { graph = h; asserted = ids }) input ≡ holds (record { graph = g; asserted = ids }) input
holds-grown g h ids input grown bits =
    ap (λ n. (length input == n) && list_all (λ id. number_of h id input == 1) ids) grown.inputs
    ∙ ap (λ b. (length input == g.inputs) && b) (ones-grown g h input ids grown bits)

-- ---- With other terms.
pub stands-with_terms : (s : Symbolic) (g : Graph) (input : List ℕ) → IsFormed s → Continues s.terms g
    → stands_for (with_terms s g) input ≡ stands_for s input
stands-with_terms s g input formed grown = ap (λ b. are_bytes input && b) (holds-grown s.terms g s.condition input grown formed.bits)

pub bytes-grown : (g h : Graph) (input : List ℕ) (bs : List Byte) → Continues g h → All (IsByte g) bs
    → map (byte_worth h input) bs ≡ map (byte_worth g input) bs
bytes-grown g h input bs grown each = map-same (IsByte g) (byte_worth h input) (byte_worth g input) bs (λ b. byte_worth-grown g h input b grown) each

pub concrete-with_terms : (s : Symbolic) (g : Graph) (input : List ℕ) → IsFormed s → Continues s.terms g
    → concrete (with_terms s g) input ≡ concrete s input
concrete-with_terms s g input formed grown =
    ap (λ rs. record (concrete (with_terms s g) input) { registers = rs })
    (map-same (IsWide s.terms) (worth_of g input) (worth_of s.terms input) s.registers (λ v. worth-grown s.terms g input v grown) formed.wide)
    ∙ ap (λ (bytes : ℕ → ℕ). record (concrete s input) { byte = bytes; output = map (byte_worth g input) s.output })
    (fun_ext (λ a. byte_worth-grown s.terms g input (memory_byte s.memory a) grown (formed.memory a)))
    ∙ ap (λ ns. record (concrete s input) { output = ns })
    (bytes-grown s.terms g input s.output grown formed.bytes)

pub unfolded-with_terms : (s : Symbolic) (g : Graph) → IsFormed s → Continues s.terms g → unfolded (with_terms s g) ≡ unfolded s
unfolded-with_terms s g formed grown =
    ap (λ es. record (unfolded (with_terms s g)) { registers = es })
    (map-same (IsWide s.terms) (value_expression g) (value_expression s.terms) s.registers (λ v. expression-grown s.terms g v grown) formed.wide)
    ∙ ap (λ (bytes : ℕ → Expression). record (unfolded s) { byte = bytes; output = map (byte_expression g) s.output; updates = updates_expressed g s.updates })
    (fun_ext (λ a. byte_expression-grown s.terms g (memory_byte s.memory a) grown (formed.memory a)))
    ∙ ap (λ es. record (unfolded s) { output = es; updates = updates_expressed g s.updates })
    (map-same (IsByte s.terms) (byte_expression g) (byte_expression s.terms) s.output (λ b. byte_expression-grown s.terms g b grown) formed.bytes)
    ∙ ap (λ (ts : List ExpressedUpdates). record (unfolded s) { updates = ts })
    (updates_expressed-grown s.terms g grown s.memory s.updates formed.updates)

-- ---- The same run, with more terms.
pub stands-grown : (old new : Symbolic) (input : List ℕ) → IsGrown old new → stands_for new input ≡ stands_for old input
stands-grown old new input grown =
    ap (λ (s : Symbolic). stands_for s input) grown.same ∙ stands-with_terms old new.terms input grown.before grown.continues

pub concrete-grown : (old new : Symbolic) (input : List ℕ) → IsGrown old new → concrete new input ≡ concrete old input
concrete-grown old new input grown =
    ap (λ (s : Symbolic). concrete s input) grown.same ∙ concrete-with_terms old new.terms input grown.before grown.continues

pub unfolded-grown : (old new : Symbolic) → IsGrown old new → unfolded new ≡ unfolded old
unfolded-grown old new grown = ap unfolded grown.same ∙ unfolded-with_terms old new.terms grown.before grown.continues

-- an assignment that a run stands for after terms were made it stood for before
pub stood : (old new : Symbolic) (input : List ℕ) → IsGrown old new
    → stands_for new input ≡ true → stands_for old input ≡ true
stood old new input grown stands = sym (stands-grown old new input grown) ∙ stands

-- and the other way
pub still_stands : (old new : Symbolic) (input : List ℕ) → IsGrown old new
    → stands_for old input ≡ true → stands_for new input ≡ true
still_stands old new input grown stands = stands-grown old new input grown ∙ stands

pub IsGrown-trans : (old mid new : Symbolic) → IsGrown old mid → IsGrown mid new → IsGrown old new
IsGrown-trans old mid new first second = record {
  before = first.before;
  same = second.same ∙ ap (λ (s : Symbolic). with_terms s new.terms) first.same;
  continues = Continues-trans first.continues second.continues;
  formed = second.formed;
}
