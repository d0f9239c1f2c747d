-- What stays where terms are added, and what is made of terms that were made before.
use Rattle.std.proofs.Common.{◌≡◌, ℕ, ◌<◌, List, length, refl, ap, ◌∙◌, arith}
use Rattle.std.proofs.lemmas.List.{take-take, length-take}
use Rattle.std.specs.Prelude.{◌==◌, All, Result, Ok, Err, IfOk}
use Rattle.bv_dag.specs.BitVectors.{BitVector}
use Rattle.bv_dag.specs.Graphs.{Graph, number_of, width_of}
use Rattle.bv_dag.proofs.TermLaws.{there}
use Rattle.cow_pages.specs.SymbolicMemory.{SymbolicMemory, memory_byte}
use Rattle.cow_pages.specs.declared.byte.Byte.{Byte}
use Rattle.cow_pages.specs.declared.byte.Byte.TheVariants.{Number as ByteNumber, Term as ByteTerm}
use Rattle.term_simplify.specs.Builds.{Builds}
use Rattle.term_simplify.specs.Plain.{tree_number}
use Rattle.term_trees.specs.Growth.{Continues}
use Rattle.term_trees.specs.Trees.{Tree}
use Rattle.term_trees.proofs.TreeLaws.{tree-grown, value-grown, width-grown}
use Rattle.sym_state.specs.Placing.{HasBytes}
use Rattle.sym_state.specs.Values.{GivesTerm, IsBit, IsByte, IsUnknown, IsWide, bit_worth, byte_worth, worth_of}
use Rattle.sym_state.specs.declared.value.Bit.{Bit}
use Rattle.sym_state.specs.declared.value.Bit.TheVariants.{Known, Term as BitTerm}
use Rattle.sym_state.specs.declared.value.Value.{Value}
use Rattle.sym_state.specs.declared.value.Value.TheVariants.{Number, Term}

pub Continues-trans : {f g h : Graph} → Continues f g → Continues g h → Continues f h
Continues-trans {f} {g} {h} first second = record {
  inputs = second.inputs ∙ first.inputs;
  front =
      let fewer = ap length first.front in
      let shorter = length-take (length f.nodes) g.nodes in
      cc (take-take (length f.nodes) (length g.nodes) h.nodes (omega (arith, fewer, shorter)), second.front, first.front);
}

pub number-grown : (g h : Graph) (id w : ℕ) (input : List ℕ) → Continues g h → width_of g id ≡ w → 0 < w
    → number_of h id input ≡ number_of g id input
number-grown g h id w input grown width some =
    ap (λ (x : BitVector). x.number) (value-grown g h id input grown (there g id w width some))

pub width-kept : (g h : Graph) (id w : ℕ) → Continues g h → width_of g id ≡ w → 0 < w → width_of h id ≡ w
width-kept g h id w grown width some = width-grown g h id grown (there g id w width some) ∙ width

pub IsUnknown-grown : (g h : Graph) (w id : ℕ) → Continues g h → 0 < w → IsUnknown g w id → IsUnknown h w id
IsUnknown-grown g h w id grown some is = record {
  width = width-kept g h id w grown is.width some;
  no_number = ap tree_number (tree-grown g h id grown (there g id w is.width some)) ∙ is.no_number;
}

pub worth-grown : (g h : Graph) (input : List ℕ) (v : Value) → Continues g h → IsWide g v
    → worth_of h input v ≡ worth_of g input v
worth-grown g h input (Number n) grown wide = refl
worth-grown g h input (Term id) grown wide = number-grown g h id 32 input grown wide.width (omega arith)

pub IsWide-grown : (g h : Graph) (v : Value) → Continues g h → IsWide g v → IsWide h v
IsWide-grown g h (Number n) grown wide = wide
IsWide-grown g h (Term id) grown wide = IsUnknown-grown g h 32 id grown (omega arith) wide

pub byte_worth-grown : (g h : Graph) (input : List ℕ) (b : Byte) → Continues g h → IsByte g b
    → byte_worth h input b ≡ byte_worth g input b
byte_worth-grown g h input (ByteNumber n) grown is = refl
byte_worth-grown g h input (ByteTerm id) grown is = number-grown g h id 8 input grown is.width (omega arith)

pub IsByte-grown : (g h : Graph) (b : Byte) → Continues g h → IsByte g b → IsByte h b
IsByte-grown g h (ByteNumber n) grown is = is
IsByte-grown g h (ByteTerm id) grown is = IsUnknown-grown g h 8 id grown (omega arith) is

pub memory-grown : (g h : Graph) (memory : SymbolicMemory) → Continues g h → HasBytes g memory → HasBytes h memory
memory-grown g h memory grown has address = IsByte-grown g h (memory_byte memory address) grown (has address)

pub IsBit-grown : (g h : Graph) (b : Bit) → Continues g h → IsBit g b → IsBit h b
IsBit-grown g h (Known b) grown is = tt
IsBit-grown g h (BitTerm id) grown is = IsUnknown-grown g h 1 id grown (omega arith) is

pub bit_worth-grown : (g h : Graph) (input : List ℕ) (b : Bit) → Continues g h → IsBit g b
    → bit_worth h input b ≡ bit_worth g input b
bit_worth-grown g h input (Known b) grown is = refl
bit_worth-grown g h input (BitTerm id) grown is =
    ap (λ n. n == 1) (number-grown g h id 1 input grown is.width (omega arith))

-- what a call of the builder gives, where the terms have grown before
pub builds_gives : {E : Type 0} {f h : Graph} (k : Graph) (r : Result ℕ E) (t : Tree) (w : ℕ)
    (word : List ℕ → BitVector) (number : List ℕ → ℕ) → Continues f h
    → ((input : List ℕ) → All (λ b. b < 256) input → (word input).number ≡ number input)
    → IfOk r (λ id. Builds h k id t w word) → IfOk r (λ id. GivesTerm f k w id number)
builds_gives k (Err e) t w word number grown same builds = tt
builds_gives k (Ok id) t w word number grown same builds = record {
  continues = Continues-trans grown builds.continues;
  width = builds.width;
  worth = λ input bytes. ap (λ (x : BitVector). x.number) (builds.value input bytes) ∙ same input bytes;
}

-- a term that was made stays what it is
pub given-grown : {f g h : Graph} {w id : ℕ} {number : List ℕ → ℕ} → 0 < w → GivesTerm f g w id number
    → Continues g h → (input : List ℕ) → All (λ b. b < 256) input → number_of h id input ≡ number input
given-grown {f} {g} {h} {w} {id} some gives grown input bytes =
    number-grown g h id w input grown gives.width some ∙ gives.worth input bytes

-- one made after it is worth what it was before
pub later-value : {f g h : Graph} {id : ℕ} (v : Value) → Continues f g → IsWide f v
    → GivesTerm g h 32 id (λ input. worth_of g input v) → (input : List ℕ) → All (λ b. b < 256) input
    → number_of h id input ≡ worth_of f input v
later-value {f} {g} v grown wide gives input bytes = gives.worth input bytes ∙ worth-grown f g input v grown wide

pub later-byte : {f g h : Graph} {id : ℕ} (b : Byte) → Continues f g → IsByte f b
    → GivesTerm g h 8 id (λ input. byte_worth g input b) → (input : List ℕ) → All (λ b. b < 256) input
    → number_of h id input ≡ byte_worth f input b
later-byte {f} {g} b grown is gives input bytes = gives.worth input bytes ∙ byte_worth-grown f g input b grown is
