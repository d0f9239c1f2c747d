-- What values are made of, as expressions.
use Rattle.std.proofs.Common.{◌≡◌, ℕ, ◌<◌, List, refl, sym, ap, ◌∙◌, arith}
use Rattle.std.proofs.Math.Path.{fun_ext}
use Rattle.std.specs.Prelude.{Some, Result, Ok, Err, IfOk, slice_get}
use Rattle.bv_dag.specs.BitVectors.{BitVector}
use Rattle.bv_dag.specs.Graphs.{Graph, IsDag, width_of}
use Rattle.bv_dag.specs.declared.nodes.Node.TheVariants.{Num}
use Rattle.bv_dag.proofs.TermLaws.{there}
use Rattle.cow_pages.specs.SymbolicMemory.{SymbolicMemory, memory_byte}
use Rattle.cow_pages.specs.declared.byte.Byte.{Byte}
use Rattle.cow_pages.specs.declared.byte.Byte.TheVariants.{Number as ByteNumber, Term as ByteTerm}
use Rattle.term_simplify.specs.Builds.{Builds}
use Rattle.term_trees.specs.Growth.{Continues}
use Rattle.term_trees.specs.Trees.{Tree, tree_of}
use Rattle.term_trees.proofs.TreeLaws.{tree_by_cases, tree-grown}
use Rattle.sym_state.specs.Expressions.{Number, Unknown, bit_expression, byte_expression, settled, settled_by, value_expression}
use Rattle.sym_state.specs.Placing.{HasBytes, bytes_expressed}
use Rattle.sym_state.specs.Values.{IsBit, IsByte, IsUnknown, IsWide}
use Rattle.sym_state.specs.declared.value.Bit.{Bit}
use Rattle.sym_state.specs.declared.value.Bit.TheVariants.{Known, Term as BitTerm}
use Rattle.sym_state.specs.declared.value.Value.{Value}
use Rattle.sym_state.specs.declared.value.Value.TheVariants.{Number as ValueNumber, Term as ValueTerm}

-- ---- More terms change no expression.
pub tree-kept : (g h : Graph) (id w : ℕ) → Continues g h → width_of g id ≡ w → 0 < w → tree_of h id ≡ tree_of g id
tree-kept g h id w grown width some = tree-grown g h id grown (there g id w width some)

pub expression-grown : (g h : Graph) (v : Value) → Continues g h → IsWide g v → value_expression h v ≡ value_expression g v
expression-grown g h (ValueNumber n) grown wide = refl
expression-grown g h (ValueTerm id) grown wide = ap (λ t. Unknown t) (tree-kept g h id 32 grown wide.width (omega arith))

pub byte_expression-grown : (g h : Graph) (b : Byte) → Continues g h → IsByte g b → byte_expression h b ≡ byte_expression g b
byte_expression-grown g h (ByteNumber n) grown is = refl
byte_expression-grown g h (ByteTerm id) grown is = ap (λ t. Unknown t) (tree-kept g h id 8 grown is.width (omega arith))

pub bit_expression-grown : (g h : Graph) (b : Bit) → Continues g h → IsBit g b → bit_expression h b ≡ bit_expression g b
bit_expression-grown g h (Known b) grown is = refl
bit_expression-grown g h (BitTerm id) grown is = ap (λ t. Unknown t) (tree-kept g h id 1 grown is.width (omega arith))

pub bytes_expressed-grown : (g h : Graph) (memory : SymbolicMemory) → Continues g h → HasBytes g memory
    → bytes_expressed h memory ≡ bytes_expressed g memory
bytes_expressed-grown g h memory grown has =
    fun_ext (λ address. byte_expression-grown g h (memory_byte memory address) grown (has address))

-- ---- What a node is.
pub settled_number : (g : Graph) (id w v : ℕ) → IsDag g → slice_get g.nodes id ≡ Some (Num w v) → Number v ≡ settled (tree_of g id)
settled_number g id w v dag is = sym (ap settled (tree_by_cases g id (Num w v) dag is))

pub settled_unknown : (g : Graph) (w id : ℕ) → IsUnknown g w id → Unknown (tree_of g id) ≡ settled (tree_of g id)
settled_unknown g w id is = sym (ap (λ o. settled_by o (tree_of g id)) is.no_number)

-- ---- What a call of the builder makes, in other words.
pub builds_tree : {E : Type 0} (g h : Graph) (r : Result ℕ E) (t u : Tree) (w : ℕ) (word : List ℕ → BitVector) → t ≡ u
    → IfOk r (λ id. Builds g h id t w word) → IfOk r (λ id. tree_of h id ≡ u)
builds_tree g h (Err e) t u w word same builds = tt
builds_tree g h (Ok id) t u w word same builds = builds.tree ∙ same
