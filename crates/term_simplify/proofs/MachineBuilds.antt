-- The answers of the machine's calls, from the terms on the way.
use Rattle.std.proofs.Common.{◌≡◌, ℕ, Bool, List, sym, subst, ◌∙◌}
use Rattle.std.specs.Prelude.{Result, Ok, Err}
use Rattle.std.specs.Result.{IfOk, OnOk}
use Rattle.bv_dag.specs.BitVectors.{BitVector}
use Rattle.bv_dag.specs.Graphs.{Graph, val, width_of, number_of}
use Rattle.bv_dag.proofs.TermLaws.{width-val}
use Rattle.rv_decode.specs.declared.ops.RegisterOp.{RegisterOp}
use Rattle.rv_spec.specs.Arithmetic.{combined}
use Rattle.term_trees.specs.Growth.{Continues}
use Rattle.term_trees.specs.Trees.{Tree, tree_of, IsTerm, IsOfWidth}
use Rattle.term_simplify.specs.Builds.{Builds}
use Rattle.term_simplify.specs.Machine.{BuildsCombined}
use Rattle.term_simplify.specs.Steps.{Stands, StandsCombined, upper_word}
use Rattle.term_simplify.proofs.Stepping.{Stands-worth, of_32}

-- a term that stands in a graph that goes on is an answer
as_answer : {g h : Graph} {id : ℕ} {t : Tree} {w : ℕ} {F : List ℕ → BitVector} → Continues g h →
    Stands h id t w F → Builds g h id t w F
as_answer grown s = record { continues = grown; there = s.there; tree = s.tree; width = s.width; value = s.value }

settled_on : {E : Type 0} (g h k : Graph) (q : Result ℕ E) (F : List ℕ → BitVector) (t : Tree) →
    Continues g h → OnOk q (k ≡ h) → IfOk q (λ id. Stands h id t 32 F) →
    IfOk q (λ id. Builds g k id t 32 F)
settled_on g h k (Ok id) F t grown e s = subst (λ (j : Graph). Builds g j id t 32 F) (sym e) (as_answer grown s)
settled_on g h k (Err x) F t grown e s = tt

-- where no answer is taken away, the terms are as they were
pub settled_builds : {E : Type 0} (g h k : Graph) (r q : Result ℕ E) (op : RegisterOp) (a b : ℕ) (t : Tree) →
    Continues g h → q ≡ r → OnOk q (k ≡ h) → IfOk r (StandsCombined g h op a b t) →
    IfOk q (BuildsCombined g k op a b t)
settled_builds g h k r q op a b t grown same e s =
    settled_on g h k q (λ input. record { width = 32; number = combined op (number_of g a input) (number_of g b input) }) t grown e
    (subst (λ x. IfOk x (StandsCombined g h op a b t)) (sym same) s)

-- the same value in other words
pub Builds-worth : {g h : Graph} {id w v : ℕ} {t : Tree} {F G : List ℕ → BitVector} → w ≡ v →
    ((input : List ℕ) → F input ≡ G input) → Builds g h id t w F → Builds g h id t v G
Builds-worth e same n = record {
  continues = n.continues;
  there = n.there;
  tree = n.tree;
  width = n.width ∙ e;
  value = λ input bytes. n.value input bytes ∙ same input;
}

-- what an instruction computes of two registers, by the same of two bit-vectors
pub register_builds : {g h : Graph} {id w : ℕ} {t : Tree} (op : RegisterOp) (a b : ℕ)
    (f : BitVector → BitVector → BitVector) →
    ((x y : BitVector) → x.width ≡ 32 → y.width ≡ 32 →
    f x y ≡ record { width = 32; number = combined op x.number y.number }) →
    width_of g a ≡ 32 → width_of g b ≡ 32 → w ≡ 32 →
    Builds g h id t w (λ input. f (val g a input) (val g b input)) →
    BuildsCombined g h op a b t id
register_builds {g = g} op a b f law first second e n =
    Builds-worth e (λ input. law (val g a input) (val g b input) (width-val g a input ∙ first)
    (width-val g b input ∙ second)) n

-- an upper half, as the machine has it
pub upper_combined : {E : Type 0} (g h : Graph) (a b : ℕ) (r : Result ℕ E) (op : RegisterOp) (first second : Bool) (t : Tree) →
    ((x y : BitVector) → IsOfWidth 32 x → IsOfWidth 32 y → upper_word first second x y ≡ record
    { width = 32; number = combined op x.number y.number }) →
    width_of g a ≡ 32 → width_of g b ≡ 32 → OnOk r (IsTerm g.inputs (tree_of g a)) →
    OnOk r (IsTerm g.inputs (tree_of g b)) →
    IfOk r (λ id. Stands h id t 32 (λ input. upper_word first second (val g a input) (val g b input))) →
    IfOk r (StandsCombined g h op a b t)
upper_combined g h a b (Ok id) op first second t law wide wide' p q s =
    Stands-worth (λ input bytes. law (val g a input) (val g b input) (of_32 g a input bytes p wide)
    (of_32 g b input bytes q wide')) s
upper_combined g h a b (Err x) op first second t law wide wide' p q s = tt
