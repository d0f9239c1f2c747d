use Rattle.std.proofs.Common.{◌≡◌, ◌∙◌, ℕ, List, get_or, sym, subst}
use Rattle.std.specs.List.{All}
use Rattle.bv_dag.specs.BitVectors.{BitVector}
use Rattle.bv_dag.specs.Graphs.{Graph}
use Rattle.bv_dag.specs.Nodes.{values, vector_at}
use Rattle.bv_dag.proofs.TermLaws.{width-val}
use Rattle.fork_spec.specs.Leaves.{AreBytes, IsByteStatus}
use Rattle.fork_spec.specs.declared.end.LeafEnd.{LeafEnd}
use Rattle.fork_spec.specs.declared.end.LeafEnd.TheVariants.{Exits, Traps, Cut}
use Rattle.report_text.specs.Samples.{IsByteEnd}

byte_end_here : (graph : Graph) (input : List ℕ) (end : LeafEnd) → IsByteStatus graph end →
    IsByteEnd (values input graph.nodes) end
byte_end_here graph input (Exits status) h = width-val graph status input ∙ h
byte_end_here graph input (Traps trap) h = h
byte_end_here graph input (Cut cause) h = h

-- a byte among the words ends it, if anything does
pub byte_end : (graph : Graph) (input : List ℕ) (end : LeafEnd) (words : List BitVector) (same : LeafEnd) →
    words ≡ values input graph.nodes → same ≡ end → IsByteStatus graph end → IsByteEnd words same
byte_end graph input end words same e e' h =
    subst (λ (ws : List BitVector). IsByteEnd ws same) (sym e) (subst (λ (k : LeafEnd). IsByteEnd (values input graph.nodes) k) (sym e') (byte_end_here graph input end h))

-- the words of terms of eight bits are bytes
pub byte_words : (graph : Graph) (input : List ℕ) (ids : List ℕ) (words : List BitVector) (same : List ℕ) →
    words ≡ values input graph.nodes → same ≡ ids → AreBytes graph ids →
    All (λ id. (vector_at words id).width ≡ 8) same
byte_words graph input ids words same e e' h =
    subst (λ (ws : List BitVector). All (λ id. (vector_at ws id).width ≡ 8) same) (sym e)
    (subst (λ (ks : List ℕ). All (λ id. (vector_at (values input graph.nodes) id).width ≡ 8) ks) (sym e') (λ k d below. width-val graph (get_or ids k d) input ∙ h k d below))
