use Rattle.std.proofs.Common.{◌≡◌, ◌∙◌, List, ap, ℕ}
use Rattle.bv_dag.specs.Graphs.{Graph}
use Rattle.bv_dag.specs.Nodes.{values}
use Rattle.bv_dag.specs.Queries.{Condition}
use Rattle.report_text.proofs.SampleWords.{byte_end, byte_words}
use Rattle.report_text.proofs.sample_test.make_test.Goals as goal

pub end_among-requires : goal.end_among-requires
end_among-requires c =
    let leaf = c.args.part.now.leaf in
    let sample = c.args.sample.now in
    let words : c.in_ok-words.words.items ≡ values sample leaf.condition.graph.nodes =
    c.in_ok-words.ensures
    ∙ ap (λ (input : List ℕ). values input c.dag.result.now.nodes) c.as_slice.ensures
    ∙ ap (λ (g : Graph). values sample g.nodes) (c.dag.ensures ∙ ap (λ (q : Condition). q.graph) c.condition.ensures.value) in
    byte_end leaf.condition.graph sample leaf.end _ _ (c.deref.ensures.value ∙ words) c.end.ensures.value c.end.ensures.full.status

pub bytes_at-requires : goal.bytes_at-requires
bytes_at-requires c =
    let leaf = c.args.part.now.leaf in
    let sample = c.args.sample.now in
    let words : c.in_ok-words.words.items ≡ values sample leaf.condition.graph.nodes =
    c.in_ok-words.ensures
    ∙ ap (λ (input : List ℕ). values input c.dag.result.now.nodes) c.as_slice.ensures
    ∙ ap (λ (g : Graph). values sample g.nodes) (c.dag.ensures ∙ ap (λ (q : Condition). q.graph) c.condition.ensures.value) in
    byte_words leaf.condition.graph sample leaf.outputs _ _ (c.deref-2.ensures.value ∙ words) c.outputs.ensures.value c.outputs.ensures.full.bytes
