use Rattle.std.proofs.Common.{◌<◌, ℕ, List, length, get_or, take, sym, ap, subst, ◌∙◌, arith}
use Rattle.std.proofs.lemmas.List.{take_all}
use Rattle.std.proofs.lemmas.List.Elements.{All-get_or}
use Rattle.bv_dag.specs.Nodes.{Fits, widths_of}
use Rattle.query_slice.specs.Merging.{merged, own_inputs}
use Rattle.query_slice.proofs.Merged.{length-merged, merged_none, own_more}
use Rattle.query_slice.proofs.merging.merged_over.Goals as goal

pub loop-id-init : goal.loop-id-init
loop-id-init c = c.in_ok-bytes.ensures.items ∙ merged_none c.args.sample.now c.args.answer.now

pub node_at-requires : goal.node_at-requires
node_at-requires c = All-get_or (λ id. id < length c.args.nodes.now) c.args.places.now c.loop-id.id-index 0 c.loop-id-test.true c.requires.there

pub take_byte-requires-clause-as_long : goal.take_byte-requires-clause-as_long
take_byte-requires-clause-as_long c = ap length c.loop-id.invariant ∙ length-merged _ c.args.sample.now c.args.answer.now ∙ sym c.requires.as_long

pub take_byte-requires-clause-there : goal.take_byte-requires-clause-there
take_byte-requires-clause-there c =
    λ place is.
    let id : ℕ = get_or c.args.places.now c.loop-id.id-index 0 in
    let there : place < length c.args.sample.now = subst (Fits (length c.args.sample.now) (widths_of (take id c.args.nodes.now))) is (c.requires.all_fit id c.node_at.result c.node_at.ensures) in
    omega (arith, there, c.requires.as_long)

pub loop-id-preserved : goal.loop-id-preserved
loop-id-preserved c =
    c.take_byte.ensures (own_inputs c.args.nodes.now (take c.loop-id.id-index c.args.places.now)) c.args.sample.now (sym c.requires.as_long) c.loop-id.invariant
    ∙ ap (λ (us : List ℕ). merged us c.args.sample.now c.args.answer.now) (sym (own_more c.args.nodes.now c.args.places.now c.loop-id.id-index c.node_at.result c.loop-id-test.true c.node_at.ensures))

pub returns : goal.returns
returns c =
    c.loop-id.invariant
    ∙ ap (λ (ps : List ℕ). merged (own_inputs c.args.nodes.now ps) c.args.sample.now c.args.answer.now) (take_all c.loop-id.id-index c.args.places.now (omega (arith, c.loop-id-test.false)))
