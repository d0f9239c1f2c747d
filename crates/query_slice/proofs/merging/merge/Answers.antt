use Rattle.std.proofs.Common.{◌∙◌}
use Rattle.query_slice.proofs.Asked.{asserted_bits, bits_there}
use Rattle.query_slice.proofs.Merged.{merged_whole}
use Rattle.query_slice.proofs.merging.merge.Goals as goal

pub cone-requires : goal.cone-requires
cone-requires c =
    bits_there c.dag-2.result.now c.asserted.result.now
    (asserted_bits c.args.query.now.graph c.dag-2.result.now c.args.query.now.asserted c.asserted.result.now c.dag-2.ensures c.asserted.ensures.value c.asserted.ensures.bits)

pub returns : goal.returns
returns c =
    c.from_vec.ensures
    ∙ merged_whole c.args.query.now c.dag.result.now c.dag-2.result.now c.nodes-nodes.result.now c.asserted.result.now c.in_ok-places.places.items c.deref.result.now
    c.as_slice.result.now c.args.sample.now c.as_slice-2.result.now c.args.answer.now c.in_ok-bytes.bytes.items
    c.dag.ensures c.dag-2.ensures c.nodes-nodes.ensures.value c.nodes-nodes.ensures.fit c.asserted.ensures.value c.in_ok-places.ensures c.deref.ensures.value
    c.as_slice.ensures c.as_slice-2.ensures c.in_ok-bytes.ensures
