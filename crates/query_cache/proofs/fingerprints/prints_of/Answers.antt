use Rattle.std.proofs.Common.{◌≡◌, ◌<◌, arith, get_or, length, map, ap, ◌∙◌}
use Rattle.std.proofs.lemmas.List.{get_or_default, length-map}
use Rattle.bv_dag.specs.Graphs.{Graph}
use Rattle.term_trees.specs.Trees.{trees}
use Rattle.term_trees.proofs.TreeLaws.{length-trees}
use Rattle.query_cache.specs.Fingerprints.{tree_print}
use Rattle.query_cache.proofs.Prints.{asserted_more, bit_there}
use Rattle.query_cache.proofs.fingerprints.prints_of.Goals as goal

pub index-requires : goal.index-requires
index-requires c =
    let g = c.args.query.now.graph in
    let all : c.in_ok-all.all.items ≡ map tree_print (trees g.nodes) = c.in_ok-all.ensures ∙ ap (λ (h : Graph). map tree_print (trees h.nodes)) c.dag.ensures in
    let there : get_or c.asserted-id-items.result.now c.loop-id.id-index 0 < length g.nodes =
    rw c.asserted-id-items.ensures.value (bit_there g c.args.query.now.asserted c.loop-id.id-index c.asserted-id-items.ensures.bits (rw c.asserted-id-items.ensures.value at c.loop-id-test.true)) in
    omega (arith, there, ap length all, length-map (trees g.nodes) tree_print, length-trees g.nodes)

pub loop-id-preserved : goal.loop-id-preserved
loop-id-preserved c =
    let q = c.args.query.now in
    let all : c.in_ok-all.all.items ≡ map tree_print (trees q.graph.nodes) = c.in_ok-all.ensures ∙ ap (λ (g : Graph). map tree_print (trees g.nodes)) c.dag.ensures in
    let within : c.loop-id.id-index < length q.asserted = rw c.asserted-id-items.ensures.value at c.loop-id-test.true in
    let id = get_or c.asserted-id-items.result.now c.loop-id.id-index 0 in
    let asserted : id < length q.graph.nodes = rw c.asserted-id-items.ensures.value (bit_there q.graph q.asserted c.loop-id.id-index c.asserted-id-items.ensures.bits within) in
    let there : id < length c.in_ok-all.all.items =
    omega (arith, asserted, ap length all, length-map (trees q.graph.nodes) tree_print, length-trees q.graph.nodes) in
    let value : c.index.result.now ≡ get_or c.in_ok-all.all.items id 0 =
    c.index.ensures ∙ get_or_default c.in_ok-all.all.items id c.index.result.now 0 there in
    rw (c.in_ok-push.ensures.items, value, c.asserted-id-items.ensures.value)
    (asserted_more q.graph q.asserted c.loop-id.prints.items c.in_ok-all.all.items c.loop-id.id-index within all
    (bit_there q.graph q.asserted c.loop-id.id-index c.asserted-id-items.ensures.bits within) c.loop-id.invariant)
