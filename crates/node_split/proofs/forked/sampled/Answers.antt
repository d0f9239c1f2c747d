use Rattle.std.proofs.Common.{List, get_or, length, ap, ◌∙◌, arith}
use Rattle.std.proofs.lemmas.List.{get_or_default}
use Rattle.bv_dag.specs.BitVectors.{BitVector}
use Rattle.bv_dag.specs.Graphs.{Graph, val, width_of}
use Rattle.bv_dag.specs.Nodes.{values}
use Rattle.bv_dag.proofs.Fitting.{length-values}
use Rattle.node_split.proofs.Sampling.{first_copied, first_within}
use Rattle.node_split.proofs.forked.sampled.Goals as goal

pub index-requires-2 : goal.index-requires-2
index-requires-2 c =
    let g = c.in_ok-picked.picked.graph in
    let ids = c.in_ok-picked.picked.ids.items in
    let there = c.in_ok-picked.ensures.there 0 c.index.result.now (first_within (width_of g) (width_of c.terms.result.now) c.args.term ids c.in_ok-picked.ensures.same_widths) in
    omega (arith, there, c.index.ensures, c.in_ok-words.words.ok.0, ap (λ (ws : List BitVector). length ws) c.in_ok-words.ensures, length-values c.as_slice.result.now g.nodes)

pub returns : goal.returns
returns c =
    let g = c.in_ok-picked.picked.graph in
    let ids = c.in_ok-picked.picked.ids.items in
    let s = c.as_slice.result.now in
    let s_is = c.as_slice.ensures ∙ c.sample.ensures.value in
    let there = c.in_ok-picked.ensures.there 0 c.index.result.now (first_within (width_of g) (width_of c.terms.result.now) c.args.term ids c.in_ok-picked.ensures.same_widths) in
    c.index-2.ensures ∙ ap (λ (ws : List BitVector). get_or ws c.index.result.now c.index-2.result.now) c.in_ok-words.ensures
    ∙ get_or_default (values s g.nodes) c.index.result.now c.index-2.result.now (record { width = 0; number = 0 }) (omega (arith, there, c.index.ensures, length-values s g.nodes))
    ∙ ap (λ k. val g k s) c.index.ensures
    ∙ first_copied c.terms.result.now g c.args.term c.index.result.now ids s (c.in_ok-picked.ensures.same_values s)
    ∙ ap (val c.terms.result.now c.args.term) s_is
    ∙ ap (λ (h : Graph). val h c.args.term c.args.state.now.sample) c.terms.ensures.value
