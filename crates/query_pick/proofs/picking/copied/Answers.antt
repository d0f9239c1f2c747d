use Rattle.std.proofs.Common.{◌+◌, ◌<◌, length, refl, sym, ap, ◌∙◌, subst}
use Rattle.std.proofs.lemmas.List.Elements.{All-get_or}
use Rattle.bv_dag.specs.Graphs.{Graph, IsDag}
use Rattle.bv_dag.proofs.TermLaws.{IsDag-none}
use Rattle.term_trees.specs.Trees.{trees}
use Rattle.query_pick.specs.Cones.{HasOperands}
use Rattle.query_pick.proofs.Copying.{Fits-copied, IsCopied, copied_more, trees_of_none}
use Rattle.query_pick.proofs.picking.copied.Goals as goal

pub loop-id-init : goal.loop-id-init
loop-id-init g c = record {
  inputs = ap (λ (g : Graph). g.inputs) c.in_ok-dag.ensures ∙ c.inputs.ensures;
  dag = subst IsDag (sym c.in_ok-dag.ensures) (IsDag-none c.inputs.result);
  same = ap (λ (g : Graph). trees g.nodes) c.in_ok-dag.ensures ∙ trees_of_none;
}

pub node-requires : goal.node-requires
node-requires g c = All-get_or (λ id. id < length (g.T.Table.graph c.args.terms.now).nodes) c.args.places.now c.loop-id.id-index 0 c.loop-id-test.true c.requires.1.there

pub renumbered-requires-clause-there : goal.renumbered-requires-clause-there
renumbered-requires-clause-there g c =
    All-get_or (HasOperands (g.T.Table.graph c.args.terms.now) c.args.places.now) c.args.places.now c.loop-id.id-index 0 c.loop-id-test.true c.requires.1.operands_in c.node.result c.node.ensures.is

pub push-requires : goal.push-requires
push-requires g c =
    Fits-copied (g.T.Table.graph c.args.terms.now) c.loop-id.dag c.args.places.now c.loop-id.id-index _
    c.renumbered.result c.node.result c.node.ensures.fit c.requires.1.increasing
    c.loop-id-test.true refl c.node.ensures.is c.renumbered.ensures.same c.renumbered.ensures.there
    c.loop-id.invariant

pub loop-id-preserved : goal.loop-id-preserved
loop-id-preserved g c =
    subst (λ (copy : Graph). IsCopied (g.T.Table.graph c.args.terms.now) copy c.args.places.now (c.loop-id.id-index + 1))
    (sym c.in_ok-push.ensures.ok)
    (copied_more (g.T.Table.graph c.args.terms.now) c.loop-id.dag c.args.places.now c.loop-id.id-index _
    c.renumbered.result c.node.result c.node.ensures.fit c.requires.1.increasing
    c.loop-id-test.true refl c.node.ensures.is c.renumbered.ensures.same c.renumbered.ensures.there
    c.loop-id.invariant)
