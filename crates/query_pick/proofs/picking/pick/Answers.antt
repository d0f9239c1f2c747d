use Rattle.std.proofs.Common.{◌≡◌, ◌<◌, length, map, ap, ◌∙◌, arith}
use Rattle.std.proofs.lemmas.List.Elements.{All-weaker}
use Rattle.bv_dag.specs.Graphs.{width_of}
use Rattle.bv_dag.specs.Queries.{Condition}
use Rattle.bv_dag.proofs.TermLaws.{there}
use Rattle.term_trees.specs.Trees.{tree_of}
use Rattle.term_trees.proofs.Conditions.{holds-same_trees}
use Rattle.query_pick.proofs.SameTrees.{AreBits-same_widths}
use Rattle.query_pick.proofs.picking.pick.Goals as goal

pub pick_terms-requires : goal.pick_terms-requires
pick_terms-requires g c =
    All-weaker (λ id. width_of (g.T.Table.graph c.args.terms.now) id ≡ 1) (λ id. id < length (g.T.Table.graph c.args.terms.now).nodes)
    (λ id wide. there (g.T.Table.graph c.args.terms.now) id 1 wide (omega arith)) c.args.conditions.now c.requires

pub new-requires : goal.new-requires
new-requires g c =
    AreBits-same_widths c.in_ok-picked.picked.graph (g.T.Table.graph c.args.terms.now) c.in_ok-picked.picked.ids.items c.args.conditions.now
    c.in_ok-picked.ensures.same_widths c.requires

pub returns-clause-same_meaning : goal.returns-clause-same_meaning
returns-clause-same_meaning g c input =
    holds-same_trees c.new.result (record { graph = (g.T.Table.graph c.args.terms.now); asserted = c.args.conditions.now }) input
    (ap (λ (q : Condition). q.graph.inputs) c.new.ensures ∙ c.in_ok-picked.ensures.inputs)
    (ap (λ (q : Condition). map (tree_of q.graph) q.asserted) c.new.ensures ∙ c.in_ok-picked.ensures.same_trees)
