use Rattle.std.proofs.Common.{◌∙◌, refl, ap}
use Rattle.fork_spec.specs.Parts.{Part}
use Rattle.report_text.specs.Entries.{ChoicesLead}
use Rattle.report_text.specs.declared.ranking.RankedLeaf.{RankedLeaf}
use Rattle.report_text.proofs.Ordering.{all_pushed, leaf_here, mapped_next}
use Rattle.report_text.proofs.leaves.with_choices.Goals as goal

pub leaf-requires-clause-there : goal.leaf-requires-clause-there
leaf-requires-clause-there g c = (leaf_here c.args.tree.now.story c.args.numbers.now c.loop-node.node-index c.requires c.loop-node-test.true).0

pub leaf-requires-clause-leaf : goal.leaf-requires-clause-leaf
leaf-requires-clause-leaf g c = (leaf_here c.args.tree.now.story c.args.numbers.now c.loop-node.node-index c.requires c.loop-node-test.true).1

pub loop-node-preserved : goal.loop-node-preserved
loop-node-preserved g c =
    let here = leaf_here c.args.tree.now.story c.args.numbers.now c.loop-node.node-index c.requires c.loop-node-test.true in
    record {
      nodes = mapped_next (λ (r : RankedLeaf). r.node) c.args.numbers.now c.loop-node.node-index c.loop-node.ranked.items c.push.new.self.items _ c.loop-node.invariant.nodes c.in_ok-push.ensures.items c.loop-node-test.true refl;
      lead = all_pushed (ChoicesLead g.W.Leaf.HasPart.part c.args.tree.now.story) c.loop-node.ranked.items c.push.new.self.items _ c.loop-node.invariant.lead (record {
        part = g.W.Leaf.HasPart.part c.leaf.result.now;
        at = record { within = here.0; is_leaf = here.1; leaf = c.leaf.result.now; held = c.leaf.ensures.content; same = refl };
        same = c.choices.ensures.value ∙ ap (λ (p : Part). p.leaf.choices) c.part.ensures;
      }) c.in_ok-push.ensures.items;
    }
