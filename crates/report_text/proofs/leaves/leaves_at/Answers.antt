use Rattle.std.proofs.Common.{◌<◌, map, subst, sym}
use Rattle.report_text.specs.Entries.{IsLeafAt}
use Rattle.report_text.specs.declared.leaves.LeafAt.{LeafAt}
use Rattle.report_text.specs.declared.ranking.RankedLeaf.{RankedLeaf}
use Rattle.std.proofs.lemmas.List.{length-map}
use Rattle.report_text.proofs.Ordering.{all_pushed, lead_here, mapped_at_place, mapped_next}
use Rattle.report_text.proofs.leaves.leaves_at.Goals as goal

pub loop-at-preserved : goal.loop-at-preserved
loop-at-preserved g c =
    let here = lead_here g.W.Leaf.HasPart.part c.args.tree.now.story c.args.ranked.now c.loop-at.at-index _ c.requires c.loop-at-test.true in
    record {
      nodes = mapped_next (λ (l : LeafAt). l.node) (map (λ (r : RankedLeaf). r.node) c.args.ranked.now) c.loop-at.at-index c.loop-at.leaves.items c.push.new.self.items _ c.loop-at.invariant.nodes c.in_ok-push.ensures.items
          (subst (λ n. c.loop-at.at-index < n) (sym (length-map c.args.ranked.now (λ (r : RankedLeaf). r.node))) c.loop-at-test.true) (sym (mapped_at_place (λ (r : RankedLeaf). r.node) c.args.ranked.now c.loop-at.at-index _ c.loop-at-test.true));
      each = all_pushed (λ (l : LeafAt). IsLeafAt g.W.Leaf.HasPart.part c.args.tree.now.story l.node l.part.now) c.loop-at.leaves.items c.push.new.self.items _ c.loop-at.invariant.each
          (record { within = here.1.within; is_leaf = here.1.is_leaf; leaf = c.leaf.result.now; held = c.leaf.ensures.content; same = sym c.part.ensures }) c.in_ok-push.ensures.items;
    }
