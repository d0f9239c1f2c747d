use Rattle.std.proofs.Common.{◌≡◌, map, take}
use Rattle.std.specs.Prelude.{All}
use Rattle.report_text.specs.Entries.{IsLeafAt}
use Rattle.report_text.proofs.leaves.leaves_at.Given as goal

abbrev pub invariant-loop-at : goal.invariant-loop-at
invariant-loop-at g l = record {
  nodes : map (λ k. k.node) l.leaves.items ≡ take l.at-index (map (λ r. r.node) l.ranked);
  each : All (λ k. IsLeafAt g.W.Leaf.HasPart.part l.tree.story k.node k.part.now) l.leaves.items;
}
