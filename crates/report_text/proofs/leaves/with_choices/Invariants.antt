use Rattle.std.proofs.Common.{◌≡◌, map, take}
use Rattle.std.specs.Prelude.{All}
use Rattle.report_text.specs.Entries.{ChoicesLead}
use Rattle.report_text.proofs.leaves.with_choices.Given as goal

abbrev pub invariant-loop-node : goal.invariant-loop-node
invariant-loop-node g l = record {
  nodes : map (λ r. r.node) l.ranked.items ≡ take l.node-index l.numbers;
  lead : All (ChoicesLead g.W.Leaf.HasPart.part l.tree.story) l.ranked.items;
}
