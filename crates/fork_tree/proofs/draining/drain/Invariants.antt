use Rattle.std.proofs.Common.{◌≡◌, ℕ}
use Rattle.tree_core.specs.Cores.{held_count}
use Rattle.fork_spec.specs.Histories.{releases_by}
use Rattle.fork_tree.specs.Drains.{GrowsBy, fuel}
use Rattle.fork_tree.proofs.draining.drain.Given as goal

abbrev pub invariant-loop : goal.invariant-loop
invariant-loop g l = record {
  worker : l.tree.worker ≡ l.fn.tree.worker;
  none_held : held_count l.tree.story ≡ 0;
  grows : GrowsBy l.by l.fn.tree.story l.tree.story;
  none_given_up : (k : ℕ) → releases_by k l.tree.story.events ≡ releases_by k l.fn.tree.story.events;
}

-- what the free nodes weigh
abbrev pub decreases-loop : goal.decreases-loop
decreases-loop g l = fuel (g.W.Work.rules l.tree.worker) l.tree.story
