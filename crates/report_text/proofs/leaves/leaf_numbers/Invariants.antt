use Rattle.std.proofs.Common.{◌≡◌}
use Rattle.tree_core.specs.Stories.{status}
use Rattle.fork_spec.specs.Histories.{is_leaf_status}
use Rattle.report_text.specs.Entries.{numbers_where}
use Rattle.report_text.proofs.leaves.leaf_numbers.Given as goal

abbrev pub invariant-loop-node : goal.invariant-loop-node
invariant-loop-node g l = l.numbers.items ≡ numbers_where (λ m. is_leaf_status (status l.tree.story m)) l.node
