-- The budgets of a certificate, and how large they may be.
use Rattle.std.specs.Prelude.{◌≤◌}
use Rattle.cert_form.specs.declared.cert.Limits.{Limits}
use Rattle.tree_core.specs.declared.budgets.Budgets.{Budgets}
use Rattle.tree_core.specs.declared.order.Order.TheVariants.{Deepest}

-- the budgets of a certificate; the order of claims is of no matter here
abbrev pub budgets_of : Limits → Budgets
budgets_of limits = record {
  steps = limits.steps;
  targets = limits.targets;
  conflicts = limits.conflicts;
  nodes = limits.nodes;
  order = Deepest;
}

-- each budget is from 1 to its most
pub record AreWithin (limits : Limits) : Type 0 where
  pub some_steps : 1 ≤ limits.steps
  pub few_steps : limits.steps ≤ 1000000
  pub some_targets : 1 ≤ limits.targets
  pub few_targets : limits.targets ≤ 64
  pub some_conflicts : 1 ≤ limits.conflicts
  pub few_conflicts : limits.conflicts ≤ 100000
  pub some_nodes : 1 ≤ limits.nodes
  pub few_nodes : limits.nodes ≤ 1000000
