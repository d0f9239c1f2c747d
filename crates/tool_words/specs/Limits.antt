-- The numbers that options and words say, and their limits.
use Rattle.std.specs.Prelude.{ℕ, Bool, false, List, [], ◌∷◌, ◌==◌, ◌&&◌, ◌≤◌, nat_le, Option, None, Some, if◌then◌else◌, codes, option_and_then}
use Rattle.clap.specs.Words.{Row, first_of}
use Rattle.tool_words.specs.Orders.{default_order, order_found}
use Rattle.tool_words.specs.Region.{digits_number}
use Rattle.tree_core.specs.declared.budgets.Budgets.{Budgets}
use Rattle.tree_core.specs.declared.order.Order.{Order}
use Rattle.tool_words.specs.declared.limit.Limit.{Limit}

abbrev pub steps_limit : Limit
steps_limit = record { most = 1000000; default = 10000 }

abbrev pub targets_limit : Limit
targets_limit = record { most = 64; default = 16 }

abbrev pub conflicts_limit : Limit
conflicts_limit = record { most = 100000; default = 2000 }

abbrev pub nodes_limit : Limit
nodes_limit = record { most = 1000000; default = 1000000 }

abbrev pub workers_limit : Limit
workers_limit = record { most = 64; default = 4 }

-- of `bench`, which always gives a number
abbrev pub numbers_limit : Limit
numbers_limit = record { most = 12; default = 1 }

-- the budgets where no option says another
abbrev pub default_budgets : Budgets
default_budgets = record {
  steps = steps_limit.default;
  targets = targets_limit.default;
  conflicts = conflicts_limit.default;
  nodes = nodes_limit.default;
  order = default_order;
}

-- a zero (48) stands before other digits
abbrev pub has_leading_zero : List ℕ → Bool
has_leading_zero (first ∷ second ∷ rest) = first == 48
has_leading_zero _ = false

-- the number that decimal digits write, with no sign and no leading zero
unfoldable pub plain_number : List ℕ → Option ℕ
plain_number [] = None
plain_number (first ∷ rest) =
    if has_leading_zero (first ∷ rest) then None else digits_number 10 (first ∷ rest)

-- a number from 1 to the most
abbrev pub is_within : Limit → ℕ → Bool
is_within limit n = nat_le 1 n && nat_le n limit.most

abbrev pub within : Limit → ℕ → Option ℕ
within limit n = if is_within limit n then Some n else None

-- the number that a value says, where it is one within the limit
abbrev pub number_within : Limit → List ℕ → Option ℕ
number_within limit value = option_and_then (within limit) (plain_number value)

-- the number of an option with this value, and the default where the option isn't given
abbrev pub number_given : Limit → Option (List ℕ) → Option ℕ
number_given limit None = Some limit.default
number_given limit (Some value) = number_within limit value

-- the number of the option of this name, from what `clap` finds
abbrev pub number_found : Limit → List ℕ → List Row → Option ℕ
number_found limit name rows = number_given limit (first_of name rows)

-- the number of the word of this name, which has a place of its own
abbrev pub number_said : Limit → List ℕ → List Row → Option ℕ
number_said limit name rows = option_and_then (number_within limit) (first_of name rows)

-- where all are there, the budgets of these numbers and this order
abbrev pub budgets_with : Option ℕ → Option ℕ → Option ℕ → Option ℕ → Option Order
    → Option Budgets
budgets_with (Some steps) (Some targets) (Some conflicts) (Some nodes) (Some order) = Some (record {
  steps = steps;
  targets = targets;
  conflicts = conflicts;
  nodes = nodes;
  order = order;
})
budgets_with _ _ _ _ _ = None

-- --steps, --targets, --conflicts, --nodes and --order
abbrev pub budgets_found : List Row → Option Budgets
budgets_found rows = budgets_with (number_found steps_limit (codes "steps") rows)
    (number_found targets_limit (codes "targets") rows)
    (number_found conflicts_limit (codes "conflicts") rows)
    (number_found nodes_limit (codes "nodes") rows) (order_found rows)

-- --workers
abbrev pub workers_found : List Row → Option ℕ
workers_found = number_found workers_limit (codes "workers")

-- a number from 1 to the limit's most
abbrev pub IsWithin : Limit → ℕ → Type 0
IsWithin limit n = (1 ≤ n) × (n ≤ limit.most)

-- the numbers of these budgets are within their limits
pub record IsBudgets (budgets : Budgets) : Type 0 where
  pub steps_within : IsWithin steps_limit budgets.steps
  pub targets_within : IsWithin targets_limit budgets.targets
  pub conflicts_within : IsWithin conflicts_limit budgets.conflicts
  pub nodes_within : IsWithin nodes_limit budgets.nodes
