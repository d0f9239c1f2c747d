-- Events whose walk can be followed by hand.
use Rattle.std.specs.Prelude.{ℕ, List, [], ◌∷◌, Option, Some, None}
use Rattle.tree_core.specs.declared.cause.Cause.{Cause}
use Rattle.tree_core.specs.declared.cause.Cause.TheVariants.{Steps, Targets, Conflicts}
use Rattle.tree_core.specs.declared.choice.Choice.TheVariants.{No, Yes, Value, Rest}
use Rattle.tree_core.specs.declared.event.Deed.{Deed}
use Rattle.tree_core.specs.declared.event.Deed.TheVariants.{Claim, Split, Finish, Cut, Release}
use Rattle.tree_core.specs.declared.node.Status.TheVariants.{Held, Parted, Leaf}
use Rattle.tree_core.specs.declared.order.Order.{Order}
use Rattle.tree_core.specs.declared.order.Order.TheVariants.{Deepest}
use Rattle.fork_spec.specs.Walks.{Bounds, Line, Side, Sides, Standing, rest_side, value_side}

abbrev pub line : (by node : ℕ) → Deed (Option Cause) Sides → Line
line by node deed = record { by = by; node = node; deed = deed }

abbrev pub parts : (first : ℕ) → List Side → Deed (Option Cause) Sides
parts first sides = Split (record { first = first; sides = sides })

-- two workers, budgets of two values and of two nodes, and this order of claims
abbrev pub two_by : Order → Bounds
two_by order = record { workers = 2; targets = 2; nodes = 2; order = order }

abbrev pub two : Bounds
two = two_by Deepest

-- no node may be parted
abbrev pub one_node : Bounds
one_node = record { workers = 2; targets = 2; nodes = 1; order = Deepest }

-- one worker, budgets of two values and of four nodes, and this order of claims
abbrev pub four_by : Order → Bounds
four_by order = record { workers = 1; targets = 2; nodes = 4; order = order }

-- a branch of whose sides the second is cut by conflicts; the first is released, claimed again and finished
abbrev pub branch_lines : List Line
branch_lines =
    line 0 0 Claim
    ∷ line 0 0 (parts 1 (record { choice = No; cut = None }
    ∷ record { choice = Yes; cut = Some Conflicts } ∷ []))
    ∷ line 1 1 Claim
    ∷ line 1 1 Release
    ∷ line 0 1 Claim
    ∷ line 0 1 (Finish None)
    ∷ []

abbrev pub branch_nodes : List Standing
branch_nodes =
    record { choices = []; status = Parted; cut = None }
    ∷ record { choices = No ∷ []; status = Leaf; cut = None }
    ∷ record { choices = Yes ∷ []; status = Leaf; cut = Some Conflicts }
    ∷ []

-- there are three nodes behind the branch: its first side is cut
abbrev pub branch_then_cut : Cause → List Line
branch_then_cut cause =
    line 0 0 Claim
    ∷ line 0 0 (parts 1 (record { choice = No; cut = None }
    ∷ record { choice = Yes; cut = Some Conflicts } ∷ []))
    ∷ line 1 1 Claim
    ∷ line 1 1 (Cut (Some cause))
    ∷ []

-- two values and the rest; the first is cut by steps, the second is claimed
abbrev pub value_lines : List Line
value_lines =
    line 0 0 Claim
    ∷ line 0 0 (parts 1 (value_side 7 ∷ value_side 9 ∷ rest_side (Some Targets) ∷ []))
    ∷ line 0 1 Claim
    ∷ line 0 1 (Cut (Some Steps))
    ∷ line 0 2 Claim
    ∷ []

abbrev pub value_nodes : List Standing
value_nodes =
    record { choices = []; status = Parted; cut = None }
    ∷ record { choices = Value 7 ∷ []; status = Leaf; cut = Some Steps }
    ∷ record { choices = Value 9 ∷ []; status = Held 0; cut = None }
    ∷ record { choices = Rest ∷ []; status = Leaf; cut = Some Targets }
    ∷ []

-- of two values the first is parted into two more: nodes 2, 3 and 4 are free; then this node is claimed
abbrev pub then_claims : ℕ → List Line
then_claims node =
    line 0 0 Claim
    ∷ line 0 0 (parts 1 (value_side 7 ∷ value_side 9 ∷ []))
    ∷ line 0 1 Claim
    ∷ line 0 1 (parts 3 (value_side 4 ∷ value_side 5 ∷ []))
    ∷ line 0 node Claim
    ∷ []

-- the root is claimed, and then this is done
abbrev pub claimed_and : (by : ℕ) → Deed (Option Cause) Sides → List Line
claimed_and by deed = line 0 0 Claim ∷ line by 0 deed ∷ []
