-- The nodes of a story as an order of claims sees them, and the one that it names.
use Rattle.std.specs.Prelude.{◌≡◌, ℕ, ◌≤◌, IsTrue, not, List, Option, Some, length, map, slice_get}
use Rattle.std.specs.Global.{Vec}
use Rattle.tree_core.specs.Orders.{Candidate, is_named}
use Rattle.tree_core.specs.Stories.{Story}
use Rattle.tree_core.specs.declared.cause.Cause.{Cause}
use Rattle.tree_core.specs.declared.choice.Choice.{Choice}
use Rattle.tree_core.specs.declared.event.Deed.{Deed}
use Rattle.tree_core.specs.declared.event.Deed.TheVariants.{Claim}
use Rattle.tree_core.specs.declared.event.Kid.{Kid}
use Rattle.tree_core.specs.declared.order.Order.{Order}
use Rattle.fork_spec.specs.Walks.{Standing, candidate}
use Rattle.fork_tree.specs.declared.tree.Claim.{Claim as Answer}
use Rattle.fork_tree.specs.declared.tree.Claim.TheVariants.{Claimed}
use Rattle.fork_tree.specs.Written.{AreNodesOf}

-- each node of the story, by how many choices lead to it and whether it is free
pub record AreCandidates {R : Type 0} (choices : R → List Choice) (cut : R → Option Cause)
    (s : Story R) (all : List Candidate) : Type 0 where
  pub nodes : List Standing
  pub same : AreNodesOf choices cut s nodes
  pub seen : all ≡ map candidate nodes

-- no more choices lead to a node than there are nodes before it
abbrev pub AreShallow : List Candidate → Type 0
AreShallow all = (m : ℕ) (c : Candidate) → slice_get all m ≡ Some c → c.depth ≤ m

-- the order names this node of the story for the next claim
pub record IsNamed {R : Type 0} (choices : R → List Choice) (cut : R → Option Cause)
    (order : Order) (s : Story R) (node : ℕ) : Type 0 where
  pub all : List Candidate
  pub are : AreCandidates choices cut s all
  pub named : IsTrue (is_named order (length s.events) all node)

-- a claim is of the node that the order names
abbrev pub IsInTurn : {R : Type 0} → (choices : R → List Choice) → (cut : R → Option Cause)
    → Order → Story R → ℕ → Deed R (Vec (Kid R)) → Type 0
IsInTurn choices cut order s node Claim = IsNamed choices cut order s node
IsInTurn choices cut order s node _ = Unit {0}

-- a kid, as an order of claims sees it, behind so many choices
abbrev pub kid_candidate : {R : Type 0} → (depth : ℕ) → Kid R → Candidate
kid_candidate depth kid = record { depth = depth; is_free = not kid.is_leaf }

-- what a claim got, if a node, is the one that the order names
abbrev pub IsNext : {S R : Type 0} → (choices : R → List Choice) → (cut : R → Option Cause)
    → Order → Story R → Answer S → Type 0
IsNext choices cut order s (Claimed m a) = IsNamed choices cut order s m
IsNext choices cut order s _ = Unit {0}
