-- The nodes by number, with the entries over them.
use Rattle.std.specs.Prelude.{◌≡◌, ℕ, ◌+◌, ◌*◌, ◌<◌, ◌≤◌, List, length, map, slice_get}
use Rattle.std.specs.Int.{IsPowerOfTwo}
use Rattle.tree_core.specs.Orders.{Candidate}
use Rattle.free_nodes.specs.declared.claimable.Claimable.{Claimable}
use Rattle.free_nodes.specs.declared.sum.FreeSum.{FreeSum}
use Rattle.free_nodes.specs.Sums.{sum_of}
use Rattle.free_nodes.specs.Entries.{sum_at, IsJoined}

-- the nodes by number, and how many there is room for
pub record Listed : Type 0 where
  pub nodes : List Candidate
  pub capacity : ℕ

-- a node as an order sees it
abbrev pub candidate_of : Claimable → Candidate
candidate_of node = record { depth = node.depth; is_free = node.is_free }

abbrev pub candidates_of : List Claimable → List Candidate
candidates_of nodes = map candidate_of nodes

-- each leaf is the sum of its node, or of no node where there are fewer
abbrev pub HasLeaves : List Candidate → (capacity : ℕ) → List FreeSum → Type 0
HasLeaves nodes capacity entries =
    (j : ℕ) → j < capacity → sum_at entries (capacity + j) ≡ sum_of (slice_get nodes j)

-- these are the entries of a segment tree with so many leaves, over these nodes
pub record IsOver (nodes : List Candidate) (capacity : ℕ) (entries : List FreeSum) : Type 0 where
  pub within : length nodes ≤ capacity
  pub long : length entries ≡ capacity * 2
  pub power : 0 < capacity → IsPowerOfTwo capacity
  pub joined_all : IsJoined entries 1 0
  pub leaves : HasLeaves nodes capacity entries
