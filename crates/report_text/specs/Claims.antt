-- What a report claims, claim by claim, of the leaves of a program whose input bytes stand in these regions.
use Rattle.std.specs.Prelude.{◌≡◌, ◌≢◌, ◌≤◌, ℕ, List, All, map, Some, IsTrue, count_by, slice_get}
use Rattle.elf_load.specs.Images.{Image}
use Rattle.elf_load.specs.declared.region.Region.{Region}
use Rattle.rv_spec.specs.Memory.{IsAssignment, count_of}
use Rattle.rv_spec.specs.Runs.{run, IsRunOf}
use Rattle.tree_core.specs.declared.budgets.Budgets.{Budgets}
use Rattle.tree_core.specs.declared.cause.Cause.TheVariants.{Conflicts, Nodes, Steps, Targets}
use Rattle.tree_core.specs.declared.choice.Choice.{Choice}
use Rattle.fork_spec.specs.Evidence.{Learnt, Spent, SpendsConflicts, SpendsTargets}
use Rattle.fork_spec.specs.Histories.{IsCutAt, IsHistory, IsSideOf, LeafNode, ReleaseOnce}
use Rattle.fork_spec.specs.Leaves.{IsFull, Leaf, covers}
use Rattle.fork_spec.specs.Partings.{ArePartedLeaves, DecidesAlike}
use Rattle.fork_spec.specs.Ranks.{AreRanked}
use Rattle.fork_spec.specs.Runs.{IsFaithful}
use Rattle.fork_spec.specs.Walks.{Bounds, Line}
use Rattle.fork_spec.specs.declared.end.LeafEnd.{LeafEnd}
use Rattle.fork_spec.specs.declared.end.LeafEnd.TheVariants.{Exits, Traps, Cut}
use Rattle.test_files.specs.Tests.{Test}

-- what stands beside a leaf
pub data Beside : Type 0 where
  -- nothing, as beside no leaf of which the claims hold
  Bare : Beside
  -- a run of it
  Tested : Test → Beside
  -- the values on which the budget of targets was spent
  Spending : Spent → Beside
  -- the question on which the budget of conflicts was spent, and its clauses
  Learning : Learnt → Beside
  -- how many nodes there were where the leaf was cut for want of them
  Filling : ℕ → Beside

-- a leaf, the number of its node in the events, and what stands beside it, as they are written
pub record Entry : Type 0 where
  pub leaf : Leaf
  pub node : ℕ
  pub beside : Beside

abbrev pub leaves_of : List Entry → List Leaf
leaves_of entries = map (λ (e : Entry). e.leaf) entries

-- the leaves with their nodes alone
abbrev pub leaf_nodes_of : List Entry → List LeafNode
leaf_nodes_of entries = map (λ (e : Entry). record { leaf = e.leaf; node = e.node }) entries

-- A report: the image of a program, the regions of its input bytes, what may be spent and by how many workers, and what was
-- written: the events, and the entries, that is, the leaves with what stands beside them.
pub record Report : Type 0 where
  pub image : Image
  pub regions : List Region
  pub budgets : Budgets
  pub workers : ℕ
  pub lines : List Line
  pub entries : List Entry

abbrev pub leaves : Report → List Leaf
leaves r = leaves_of r.entries

-- each leaf is one in full
abbrev pub AreFull : Report → Type 0
AreFull r = All IsFull (leaves r)

-- each leaf is over the bytes of the regions
abbrev pub HaveInputs : Report → Type 0
HaveInputs r = All (λ (leaf : Leaf). leaf.condition.graph.inputs ≡ count_of r.regions) (leaves r)

-- each assignment is covered by exactly one of the leaves
abbrev pub IsExactCover : Report → Type 0
IsExactCover r = (input : List ℕ) → IsAssignment r.regions input
    → count_by (λ leaf. covers leaf input) (leaves r) ≡ 1

-- the runs of each leaf are as it says, within the budget of steps
abbrev pub AreFaithful : Report → Type 0
AreFaithful r = All (IsFaithful r.image r.regions r.budgets.steps) (leaves r)

-- all that one leaf covers decide alike
abbrev pub AreAlike : Report → Type 0
AreAlike r = All (DecidesAlike r.image r.regions) (leaves r)

-- any two leaves part by a decision of their runs
abbrev pub ArePartedAll : Report → Type 0
ArePartedAll r = (i j : ℕ) (leaf other : Leaf) → i ≢ j → slice_get (leaves r) i ≡ Some leaf
    → slice_get (leaves r) j ≡ Some other →
    ArePartedLeaves r.image r.regions r.budgets.steps leaf other

-- the test is a run of this leaf, which has this rank: its input is one that the leaf covers, and its run is as the test says
pub record IsRun (image : Image) (regions : List Region) (leaf : Leaf) (rank : ℕ)
    (test : Test) : Type 0 where
  pub same_rank : test.leaf ≡ rank
  pub same_regions : test.regions ≡ regions
  pub same_steps : test.steps ≡ leaf.steps
  pub same_path : test.path ≡ leaf.path
  pub assignment : IsAssignment regions test.input
  pub covered : IsTrue (covers leaf test.input)
  pub runs : IsRunOf (run image regions test.input test.steps) test.steps test.path test.end
      test.output

-- beside a leaf stands a run of it, unless it was cut where it had spent its targets or its conflicts, or for want of nodes; no leaf
-- is bare
abbrev pub IsTested : Image → List Region → Leaf → LeafEnd → (rank : ℕ) → Beside → Type 0
IsTested image regions leaf (Exits status) rank (Tested test) = IsRun image regions leaf rank test
IsTested image regions leaf (Traps trap) rank (Tested test) = IsRun image regions leaf rank test
IsTested image regions leaf (Cut Steps) rank (Tested test) = IsRun image regions leaf rank test
IsTested image regions leaf (Cut Targets) rank (Spending spent) = Unit {0}
IsTested image regions leaf (Cut Conflicts) rank (Learning learnt) = Unit {0}
IsTested image regions leaf (Cut Nodes) rank (Filling count) = Unit {0}
IsTested image regions leaf _ rank _ = ⊥

-- this holds at each rank
abbrev pub AreRuns : Report → Type 0
AreRuns r = (rank : ℕ) (e : Entry) → slice_get r.entries rank ≡ Some e
    → IsTested r.image r.regions e.leaf e.leaf.end rank e.beside

-- a cut leaf has spent its budget: it has made all steps; or beside it stand as many values of a term as it may have,
-- which are the other sides of the split of which, by the events, its node is a side; or beside it stands the question on
-- the last of its assertions, with as many clauses as may be learnt for one; or by the events its node was cut where there
-- were as many nodes as stand beside it, which are as many as there may be, or more
abbrev pub HasSpent : List Region → Budgets → List Line → (node : ℕ) → Leaf → LeafEnd → Beside
    → Type 0
HasSpent regions budgets lines node leaf (Exits status) beside = Unit {0}
HasSpent regions budgets lines node leaf (Traps trap) beside = Unit {0}
HasSpent regions budgets lines node leaf (Cut Steps) beside = leaf.steps ≡ budgets.steps
HasSpent regions budgets lines node leaf (Cut Targets) (Spending spent) =
    (sides : List Choice) × IsSideOf lines node sides
    × SpendsTargets regions budgets.targets sides leaf spent
HasSpent regions budgets lines node leaf (Cut Conflicts) (Learning learnt) =
    SpendsConflicts regions budgets.conflicts leaf learnt
HasSpent regions budgets lines node leaf (Cut Nodes) (Filling count) = (budgets.nodes ≤ count)
    × IsCutAt lines node count
HasSpent regions budgets lines node leaf (Cut _) beside = ⊥

abbrev pub ShowBudgets : Report → Type 0
ShowBudgets r = All (λ (e : Entry).
    HasSpent r.regions r.budgets r.lines e.node e.leaf e.leaf.end e.beside) r.entries

-- what its events are held to: its workers, and its budgets of values and of nodes
abbrev pub bounds_of : Report → Bounds
bounds_of r = record {
  workers = r.workers;
  targets = r.budgets.targets;
  nodes = r.budgets.nodes;
  order = r.budgets.order;
}

-- the events are one run of so many workers through the fork tree that leaves nothing to be done, and the leaves of its tree are those that are written
abbrev pub HasHistory : Report → Type 0
HasHistory r = IsHistory (bounds_of r) r.lines (leaf_nodes_of r.entries)

-- by which each worker gave up one node at most
abbrev pub GiveUpOnce : Report → Type 0
GiveUpOnce r = ReleaseOnce r.lines

-- the leaves stand in the order of their choices
abbrev pub StandByRank : Report → Type 0
StandByRank r = AreRanked (leaves r)

-- all of the claims
pub record IsReport (r : Report) : Type 0 where
  pub full : AreFull r
  pub inputs : HaveInputs r
  pub exact_cover : IsExactCover r
  pub faithful : AreFaithful r
  pub alike : AreAlike r
  pub parted : ArePartedAll r
  pub runs : AreRuns r
  pub cuts : ShowBudgets r
  pub history : HasHistory r
  pub releases : GiveUpOnce r
  pub ranked : StandByRank r
