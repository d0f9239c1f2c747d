-- The entries of a report: the leaves of a fork tree by rank, each with what stands beside it.
use Rattle.std.specs.Prelude.{◌≡◌, ℕ, zero, suc, ◌+◌, ◌<◌, Bool, true, if◌then◌else◌, List, [], ◌∷◌, ◌++◌, All, Option, Some, None, length, map, slice_get}
use Rattle.std.specs.List.Sorted.{IsPermutation}
use Rattle.elf_load.specs.Images.{Image}
use Rattle.elf_load.specs.declared.region.Region.{Region}
use Rattle.fork_spec.specs.Decisions.{decisions}
use Rattle.tree_core.specs.Choices.{precedes}
use Rattle.tree_core.specs.Stories.{Story, content, status}
use Rattle.tree_core.specs.declared.budgets.Budgets.{Budgets}
use Rattle.tree_core.specs.declared.cause.Cause.{Cause}
use Rattle.tree_core.specs.declared.choice.Choice.{Choice}
use Rattle.tree_core.specs.declared.node.Status.TheVariants.{Leaf as IsLeaf}
use Rattle.fork_spec.specs.Histories.{LeafNode, is_leaf_status}
use Rattle.fork_spec.specs.Leaves.{Leaf}
use Rattle.fork_spec.specs.Partings.{Place, place_of}
use Rattle.fork_spec.specs.Parts.{Evidence, IsRight, OnConflicts, OnNodes, OnTargets, Part}
use Rattle.fork_spec.specs.Ranks.{AreRanked}
use Rattle.fork_tree.specs.Written.{lines_of}
use Rattle.fork_tree.specs.Contents.{cut_in}
use Rattle.fork_tree.specs.Works.{Rules}
use Rattle.tool_io.specs.Told.{Put}
use Rattle.fork_tree.specs.declared.content.Content.{Content}
use Rattle.fork_tree.specs.declared.content.Content.TheVariants.{Shut}
use Rattle.report_text.specs.Claims.{Bare, Beside, Entry, Filling, Learning, Spending, Tested, leaves_of}
use Rattle.report_text.specs.Files.{files_of, summary_of, test_of}
use Rattle.report_text.specs.Legible.{HasSmallLog}
use Rattle.report_text.specs.declared.leaves.LeafAt.{LeafAt}
use Rattle.report_text.specs.declared.ranking.RankedLeaf.{RankedLeaf}

-- beside a leaf stands the test that its sample makes, or what shows the budget that was spent
abbrev pub IsBeside : List Region → (rank : ℕ) → Leaf → Option (List ℕ) → Option Evidence → Beside
    → Type 0
IsBeside regions rank leaf sample (Some (OnTargets spent)) (Spending written) = written ≡ spent
IsBeside regions rank leaf sample (Some (OnConflicts learnt)) (Learning written) = written ≡ learnt
IsBeside regions rank leaf sample (Some (OnNodes count)) (Filling written) = written ≡ count
IsBeside regions rank leaf (Some input) None (Tested test) = test ≡ test_of regions rank leaf input
IsBeside regions rank leaf _ _ _ = ⊥

-- what stands beside a leaf: its evidence, else the test that its sample makes, else nothing
abbrev pub beside_of : List Region → (rank : ℕ) → Leaf → Option (List ℕ) → Option Evidence → Beside
beside_of regions rank leaf sample (Some (OnTargets spent)) = Spending spent
beside_of regions rank leaf sample (Some (OnConflicts learnt)) = Learning learnt
beside_of regions rank leaf sample (Some (OnNodes count)) = Filling count
beside_of regions rank leaf (Some input) None = Tested (test_of regions rank leaf input)
beside_of regions rank leaf None None = Bare

-- the entry of a leaf at this node, of this rank
abbrev pub entry_of : List Region → (rank : ℕ) → LeafAt → Entry
entry_of regions rank l =
    record {
      leaf = l.part.now.leaf;
      node = l.node;
      beside = beside_of regions rank l.part.now.leaf l.part.now.sample l.part.now.evidence;
    }

-- the leaf at its node
abbrev pub leaf_node_of : LeafAt → LeafNode
leaf_node_of l = record { leaf = l.part.now.leaf; node = l.node }

-- the entries of leaves, whose ranks begin with this one
unfoldable pub entries_of : List Region → (rank : ℕ) → List LeafAt → List Entry
entries_of regions rank [] = []
entries_of regions rank (l ∷ ls) = entry_of regions rank l ∷ entries_of regions (rank + 1) ls

-- those below a number of which this is true, in their order
unfoldable pub numbers_where : (ℕ → Bool) → ℕ → List ℕ
numbers_where p zero = []
numbers_where p (suc n) = numbers_where p n ++ (if p n then n ∷ [] else [])

-- the numbers of the leaves of a tree
abbrev pub leaf_numbers : {R : Type 0} → Story R → List ℕ
leaf_numbers s = numbers_where (λ m. is_leaf_status (status s m)) (length s.nodes)

-- why what has a place was cut, if it is a leaf that was
abbrev pub cut_by_place : {R : Type 0} → (R → Place) → R → Option Cause
cut_by_place place r = (place r).cut

-- the place of a leaf is that of its part
abbrev pub IsPlacedByPart : {L : Type 0} → (part_of : L → Part) → (L → Place) → Type 0
IsPlacedByPart {L} part_of leaf_place = (leaf : L) → leaf_place leaf ≡ place_of (part_of leaf).leaf

module _ {S L : Type 0} (part_of : L → Part) where
  -- at the node is this leaf
  pub record IsLeafAt (s : Story (Content S L)) (node : ℕ) (part : Part) : Type 0 where
    pub within : node < length s.nodes
    pub is_leaf : status s node ≡ IsLeaf
    pub leaf : L
    pub held : content s node ≡ Some (Shut leaf)
    pub same : part_of leaf ≡ part

  -- the choices lead to the leaf at this node
  pub record ChoicesLead (s : Story (Content S L)) (r : RankedLeaf) : Type 0 where
    pub part : Part
    pub at : IsLeafAt s r.node part
    pub same : r.choices.now ≡ part.leaf.choices

  -- the leaves of a tree, each once, in the order of their choices
  pub record AreByRank (s : Story (Content S L)) (leaves : List LeafAt) : Type 0 where
    pub each : (rank : ℕ) (l : LeafAt) → slice_get leaves rank ≡ Some l
        → IsLeafAt s l.node l.part.now
    pub all : IsPermutation (leaf_numbers s) (map (λ (l : LeafAt). l.node) leaves)
    pub ranked : (i j : ℕ) (l k : LeafAt) → i < j → slice_get leaves i ≡ Some l
        → slice_get leaves j ≡ Some k → precedes l.part.now.leaf.choices k.part.now.leaf.choices
        ≡ true

  -- the entry of a leaf of this rank
  pub record IsEntry (regions : List Region) (s : Story (Content S L)) (rank : ℕ)
      (entry : Entry) : Type 0 where
    pub part : Part
    pub at : IsLeafAt s entry.node part
    pub same_leaf : entry.leaf ≡ part.leaf
    pub beside : IsBeside regions rank part.leaf part.sample part.evidence entry.beside

  -- the entries of all leaves of a tree, by rank
  pub record AreEntries (regions : List Region) (s : Story (Content S L))
      (entries : List Entry) : Type 0 where
    pub each : (rank : ℕ) (entry : Entry) → slice_get entries rank ≡ Some entry
        → IsEntry regions s rank entry
    pub all : IsPermutation (leaf_numbers s) (map (λ (entry : Entry). entry.node) entries)
    pub ranked : AreRanked (leaves_of entries)

  -- what a worker's rules ask of its leaves is what a report claims of them
  pub record AskAsClaimed (rules : Rules S L) (leaf_place : L → Place) (image : Image)
      (regions : List Region) (budgets : Budgets) : Type 0 where
    pub right : (sides : List Choice) (nodes : Option ℕ) (leaf : L) → rules.IsRight sides nodes leaf
        → IsRight image regions budgets sides nodes (part_of leaf)
    pub place : IsPlacedByPart part_of leaf_place
    pub decides : (input : List ℕ)
        → rules.decides input ≡ decisions image regions input budgets.steps
    pub targets : rules.targets ≡ budgets.targets
    pub nodes : rules.nodes ≡ budgets.nodes
    pub order : rules.order ≡ budgets.order

-- there is what stands beside a leaf: its evidence, or a byte for each place
abbrev pub HasBeside : (places : ℕ) → Option (List ℕ) → Option Evidence → Type 0
HasBeside places sample (Some evidence) = Unit {0}
HasBeside places (Some input) None = length input ≡ places
HasBeside places None None = ⊥

-- a leaf of which a report can be written
abbrev pub IsReportable : Part → Type 0
IsReportable part = HasBeside part.leaf.condition.graph.inputs part.sample part.evidence

-- so it is of each leaf of a tree
abbrev pub AreReportable : {S L : Type 0} → (part_of : L → Part) → Story (Content S L) → Type 0
AreReportable {S} {L} part_of s = (m : ℕ) (leaf : L) → m < length s.nodes → status s m ≡ IsLeaf
    → content s m ≡ Some (Shut leaf) → IsReportable (part_of leaf)

-- these files and this line are the report of the leaves of a tree, in the folder `out`; the numbers in the logs, and of nodes, are those that texts have
pub record IsReportOfTree {S L : Type 0} (part_of : L → Part) (state_place : S → Place)
    (leaf_place : L → Place) (out : List ℕ) (regions : List Region) (budgets : Budgets)
    (workers : ℕ) (s : Story (Content S L)) (puts : List Put) (text : List ℕ) : Type 0 where
  pub leaves : List LeafAt
  pub by_rank : AreByRank part_of s leaves
  pub files : puts ≡ files_of out budgets workers regions
      (lines_of (cut_in state_place leaf_place) s) (entries_of regions 0 leaves)
  pub summary : text ≡ summary_of (entries_of regions 0 leaves)
  pub small_logs : All (λ (l : LeafAt). HasSmallLog l.part.now.evidence) leaves
