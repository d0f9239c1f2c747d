-- What the files that were put read as.
use Rattle.std.specs.Prelude.{◌≡◌, ℕ, List, Option, None, Some, slice_get}
use Rattle.std.specs.List.{Contains}
use Rattle.fork_spec.specs.Evidence.{Learnt, Spent}
use Rattle.fork_spec.specs.Leaves.{IsSmall, Leaf}
use Rattle.fork_spec.specs.Walks.{Line}
use Rattle.report_text.specs.Claims.{Bare, Beside, Entry, Filling, Learning, Spending, Tested}
use Rattle.report_text.specs.Events.{events_text}
use Rattle.report_text.specs.FileNames.{leaf_name}
use Rattle.report_text.specs.Files.{beside_put, events_put}
use Rattle.report_text.specs.Learnt.{conflicts_text}
use Rattle.report_text.specs.Legible.{AreLegible, IsLegibleLearnt, IsLegibleSpent}
use Rattle.report_text.specs.Spent.{nodes_text, targets_text}
use Rattle.smt_text.specs.Grammar.{IsTextOf}
use Rattle.test_files.specs.Tests.{Test, test_text}
use Rattle.test_files.specs.Writable.{IsLegible}
use Rattle.tool_io.specs.Told.{Put}

-- the bytes read as this leaf, line by line, and as no other
pub record ReadsAs (bytes : List ℕ) (leaf : Leaf) : Type 0 where
  pub is_its_text : IsTextOf bytes leaf
  pub as_no_other : (other : Leaf) → IsTextOf bytes other → other ≡ leaf

-- a file whose name has this rank was put, and it reads as this leaf
pub record IsReadFrom (out : List ℕ) (puts : List Put) (rank : ℕ) (leaf : Leaf) : Type 0 where
  pub bytes : List ℕ
  pub is_put : Contains puts (record { name = leaf_name out rank; bytes = bytes })
  pub reads : ReadsAs bytes leaf

-- the text of these events is that of no others
abbrev pub HaveOwnText : List Line → Type 0
HaveOwnText lines = (others : List Line) → AreLegible others
    → events_text others ≡ events_text lines → others ≡ lines

-- the text of what stands beside a leaf is that of no other test, of no other values, of no other question and clauses, or of no other
-- number of nodes
abbrev pub HasOwnText : Beside → Type 0
HasOwnText Bare = ⊥
HasOwnText (Tested test) = (other : Test) → IsLegible other → test_text other ≡ test_text test
    → other ≡ test
HasOwnText (Spending spent) = (other : Spent) → IsLegibleSpent other
    → targets_text other ≡ targets_text spent → other ≡ spent
HasOwnText (Learning learnt) = (other : Learnt) → IsLegibleLearnt other
    → conflicts_text other ≡ conflicts_text learnt → other ≡ learnt
HasOwnText (Filling count) = (other : ℕ) → IsSmall other → nodes_text other ≡ nodes_text count
    → other ≡ count

-- there is a file, and it was put
abbrev pub IsPut : List Put → Option Put → Type 0
IsPut puts None = ⊥
IsPut puts (Some put) = Contains puts put

-- the leaf is what the file of its rank reads as, and what stands beside it is what the other file of that rank has
pub record IsEntryRead (out : List ℕ) (puts : List Put) (rank : ℕ) (e : Entry) : Type 0 where
  pub leaf : IsReadFrom out puts rank e.leaf
  pub beside : IsPut puts (beside_put out rank e.beside)
  pub alone : HasOwnText e.beside

-- the events, each of the leaves, and what stands beside each, are what the files that were put have, and nothing else has these texts
pub record AreReadBack (out : List ℕ) (puts : List Put) (lines : List Line)
    (entries : List Entry) : Type 0 where
  pub events : Contains puts (events_put out lines)
  pub alone : HaveOwnText lines
  pub each : (rank : ℕ) (e : Entry) → slice_get entries rank ≡ Some e → IsEntryRead out puts rank e
