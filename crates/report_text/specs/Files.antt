-- The files of a report, which stand in a folder, and the line that is said.
use Rattle.std.specs.Prelude.{ℕ, ◌+◌, List, [], ◌∷◌, ◌++◌, map, Option, None, Some}
use Rattle.elf_load.specs.declared.region.Region.{Region}
use Rattle.tool_io.specs.Told.{Put}
use Rattle.tree_core.specs.declared.budgets.Budgets.{Budgets}
use Rattle.fork_spec.specs.Histories.{LeafNode}
use Rattle.fork_spec.specs.Leaves.{Leaf, worth}
use Rattle.fork_spec.specs.Runs.{end_on}
use Rattle.fork_spec.specs.Walks.{Line}
use Rattle.smt_text.specs.LeafLines.{leaf_text}
use Rattle.test_files.specs.Tests.{Test, test_text}
use Rattle.report_text.specs.Claims.{Bare, Beside, Entry, Filling, Learning, Spending, Tested, leaf_nodes_of, leaves_of}
use Rattle.report_text.specs.Events.{events_text}
use Rattle.report_text.specs.FileNames.{events_name, leaf_name, report_name, test_name, spent_name}
use Rattle.report_text.specs.Learnt.{conflicts_text}
use Rattle.report_text.specs.Reports.{report_text}
use Rattle.report_text.specs.Spent.{nodes_text, targets_text}
use Rattle.report_text.specs.Summaries.{count, summary_text}

abbrev pub leaf_put : List ℕ → ℕ → Leaf → Put
leaf_put out rank leaf = record { name = leaf_name out rank; bytes = leaf_text leaf }

abbrev pub beside_put : List ℕ → ℕ → Beside → Option Put
beside_put out rank Bare = None
beside_put out rank (Tested test) =
    Some (record { name = test_name out rank; bytes = test_text test })
beside_put out rank (Spending spent) =
    Some (record { name = spent_name out rank; bytes = targets_text spent })
beside_put out rank (Learning learnt) =
    Some (record { name = spent_name out rank; bytes = conflicts_text learnt })
beside_put out rank (Filling count) =
    Some (record { name = spent_name out rank; bytes = nodes_text count })

-- a file, if there is one, before others
abbrev pub put_before : Option Put → List Put → List Put
put_before None puts = puts
put_before (Some put) puts = put ∷ puts

-- that of each leaf, and of what stands beside it; their ranks begin with this one
unfoldable pub files_from : List ℕ → ℕ → List Entry → List Put
files_from out rank [] = []
files_from out rank (e ∷ es) =
    leaf_put out rank e.leaf
    ∷ put_before (beside_put out rank e.beside) (files_from out (rank + 1) es)

abbrev pub events_put : List ℕ → List Line → Put
events_put out lines = record { name = events_name out; bytes = events_text lines }

abbrev pub report_put : List ℕ → Budgets → (workers : ℕ) → List Region → List LeafNode → Put
report_put out budgets workers regions leaves =
    record { name = report_name out; bytes = report_text budgets workers regions leaves }

-- the events, the leaves with what stands beside them, and the JSON
abbrev pub files_of : List ℕ → Budgets → (workers : ℕ) → List Region → List Line → List Entry
    → List Put
files_of out budgets workers regions lines entries =
    events_put out lines ∷ files_from out 0 entries
    ++ report_put out budgets workers regions (leaf_nodes_of entries) ∷ []

-- the line that is said
abbrev pub summary_of : List Entry → List ℕ
summary_of entries = summary_text (count (leaves_of entries))

-- the test that an assignment makes of a leaf of this rank
abbrev pub test_of : List Region → ℕ → Leaf → List ℕ → Test
test_of regions rank leaf input = record {
  leaf = rank;
  regions = regions;
  input = input;
  steps = leaf.steps;
  path = leaf.path;
  end = end_on leaf input leaf.end;
  output = map (worth leaf input) leaf.outputs;
}
