-- The JSON text of a report: the budgets, the leaves by rank, the regions and the summary.
use Rattle.std.specs.Prelude.{ℕ, List, [], ◌∷◌, ◌++◌, codes, decimal, map}
use Rattle.json.specs.Print.{quoted}
use Rattle.elf_load.specs.declared.region.Region.{Region}
use Rattle.fork_spec.specs.Histories.{LeafNode}
use Rattle.fork_spec.specs.Leaves.{Leaf}
use Rattle.smt_text.specs.Ends.{end_name, kind_name}
use Rattle.text_parts.specs.Names.{choices_text}
use Rattle.test_files.specs.Tests.{quoted_all, region_text}
use Rattle.tree_core.specs.declared.budgets.Budgets.{Budgets}
use Rattle.tree_core.specs.declared.order.Order.{Order}
use Rattle.tree_core.specs.declared.order.Order.TheVariants.{Deepest, Oldest, Mixed}
use Rattle.report_text.specs.Summaries.{count}
use Rattle.report_text.specs.declared.summary.Summary.{Summary}

abbrev pub leaves_in : List LeafNode → List Leaf
leaves_in nodes = map (λ (l : LeafNode). l.leaf) nodes

-- texts with commas between
abbrev pub with_commas : List (List ℕ) → List ℕ
with_commas [] = []
with_commas (text ∷ []) = text
with_commas (text ∷ next ∷ texts) = text ++ codes "," ++ with_commas (next ∷ texts)

-- the name of an order of claims
abbrev pub order_text : Order → List ℕ
order_text Deepest = codes "deepest"
order_text Oldest = codes "oldest"
order_text Mixed = codes "mixed"

-- the object of the budgets
abbrev pub budgets_text : Budgets → (workers : ℕ) → List ℕ
budgets_text budgets workers =
    codes "{\"conflicts\":" ++ decimal budgets.conflicts
    ++ codes ",\"nodes\":" ++ decimal budgets.nodes
    ++ codes ",\"order\":" ++ quoted (order_text budgets.order)
    ++ codes ",\"steps\":" ++ decimal budgets.steps
    ++ codes ",\"targets\":" ++ decimal budgets.targets
    ++ codes ",\"workers\":" ++ decimal workers
    ++ codes "}"

-- the object of a leaf
abbrev pub leaf_node_text : LeafNode → List ℕ
leaf_node_text l =
    codes "{\"choices\":" ++ quoted (choices_text l.leaf.choices)
    ++ codes ",\"end\":" ++ quoted (end_name l.leaf.end)
    ++ codes ",\"kind\":" ++ quoted (kind_name l.leaf.end)
    ++ codes ",\"node\":" ++ decimal l.node
    ++ codes ",\"steps\":" ++ decimal l.leaf.steps
    ++ codes "}"

-- the object of the summary
abbrev pub totals_text : Summary → List ℕ
totals_text summary =
    codes "{\"cut\":" ++ decimal summary.cut
    ++ codes ",\"finished\":" ++ decimal summary.finished
    ++ codes ",\"leaves\":" ++ decimal summary.leaves
    ++ codes ",\"steps\":" ++ decimal summary.steps
    ++ codes ",\"tests\":" ++ decimal summary.tests
    ++ codes "}"

-- a JSON object (RFC 8259) with its keys in order and no blanks, and a line feed
unfoldable pub report_text : Budgets → (workers : ℕ) → List Region → List LeafNode → List ℕ
report_text budgets workers regions leaves =
    codes "{\"budgets\":" ++ budgets_text budgets workers
    ++ codes ",\"leaves\":[" ++ with_commas (map leaf_node_text leaves)
    ++ codes "],\"regions\":[" ++ quoted_all (map region_text regions)
    ++ codes "],\"summary\":" ++ totals_text (count (leaves_in leaves))
    ++ codes "}\n"
