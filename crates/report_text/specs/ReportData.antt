-- The report as a JSON value.
use Rattle.std.specs.Prelude.{ℕ, List, codes, map}
use Rattle.serde_json.specs.Data.{Data, number, unsigned, string, array, object, member, no_members}
use Rattle.serde_json.specs.View.{items_of}
use Rattle.elf_load.specs.declared.region.Region.{Region}
use Rattle.smt_text.specs.Ends.{end_name, kind_name}
use Rattle.text_parts.specs.Names.{choices_text}
use Rattle.test_files.specs.TestData.{regions_data}
use Rattle.tree_core.specs.declared.budgets.Budgets.{Budgets}
use Rattle.fork_spec.specs.Histories.{LeafNode}
use Rattle.report_text.specs.Reports.{leaves_in, order_text}
use Rattle.report_text.specs.Summaries.{count}
use Rattle.report_text.specs.declared.summary.Summary.{Summary}

abbrev pub budgets_data : Budgets → (workers : ℕ) → Data
budgets_data budgets workers = object (
    member (codes "conflicts") (number (unsigned budgets.conflicts)) (
    member (codes "nodes") (number (unsigned budgets.nodes)) (
    member (codes "order") (string (order_text budgets.order)) (
    member (codes "steps") (number (unsigned budgets.steps)) (
    member (codes "targets") (number (unsigned budgets.targets)) (
    member (codes "workers") (number (unsigned workers)) no_members))))))

abbrev pub leaf_node_data : LeafNode → Data
leaf_node_data l = object (
    member (codes "choices") (string (choices_text l.leaf.choices)) (
    member (codes "end") (string (end_name l.leaf.end)) (
    member (codes "kind") (string (kind_name l.leaf.end)) (
    member (codes "node") (number (unsigned l.node)) (
    member (codes "steps") (number (unsigned l.leaf.steps)) no_members)))))

-- the leaves, an object each
abbrev pub leaf_nodes_data : List LeafNode → Data
leaf_nodes_data leaves = array (items_of (map leaf_node_data leaves))

abbrev pub totals_data : Summary → Data
totals_data summary = object (
    member (codes "cut") (number (unsigned summary.cut)) (
    member (codes "finished") (number (unsigned summary.finished)) (
    member (codes "leaves") (number (unsigned summary.leaves)) (
    member (codes "steps") (number (unsigned summary.steps)) (
    member (codes "tests") (number (unsigned summary.tests)) no_members)))))

-- the object of these, its keys in order
abbrev pub object_data : (budgets leaves regions summary : Data) → Data
object_data budgets leaves regions summary = object (
    member (codes "budgets") budgets (
    member (codes "leaves") leaves (
    member (codes "regions") regions (
    member (codes "summary") summary no_members))))

abbrev pub report_data : Budgets → (workers : ℕ) → List Region → List LeafNode → Data
report_data budgets workers regions leaves =
    object_data (budgets_data budgets workers) (leaf_nodes_data leaves) (regions_data regions)
    (totals_data (count (leaves_in leaves)))
