use Rattle.std.proofs.Common.{◌≡◌, map, take}
use Rattle.serde_json.specs.View.{view}
use Rattle.report_text.specs.ReportData.{leaf_node_data}
use Rattle.report_text.proofs.report_json.leaf_values.Given as goal

abbrev pub invariant-loop-leaf : goal.invariant-loop-leaf
invariant-loop-leaf g l =
    map view l.values.items
    ≡ map leaf_node_data (map g.E.Reported.leaf_node (take l.leaf-index l.leaves))
