use Rattle.std.proofs.Common.{◌≡◌, ◌∙◌, ℕ, List, [], ◌∷◌, ◌++◌, ◌||◌, Bool, false, map, ap, refl, append_assoc, codes, decimal}
use Rattle.json.specs.Print.{quoted}
use Rattle.serde_json.specs.Data.{string}
use Rattle.serde_json.specs.View.{items_of}
use Rattle.serde_json.specs.Written.{compact_text, items_text, has_float, items_have_float}
use Rattle.serde_json.proofs.OnLiterals.{serde_json_on_literals}
use Rattle.elf_load.specs.declared.region.Region.{Region}
use Rattle.smt_text.specs.Ends.{end_name, kind_name}
use Rattle.text_parts.specs.Names.{choices_text}
use Rattle.test_files.specs.Tests.{quoted_all, region_text}
use Rattle.tree_core.specs.declared.budgets.Budgets.{Budgets}
use Rattle.report_text.specs.declared.summary.Summary.{Summary}
use Rattle.report_text.specs.ReportData.{budgets_data, leaf_node_data, report_data, totals_data}
use Rattle.fork_spec.specs.Histories.{LeafNode}
use Rattle.report_text.specs.Reports.{budgets_text, leaf_node_text, leaves_in, order_text, report_text, totals_text, with_commas}
use Rattle.report_text.specs.Summaries.{count}

five : (a v b w c x d y e z last : List ℕ) → a
    ++ (v ++ (b ++ (w ++ (c ++ (x ++ (d ++ (y ++ (e ++ (z ++ last)))))))))
    ≡ a ++ v ++ b ++ w ++ c ++ x ++ d ++ y ++ e ++ z ++ last
five a v b w c x d y e z last = simp append_assoc

six : (a v b w c x d y e z f u last : List ℕ) → a
    ++ (v ++ (b ++ (w ++ (c ++ (x ++ (d ++ (y ++ (e ++ (z ++ (f ++ (u ++ last)))))))))))
    ≡ a ++ v ++ b ++ w ++ c ++ x ++ d ++ y ++ e ++ z ++ f ++ u ++ last
six a v b w c x d y e z f u last = simp append_assoc

text_of_budgets : (budgets : Budgets) (workers : ℕ) →
    compact_text (budgets_data budgets workers) ≡ budgets_text budgets workers
unfolding serde_json_on_literals
text_of_budgets budgets workers =
    six (codes "{\"conflicts\":") (decimal budgets.conflicts) (codes ",\"nodes\":") (decimal budgets.nodes) (codes ",\"order\":") (quoted (order_text budgets.order))
    (codes ",\"steps\":") (decimal budgets.steps) (codes ",\"targets\":") (decimal budgets.targets) (codes ",\"workers\":") (decimal workers) (codes "}")

text_of_totals : (summary : Summary) → compact_text (totals_data summary) ≡ totals_text summary
unfolding serde_json_on_literals
text_of_totals summary =
    five (codes "{\"cut\":") (decimal summary.cut) (codes ",\"finished\":") (decimal summary.finished) (codes ",\"leaves\":") (decimal summary.leaves)
    (codes ",\"steps\":") (decimal summary.steps) (codes ",\"tests\":") (decimal summary.tests) (codes "}")

text_of_entry : (entry : LeafNode) → compact_text (leaf_node_data entry) ≡ leaf_node_text entry
unfolding serde_json_on_literals
text_of_entry entry =
    five (codes "{\"choices\":") (quoted (choices_text entry.leaf.choices)) (codes ",\"end\":") (quoted (end_name entry.leaf.end))
    (codes ",\"kind\":") (quoted (kind_name entry.leaf.end)) (codes ",\"node\":") (decimal entry.node) (codes ",\"steps\":") (decimal entry.leaf.steps) (codes "}")

behind_comma : (text others last : List ℕ) → text ++ 44 ∷ (others ++ last)
    ≡ (text ++ codes "," ++ others) ++ last
behind_comma text others last = simp append_assoc

-- the leaves, with the closing bracket
text_of_entries : (entries : List LeafNode) →
    items_text false (items_of (map leaf_node_data entries))
    ≡ with_commas (map leaf_node_text entries) ++ codes "]"
text_of_entries [] = refl
text_of_entries (entry ∷ []) = ap (λ text. text ++ codes "]") (text_of_entry entry)
text_of_entries (entry ∷ next ∷ entries) =
    ap (λ text. text ++ 44 ∷ items_text false (items_of (map leaf_node_data (next ∷ entries)))) (text_of_entry entry)
    ∙ ap (λ others. leaf_node_text entry ++ 44 ∷ others) (text_of_entries (next ∷ entries))
    ∙ behind_comma (leaf_node_text entry) (with_commas (map leaf_node_text (next ∷ entries))) (codes "]")

-- the regions, likewise
text_of_regions : (regions : List Region) →
    items_text false (items_of (map (λ region. string (region_text region)) regions))
    ≡ quoted_all (map region_text regions) ++ codes "]"
text_of_regions [] = refl
text_of_regions (region ∷ []) = refl
text_of_regions (region ∷ next ∷ regions) =
    ap (λ text. quoted (region_text region) ++ 44 ∷ text) (text_of_regions (next ∷ regions))
    ∙ behind_comma (quoted (region_text region)) (quoted_all (map region_text (next ∷ regions))) (codes "]")

-- the object of these values
abbrev object_text : (budgets leaves regions summary : List ℕ) → List ℕ
object_text budgets leaves regions summary =
    codes "{\"budgets\":" ++ (budgets ++ (codes ",\"leaves\":[" ++ (leaves ++ (codes ",\"regions\":[" ++ (regions ++ (codes ",\"summary\":" ++ (summary ++ codes "}")))))))

regroup : (a b c d e f budgets leaves regions summary last : List ℕ) →
    (a ++ (budgets ++ (b ++ ((leaves ++ c) ++ (d ++ ((regions ++ c) ++ (e ++ (summary ++ f))))))))
    ++ last
    ≡ a ++ budgets ++ b ++ leaves ++ (c ++ d) ++ regions ++ (c ++ e) ++ summary ++ (f ++ last)
regroup a b c d e f budgets leaves regions summary last = simp append_assoc

is_object : (budgets : Budgets) (workers : ℕ) (regions : List Region) (entries : List LeafNode) →
    compact_text (report_data budgets workers regions entries)
    ≡ object_text (compact_text (budgets_data budgets workers)) (items_text false (items_of (map leaf_node_data entries)))
    (items_text false (items_of (map (λ region. string (region_text region)) regions))) (compact_text (totals_data (count (leaves_in entries))))
unfolding serde_json_on_literals
is_object budgets workers regions entries = refl

-- the text of the object, and a line feed
pub text_of_report : (budgets : Budgets) (workers : ℕ) (regions : List Region) (entries : List LeafNode) →
    compact_text (report_data budgets workers regions entries) ++ codes "\n"
    ≡ report_text budgets workers regions entries
unfolding report_text
text_of_report budgets workers regions entries =
    let totals = totals_data (count (leaves_in entries)) in
    let of_leaves = items_text false (items_of (map leaf_node_data entries)) in
    let of_regions =
    items_text false (items_of (map (λ region. string (region_text region)) regions)) in
    ap (λ text. text ++ codes "\n") (is_object budgets workers regions entries
    ∙ ap (λ text. object_text text of_leaves of_regions (compact_text totals)) (text_of_budgets budgets workers)
    ∙ ap (λ text. object_text (budgets_text budgets workers) text of_regions (compact_text totals)) (text_of_entries entries)
    ∙ ap (λ text. object_text (budgets_text budgets workers) (with_commas (map leaf_node_text entries) ++ codes "]") text (compact_text totals)) (text_of_regions regions)
    ∙ ap (object_text (budgets_text budgets workers) (with_commas (map leaf_node_text entries) ++ codes "]") (quoted_all (map region_text regions) ++ codes "]")) (text_of_totals (count (leaves_in entries))))
    ∙ regroup (codes "{\"budgets\":") (codes ",\"leaves\":[") (codes "]") (codes ",\"regions\":[") (codes ",\"summary\":") (codes "}")
    (budgets_text budgets workers) (with_commas (map leaf_node_text entries)) (quoted_all (map region_text regions)) (totals_text (count (leaves_in entries))) (codes "\n")

no_floats : (entries : List LeafNode) → items_have_float (items_of (map leaf_node_data entries))
    ≡ false
no_floats [] = refl
no_floats (entry ∷ entries) = no_floats entries

no_region_floats : (regions : List Region) →
    items_have_float (items_of (map (λ region. string (region_text region)) regions)) ≡ false
no_region_floats [] = refl
no_region_floats (region ∷ regions) = no_region_floats regions

-- a report has no numbers but whole ones
pub report_has_no_float : (budgets : Budgets) (workers : ℕ) (regions : List Region) (entries : List LeafNode) → has_float (report_data budgets workers regions entries) ≡ false
report_has_no_float budgets workers regions entries =
    ap (λ (b : Bool). b || (items_have_float (items_of (map (λ region. string (region_text region)) regions)) || false)) (no_floats entries)
    ∙ ap (λ (b : Bool). b || false) (no_region_floats regions)
