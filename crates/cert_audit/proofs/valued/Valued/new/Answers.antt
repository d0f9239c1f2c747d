use Rattle.std.proofs.Common.{List, ℕ, [], ◌∷◌, ◌++◌, length, refl, ap, ◌∙◌}
use Rattle.run_leaves.proofs.Copying.{picked_from}
use Rattle.cert_audit.proofs.Valuing.{asked_there, picked_bits, picked_valued}
use Rattle.cert_audit.proofs.valued.Valued.new.Goals as goal

pub pick_terms-requires : goal.pick_terms-requires
pick_terms-requires c =
    rw (c.terms.ensures.value, c.deref.ensures.value, c.in_ok-push.ensures.items, c.in_ok-asked.ensures, c.condition.ensures)
    (asked_there c.args.run.now c.args.term c.terms.ensures.formed c.requires)

pub new-condition-requires : goal.new-condition-requires
new-condition-requires c =
    let ids = c.in_ok-asked.ensures ∙ c.condition.ensures in
    let copies = picked_from c.terms.ensures.value
    (c.deref.ensures.value ∙ c.in_ok-push.ensures.items ∙ ap (λ (xs : List ℕ). xs ++ c.args.term ∷ []) ids)
    refl c.in_ok-graph.ensures.inputs c.in_ok-graph.ensures.same_trees c.in_ok-graph.ensures.same_widths c.in_ok-graph.ensures.same_values in
    let at = c.len-at.ensures ∙ c.in_ok-asked.asked.ok.0 ∙ ap (λ (xs : List ℕ). length xs) ids in
    rw c.truncate.ensures.items
    (picked_bits c.args.run.now c.args.term c.len-at.result c.in_ok-graph.field-0.graph c.in_ok-graph.field-0.ids.items at copies c.terms.ensures.formed)

pub returns : goal.returns
returns c =
    let ids = c.in_ok-asked.ensures ∙ c.condition.ensures in
    let copies = picked_from c.terms.ensures.value
    (c.deref.ensures.value ∙ c.in_ok-push.ensures.items ∙ ap (λ (xs : List ℕ). xs ++ c.args.term ∷ []) ids)
    refl c.in_ok-graph.ensures.inputs c.in_ok-graph.ensures.same_trees c.in_ok-graph.ensures.same_widths c.in_ok-graph.ensures.same_values in
    let at = c.len-at.ensures ∙ c.in_ok-asked.asked.ok.0 ∙ ap (λ (xs : List ℕ). length xs) ids in
    rw (c.new-condition.ensures, c.truncate.ensures.items, c.index-term.ensures)
    (picked_valued c.args.run.now c.args.term c.len-at.result c.in_ok-graph.field-0.graph c.in_ok-graph.field-0.ids.items at copies
    c.index-term.result.now c.terms.ensures.formed c.in_ok-graph.ensures.there)
