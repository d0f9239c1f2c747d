use Rattle.std.proofs.Common.{List, ℕ, length, refl, ap, subst, ◌++◌, ◌∙◌}
use Rattle.bv_dag.specs.Queries.{Condition}
use Rattle.fork_spec.specs.Leaves.{IsCount}
use Rattle.run_leaves.proofs.Copying.{all-copied, picked_from}
use Rattle.run_leaves.proofs.Leaving.{parts_split, picked_there}
use Rattle.run_leaves.proofs.leaf.picked.Goals as goal

pub pick_terms-requires : goal.pick_terms-requires
pick_terms-requires c =
    rw (c.terms.ensures.value, c.deref.ensures.value, c.in_ok-extend_from_slice-2.ensures.items, c.in_ok-extend_from_slice.ensures.items, c.in_ok-ids.ensures, c.condition.ensures)
    (picked_there c.args.state.now c.args.outputs.now c.args.more.now c.terms.ensures.formed c.requires.outputs c.requires.more)

pub new-condition-requires : goal.new-condition-requires
new-condition-requires c =
    let ids = c.in_ok-ids.ensures ∙ c.condition.ensures in
    let both = c.in_ok-extend_from_slice.ensures.items ∙ ap (λ (xs : List ℕ). xs ++ c.args.outputs.now) ids in
    let all = picked_from c.terms.ensures.value
    (c.deref.ensures.value ∙ c.in_ok-extend_from_slice-2.ensures.items ∙ ap (λ (xs : List ℕ). xs ++ c.args.more.now) both)
    refl c.in_ok-picked.ensures.inputs c.in_ok-picked.ensures.same_trees c.in_ok-picked.ensures.same_widths c.in_ok-picked.ensures.same_values in
    let parts = parts_split c.args.state.now c.args.outputs.now c.args.more.now c.in_ok-picked.picked.graph c.in_ok-picked.picked.ids.items
    c.deref-2.result.now c.in_ok-front.front.items c.deref-3.result.now c.in_ok-condition.condition.items c.in_ok-condition.outputs.items c.in_ok-front.more.items
    c.len-outputs_at.result c.len-more_at.result (c.len-outputs_at.ensures ∙ c.in_ok-ids.ids.ok.0 ∙ ap (λ (xs : List ℕ). length xs) ids) (c.len-more_at.ensures ∙ c.extend_from_slice.new.self.ok.0 ∙ ap (λ (xs : List ℕ). length xs) both)
    all c.deref-2.ensures.value c.in_ok-front.ensures.front c.in_ok-front.ensures.back c.deref-3.ensures.value
    c.in_ok-condition.ensures.front c.in_ok-condition.ensures.back in
    all-copied c.args.state.now.terms c.in_ok-picked.picked.graph 1 c.args.state.now.condition c.in_ok-condition.condition.items
    parts.asserted.widths c.terms.ensures.formed.bits

pub returns : goal.returns
returns c =
    let ids = c.in_ok-ids.ensures ∙ c.condition.ensures in
    let both = c.in_ok-extend_from_slice.ensures.items ∙ ap (λ (xs : List ℕ). xs ++ c.args.outputs.now) ids in
    let all = picked_from c.terms.ensures.value
    (c.deref.ensures.value ∙ c.in_ok-extend_from_slice-2.ensures.items ∙ ap (λ (xs : List ℕ). xs ++ c.args.more.now) both)
    refl c.in_ok-picked.ensures.inputs c.in_ok-picked.ensures.same_trees c.in_ok-picked.ensures.same_widths c.in_ok-picked.ensures.same_values in
    let parts = parts_split c.args.state.now c.args.outputs.now c.args.more.now c.in_ok-picked.picked.graph c.in_ok-picked.picked.ids.items
    c.deref-2.result.now c.in_ok-front.front.items c.deref-3.result.now c.in_ok-condition.condition.items c.in_ok-condition.outputs.items c.in_ok-front.more.items
    c.len-outputs_at.result c.len-more_at.result (c.len-outputs_at.ensures ∙ c.in_ok-ids.ids.ok.0 ∙ ap (λ (xs : List ℕ). length xs) ids) (c.len-more_at.ensures ∙ c.extend_from_slice.new.self.ok.0 ∙ ap (λ (xs : List ℕ). length xs) both)
    all c.deref-2.ensures.value c.in_ok-front.ensures.front c.in_ok-front.ensures.back c.deref-3.ensures.value
    c.in_ok-condition.ensures.front c.in_ok-condition.ensures.back in
    rw c.new-condition.ensures
    (record {
      is_dag = c.in_ok-picked.ensures.dag;
      few_nodes = subst (λ (q : Condition). IsCount (length q.graph.nodes)) c.new-condition.ensures c.is_whole.ensures;
      condition = parts.asserted;
      outputs = parts.written;
      more = parts.besides;
    })
