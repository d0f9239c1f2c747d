use Rattle.std.proofs.Common.{◌≡◌, ◌∙◌, ℕ, List, map, ap, sym, subst}
use Rattle.report_text.specs.Ranking.{AllDiffer}
use Rattle.report_text.specs.declared.ranking.RankedLeaf.{RankedLeaf}
use Rattle.std.specs.Prelude.{All}
use Rattle.std.specs.List.Sorted.{IsPermutation}
use Rattle.std.proofs.lemmas.List.Sorted.{All-permutation, IsPermutation-map, length_permutation}
use Rattle.report_text.specs.Entries.{ChoicesLead, leaf_numbers}
use Rattle.report_text.proofs.Ordering.{all_differ, all_taken}
use Rattle.report_text.proofs.leaves.in_order.Goals as goal

pub sort_by_rank-requires : goal.sort_by_rank-requires
sort_by_rank-requires g c = subst (λ (rs : List RankedLeaf). AllDiffer (map (λ (r : RankedLeaf). r.choices.now) rs)) (sym c.deref_mut.ensures.value)
    (all_differ g.W.Leaf.HasPart.part g.W.State.Placed.place g.W.Leaf.Placed.place c.args.tree.now.story _ c.in_ok-ranked.ranked.items c.requires.placed c.requires.done.apart
    (c.in_ok-ranked.ensures.nodes ∙ c.deref.ensures.value ∙ c.in_ok-numbers.ensures) c.in_ok-ranked.ensures.choices)

pub returns-clause-all : goal.returns-clause-all
returns-clause-all g c =
    let perm : IsPermutation c.deref_mut.result.now c.sort_by_rank.new.leaves = c.sort_by_rank.ensures.same in
    let same : map (λ (r : RankedLeaf). r.node) c.deref_mut.result.now ≡ leaf_numbers c.args.tree.now.story =
    ap (map (λ (r : RankedLeaf). r.node)) c.deref_mut.ensures.value ∙ c.in_ok-ranked.ensures.nodes ∙ c.deref.ensures.value ∙ c.in_ok-numbers.ensures in
    subst (λ (rs : List RankedLeaf). IsPermutation (leaf_numbers c.args.tree.now.story) (map (λ (r : RankedLeaf). r.node) rs)) (sym (all_taken _ c.sort_by_rank.new.leaves _ (length_permutation _ _ perm ∙ c.deref_mut.ensures.len)))
    (subst (λ (ns : List ℕ). IsPermutation ns (map (λ (r : RankedLeaf). r.node) c.sort_by_rank.new.leaves)) same (IsPermutation-map (λ (r : RankedLeaf). r.node) _ _ perm))

pub returns-clause-lead : goal.returns-clause-lead
returns-clause-lead g c =
    let perm : IsPermutation c.deref_mut.result.now c.sort_by_rank.new.leaves = c.sort_by_rank.ensures.same in
    subst (All (ChoicesLead g.W.Leaf.HasPart.part c.args.tree.now.story)) (sym (all_taken _ c.sort_by_rank.new.leaves _ (length_permutation _ _ perm ∙ c.deref_mut.ensures.len)))
    (All-permutation (ChoicesLead g.W.Leaf.HasPart.part c.args.tree.now.story) _ _ perm (subst (All (ChoicesLead g.W.Leaf.HasPart.part c.args.tree.now.story)) (sym c.deref_mut.ensures.value) c.in_ok-ranked.ensures.choices))
