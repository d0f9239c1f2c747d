use Rattle.std.proofs.Common.{◌∙◌, map, ap}
use Rattle.std.specs.Prelude.{IfOk, Result, Ok, Err}
use Rattle.report_text.specs.declared.ranking.RankedLeaf.{RankedLeaf}
use Rattle.report_text.proofs.Ordering.{are_by_rank}
use Rattle.report_text.proofs.leaves.by_rank.Goals as goal

both : {T E : Type 0} {P Q R : T → Type 0} (r : Result T E) → ((x : T) → P x → Q x → R x) → IfOk r P → IfOk r Q → IfOk r R
both (Ok x) f p q = f x p q
both (Err e) f p q = tt

pub returns : goal.returns
returns g c = both c.leaves_at.result (λ leaves nodes each.
    are_by_rank g.W.Leaf.HasPart.part g.W.State.Placed.place g.W.Leaf.Placed.place c.args.tree.now.story c.in_ok-ranked.ranked.items leaves.items
    c.in_ok-ranked.ensures.all c.in_ok-ranked.ensures.lead c.in_ok-ranked.ensures.ordered
    (nodes ∙ ap (map (λ (r : RankedLeaf). r.node)) c.deref.ensures.value) each)
    c.leaves_at.ensures.nodes c.leaves_at.ensures.each
