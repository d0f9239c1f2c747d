use Rattle.std.proofs.Common.{◌+◌, ◌++◌, ◌^◌, ◌<◌, ◌≤◌, true, [], ◌∷◌, ◌∙◌, sym, ap, subst}
use Rattle.fork_tree.specs.declared.content.Content.TheVariants.{Open}
use Rattle.fork_tree.proofs.Noting.{tended-opening}
use Rattle.fork_tree.proofs.tree.Tree.new.Goals as goal

pub invariant_of-result : goal.invariant_of-result
invariant_of-result g c =
    let rules = g.W.Work.rules c.args.worker in
    let tended = tended-opening rules g.W.State.Placed.place g.W.Leaf.Placed.place (Open c.in_ok-new.field-0)
    c.in_ok-core.core.story c.push.new.self.nodes
    c.in_ok-core.ensures.story
    (c.push.ensures.nodes ∙ ap (λ nodes. nodes ++ record { depth = 0; is_free = true } ∷ [])
    (c.reserve.ensures.nodes ∙ c.new-free.ensures.nodes))
    (subst rules.IsWell (sym c.in_ok-new.ensures.ok) c.requires.well)
    (ap (λ root. (g.W.State.Placed.place root).choices) c.in_ok-new.ensures.ok
    ∙ c.requires.first)
    (subst (λ n. 1 ≤ n) c.requires.nodes c.requires.some)
    (subst (λ n. n + rules.targets < 2 ^ 32) c.requires.nodes c.requires.few) in
    (tended.0, tended.1, tended.2, c.in_ok-core.ensures.most ∙ c.requires.nodes, c.requires.order)
