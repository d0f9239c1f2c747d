use Rattle.std.proofs.Common.{ℕ, ◌<◌, ◌≡◌, length, sym, subst}
use Rattle.tree_core.specs.Stories.{Story}
use Rattle.tree_core.proofs.Histories.{rooted}
use Rattle.tree_core.proofs.tree.Core.len.Goals as goal

pub returns-clause-root : goal.returns-clause-root
returns-clause-root g c = let i = c.self.inside in let s : Story g.row.R.Denot = record { nodes = i.shelves.nodes; events = i.events.items } in
    let is : c.len.result ≡ length i.shelves.nodes = c.len.ensures in
    subst (λ (k : ℕ). 0 < k) (sym is) (rooted g.R.Cover.covers g.R.Cover.by_nodes i.most s c.self.invariant.0.replays)
