use Rattle.std.proofs.Common.{◌≡◌, [], Option, ℕ, List, length, sym, subst, ap, arith}
use Rattle.tree_core.specs.declared.event.Event.{Event}
use Rattle.tree_core.specs.Nodes.{Node}
use Rattle.tree_core.specs.Cores.{IsCore}
use Rattle.tree_core.proofs.Keeping.{core-opened}
use Rattle.tree_core.proofs.tree.Core.new.Goals as goal

pub invariant_of-result : goal.invariant_of-result
invariant_of-result g c = let R : Type 0 = g.row.R.Denot in let made = c.in_ok-shelves.ensures in
    let events : c.new-2.result.items ≡ [] = c.new-2.ensures.items in
    let empty : length c.new-2.result.items ≡ 0 = ap length events in (
      subst (λ (t : List (Node R) × List (Event R ℕ) × List (Option ℕ) × List (Option R)). IsCore g.R.Cover.covers g.R.Cover.by_nodes c.args.most (record { nodes = t.0; events = t.1 }) t.2 t.3 0) (λ k. (sym made.nodes k, sym events k, sym made.latest k, sym made.contents k)) (core-opened g.R.Cover.covers g.R.Cover.by_nodes c.args.most c.args.root c.args.is_leaf),
      omega arith,
      omega arith,
    )
