use Rattle.std.proofs.Common.{ℕ, List, [], ◌∷◌, sym, subst}
use Rattle.std.specs.Prelude.{Err}
use Rattle.std.specs.List.Sorted.{IsBinarySearchResult, IsStrictlyIncreasing}
use Rattle.std.specs.Ordering.{nat_cmp}
use Rattle.query_pick.specs.Operands.{Adds}
use Rattle.query_pick.proofs.Pending.{added_between, increasing_between}
use Rattle.query_pick.proofs.operands.add.Goals as goal

pub returns-in_ok-insert-clause-adds : goal.returns-in_ok-insert-clause-adds
returns-in_ok-insert-clause-adds c =
    subst (λ (all : List ℕ). Adds c.args.places.now.items all (c.args.id ∷ [])) (sym c.in_ok-insert.ensures.items) (added_between c.args.places.now.items c.in-Err.place c.args.id)

pub returns-in_ok-insert-clause-increasing : goal.returns-in_ok-insert-clause-increasing
returns-in_ok-insert-clause-increasing c =
    subst IsStrictlyIncreasing (sym c.in_ok-insert.ensures.items)
    (increasing_between c.args.places.now.items c.in-Err.place c.args.id c.requires
    (subst (λ (all : List ℕ). IsBinarySearchResult (λ y. nat_cmp y c.args.id) all (Err c.in-Err.place)) c.deref-else-is_above.ensures.value c.in-Err.ensures.position))
