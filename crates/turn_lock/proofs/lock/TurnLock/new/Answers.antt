use Rattle.std.proofs.Common.{◌≡◌, ◌∷◌, ◌++◌, [], List, Option, Some, ap, sym, subst, ◌∙◌}
use Rattle.atomic_table.specs.Table.{opening}
use Rattle.turn_lock.specs.Turns.{IsTurnKept}
use Rattle.turn_lock.specs.Views.{opening_view}
use Rattle.turn_lock.specs.Hands.{in_table}
use Rattle.turn_lock.proofs.Joining.{opens}
use Rattle.turn_lock.proofs.lock.TurnLock.new.Goals as goal

pub new-requires : goal.new-requires
new-requires g c = let key = c.of-key.result.value in
    let items : c.push.new.self.items ≡ Some key ∷ [] = c.in_ok-push.ensures.items
    ∙ (ap (λ (l : List
    (Option g.row.V.Denot)). l ++ Some c.args.value ∷ []) c.in_ok-slots.ensures.items
    ∙ ap (λ (z : g.row.V.Denot). Some z ∷ []) (sym c.of-key.ensures)) in
    subst
    (λ (l : List (Option g.row.V.Denot)). IsTurnKept
    (in_table g.V.Growing.fixed) g.V.Growing.nodes g.V.Growing.events g.V.Growing.worker key
    (opening (0 ∷ c.event_count-count.result ∷ []) l
    (opening_view (in_table g.V.Growing.fixed) g.V.Growing.nodes g.V.Growing.events key)))
    (sym items)
    (opens (in_table g.V.Growing.fixed) g.V.Growing.nodes g.V.Growing.events g.V.Growing.worker key
    c.event_count-count.result (c.event_count-count.ensures
    ∙ ap (λ (z : g.row.V.Denot). Rattle.std.proofs.Common.length (g.V.Growing.events z))
    (sym c.of-key.ensures)))
