use Rattle.std.proofs.Common.{◌≡◌, arith, ap, ◌∙◌, sym, subst, Option, Some}
use Rattle.turn_lock.specs.declared.known.Known.{Known}
use Rattle.turn_lock.specs.Growth.{StartsWith, GoesOnBy}
use Rattle.turn_lock.specs.Turns.{grown_by}
use Rattle.turn_lock.specs.Hands.{in_table}
use Rattle.turn_lock.proofs.Keeps.{enters, leaves}
use Rattle.turn_lock.proofs.Seen.{content_some}
use Rattle.turn_lock.proofs.lock.TurnLock.give.Goals as goal

pub store-requires : goal.store-requires
store-requires g c = let two = c.args.self.now.words in let pass = c.args.pass.now in
    let now = c.exchange.ensures.3 in let K : Type 0 = Known
    (Option g.row.V-Fixed.Denot) g.row.V-Node.Denot g.row.V-Event.Denot in
    let view : pass.seat.me.0 ≡ c.exchange.new.seat.me.0 = sym (ap (λ m. m.0) now) in (
      c.exchange.ensures.0 ∙ c.requires.lock,
      omega arith,
      enters (in_table g.V.Growing.fixed) g.V.Growing.nodes g.V.Growing.events g.V.Growing.worker
          _ _ c.exchange.new.seat.id c.exchange.new.seat.me c.args.value _ _
          (ap (λ m. m.1) now) c.event_count-count.ensures
          (ap (λ m. m.0.live) now ∙ pass.live) (ap (λ m. m.0.has_turn) now ∙ c.requires.turn)
          (subst (λ (v : K). StartsWith
          (g.V.Growing.nodes c.args.value) v.nodes) view c.requires.nodes)
          (subst (λ (v : K). GoesOnBy g.V.Growing.worker v.number v.events
          (g.V.Growing.events c.args.value)) view c.requires.events),
    )

pub store-requires-2 : goal.store-requires-2
store-requires-2 g c = let two = c.args.self.now.words in let pass = c.args.pass.now in
    let is = c.store.ensures.2 ∙ ap
    (λ m. (grown_by g.V.Growing.nodes g.V.Growing.events m.0 m.1, m.1)) c.exchange.ensures.3 in (
      c.store.ensures.0 ∙ (c.exchange.ensures.0 ∙ c.requires.lock),
      omega arith,
      leaves (in_table g.V.Growing.fixed) g.V.Growing.nodes g.V.Growing.events g.V.Growing.worker
          _ _ c.store.new.seat.id c.store.new.seat.me c.args.value _ c.args.self.now.slots
          (ap (λ m. m.1) is)
          (ap (λ m. m.0.live) is ∙ pass.live) (ap (λ m. m.0.has_turn) is ∙ c.requires.turn)
          (ap Some c.requires.fixed ∙
          (content_some pass.seat.me.0.fixed pass.told ∙ sym (ap (λ m. m.0.fixed) is))) (sym
          (ap (λ m. m.0.nodes) is)) (sym (ap (λ m. m.0.events) is)),
    )
