use Rattle.std.proofs.Common.{arith, ap, ◌∙◌, sym, ◌∷◌, Some}
use Rattle.atomic_table.specs.Table.{rest}
use Rattle.turn_lock.specs.Hands.{in_table}
use Rattle.turn_lock.proofs.Keeps.{tries}
use Rattle.turn_lock.proofs.lock.TurnLock.try_take.Goals as goal

pub compare_exchange-requires : goal.compare_exchange-requires
compare_exchange-requires g c = let two = c.args.self.now.words in let pass = c.args.pass.now in (
  c.requires.lock,
  omega arith,
  tries (in_table g.V.Growing.fixed) g.V.Growing.nodes g.V.Growing.events g.V.Growing.worker _ _
      pass.seat.id pass.seat.me pass.live,
)

pub exchange-requires : goal.exchange-requires
exchange-requires g c = let got = c.compare_exchange.ensures.2.0 c.if-compare_exchange-ne0.false in
    let hand = ap (λ m. m.1) got.1 in (
      c.compare_exchange.ensures.0 ∙ c.requires.lock,
      (Some got.0, hand ∙ (λ i. (0, Some got.0) ∷ sym (ap rest hand) i)),
    )
