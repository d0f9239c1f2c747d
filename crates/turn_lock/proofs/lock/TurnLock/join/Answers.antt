use Rattle.std.proofs.Common.{arith, ap, ◌∙◌, None}
use Rattle.turn_lock.specs.Hands.{in_hand, in_table}
use Rattle.turn_lock.proofs.Joining.{joins}
use Rattle.turn_lock.proofs.lock.TurnLock.join.Goals as goal

pub join_seat-requires : goal.join_seat-requires
join_seat-requires g c = let two = c.args.self.now.words in let pass = c.args.pass.now in
    let other = c.args.other in (
      c.requires.lock,
      c.requires.other_lock,
      other.hand ∙ ap in_hand c.requires.other_turn,
      omega arith,
      joins (in_table g.V.Growing.fixed) g.V.Growing.nodes g.V.Growing.events g.V.Growing.worker _
          None pass.seat.id pass.seat.me.0 other.seat.id other.seat.me.0 pass.live other.live
          c.requires.turn c.requires.other_turn,
    )
