use Rattle.std.proofs.Common.{arith}
use Rattle.turn_lock.specs.Hands.{in_table}
use Rattle.turn_lock.proofs.Joining.{splits}
use Rattle.turn_lock.proofs.lock.TurnLock.split.Goals as goal

pub split_seat-seat-requires : goal.split_seat-seat-requires
split_seat-seat-requires g c = let two = c.args.self.now.words in let pass = c.args.pass.now in (
  c.requires.lock,
  omega arith,
  splits (in_table g.V.Growing.fixed) g.V.Growing.nodes g.V.Growing.events g.V.Growing.worker _
      pass.seat.id pass.seat.me.0 pass.live c.requires.first c.requires.turn,
)
