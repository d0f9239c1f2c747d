-- What a clause says of a lock and its passes.
use Rattle.std.specs.Prelude.{◌≡◌, ◌≢◌, ℕ, ◌<◌, ◌≤◌, List, [], drop}
use Rattle.std.specs.List.{All, Contains}
use Rattle.turn_lock.specs.declared.growing.Growing.{Ghosts}
use Rattle.turn_lock.specs.declared.known.Known.{Known}
use Rattle.turn_lock.specs.declared.lock.Pass.{Pass}
use Rattle.turn_lock.specs.declared.lock.TurnLock.{TurnLock}
use Rattle.turn_lock.specs.Growth.{by_number}
use Rattle.turn_lock.specs.Hands.{seen_as}

module _ {V F N E : Type 0} {g : Ghosts V F N E} where
  -- what the pass knows
  abbrev pub known : Pass V F N E g → Known F N E
  known p = seen_as p.seat.me.0 p.told

  -- the pass is one of this lock
  abbrev pub IsPassOf : TurnLock V F N E → Pass V F N E g → Type 0
  IsPassOf l p = p.seat.table_id ≡ l.table.shared.table_id

module _ {F N E : Type 0} where
  -- what taking and giving leave as it is
  pub record IsSamePass (v w : Known F N E) : Type 0 where
    pub fixed : w.fixed ≡ v.fixed
    pub number : w.number ≡ v.number
    pub opened : w.opened ≡ v.opened
    pub made : w.made ≡ v.made
    pub ended : w.ended ≡ v.ended

  -- each number that was given has ended
  abbrev pub AllEnded : Known F N E → Type 0
  AllEnded v = (k : ℕ) → k ≢ 0 → k < v.made → (es : List E) × Contains v.ended (k, es)

  -- Past the opening value's own, the events are those of this pass and of those that were joined
  -- to it, each in its own order.
  pub record AreOf (worker : E → ℕ) (v : Known F N E) (events : List E) : Type 0 where
    pub own : by_number worker v.number (drop v.opened events) ≡ v.own
    pub ended : All (λ p. by_number worker p.0 (drop v.opened events) ≡ p.1) v.ended
    pub others : (k : ℕ) → v.made ≤ k → by_number worker k (drop v.opened events) ≡ []
