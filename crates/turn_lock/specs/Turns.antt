-- The rule of the turn lock's table, and what each kind of step tells.
use Rattle.std.specs.Prelude.{◌≡◌, ◌≢◌, ℕ, ◌<◌, ◌≤◌, true, Option, Some, List, [], ◌∷◌, length, drop}
use Rattle.std.specs.List.{All}
use mathlib.Core.Option.{some, none}
use mathlib.Core.Option as maybe
use lib.ListN.{get_elem?}
use Rattle.atomic_table.specs.Table.{State, Me, Step, rest}
use Rattle.turn_lock.specs.declared.known.Known.{Known}
use Rattle.turn_lock.specs.Growth.{StartsWith, by_number}
use Rattle.turn_lock.specs.Views.{Follows, looked, grown, without_turn}

-- What the table knows of one pass, at the seat id: its lists are beginnings of those behind the
-- lock, its own events are all that bear its number, and so are those of the passes joined to it.
pub record Sits {F N E : Type 0} (worker : E → ℕ) (opened : ℕ) (fixed : F) (nodes : List N)
    (events : List E) (turn holder next : ℕ) (seat_of : ℕ → maybe.Option ℕ) (id : ℕ)
    (v : Known F N E) : Type 0 where
  pub same_fixed : v.fixed ≡ fixed
  pub opened_is : v.opened ≡ opened
  pub nodes_seen : StartsWith nodes v.nodes
  pub events_seen : StartsWith events v.events
  pub own : by_number worker v.number (drop opened events) ≡ v.own
  pub seat : seat_of v.number ≡ some id
  pub made : v.number ≡ 0 → v.made ≡ next
  pub turned : v.has_turn ≡ true →
      (turn ≢ 0) × (id ≡ holder) × (v.nodes ≡ nodes) × (v.events ≡ events)
  pub ended : All
      (λ p. (p.0 < next) × (seat_of p.0 ≡ none) × (by_number worker p.0 (drop opened events) ≡ p.1))
      v.ended

module _ {V F N E : Type 0} (fixed_of : V → F) (nodes_of : V → List N)
    (events_of : V → List E) where
  -- The two lists behind the lock are `nodes` and `events`. While word 0 is 0 the value is at home
  -- and stands for them; else one pass has the turn, and has seen them whole.
  pub record IsTurnKept (worker : E → ℕ) (key : V)
      (s : State (Option V) (Known F N E)) : Type 0 where
    pub nodes : List N
    pub events : List E
    pub turn : ℕ
    pub holder : ℕ
    pub next : ℕ
    pub seat_of : ℕ → maybe.Option ℕ
    pub words : s.words ≡ turn ∷ length events ∷ []
    pub first_nodes : StartsWith nodes (nodes_of key)
    pub first_events : StartsWith events (events_of key)
    pub free : turn ≡ 0 →
        (x : V) × (s.homes ≡ some (Some x) ∷ []) × (nodes_of x ≡ nodes) × (events_of x ≡ events)
        × (fixed_of x ≡ fixed_of key)
    pub held : turn ≢ 0 →
        (v : Known F N E) × (get_elem? s.views holder ≡ some v) × (v.live ≡ true)
        × (v.has_turn ≡ true)
    pub unborn : (k : ℕ) → next ≤ k →
        (seat_of k ≡ none) × (by_number worker k (drop (length (events_of key)) events) ≡ [])
    pub each : (id : ℕ) (v : Known F N E) → get_elem? s.views id ≡ some v → v.live ≡ true →
        Sits worker (length (events_of key)) (fixed_of key) nodes events
        turn holder next seat_of id v

  -- where word 0 was 0 the turn was got, with the value in hand; else nothing changed
  abbrev pub tried : (E → ℕ) → Step (Option V) → Me (Option V) (Known F N E) → ℕ →
      Me (Option V) (Known F N E) → Type 0
  tried worker st m r m' =
      (r ≡ 0 →
      (x : V) × (m' ≡ (looked nodes_of events_of m.0 x, (0, Some x) ∷ m.1))
      × Follows fixed_of nodes_of events_of worker m.0 x)
      × (r ≢ 0 → m' ≡ m)

module _ {V F N E : Type 0} (nodes_of : V → List N) (events_of : V → List E) where
  -- the view once the value that the seat holds is back in the slot
  abbrev pub grown_by : Known F N E → List (ℕ × Option V) → Known F N E
  grown_by v ((k, Some x) ∷ cs) = grown nodes_of events_of v x
  grown_by v _ = v

  -- what the seat holds is told
  abbrev pub entered : Step (Option V) → Me (Option V) (Known F N E) → ℕ →
      Me (Option V) (Known F N E) → Type 0
  entered st m n m' = m' ≡ (grown_by m.0 m.1, m.1)

-- the slot and the turn are given back
abbrev pub left : {V F N E : Type 0} → Step (Option V) → Me (Option V) (Known F N E) → ℕ →
    Me (Option V) (Known F N E) → Type 0
left st m n m' = m' ≡ (without_turn m.0, rest m.1)
