-- What several workers on one tree come to.
use Rattle.std.specs.Prelude.{◌≡◌, ◌<◌, ◌≤◌, ℕ, true, false, List, [], All}
use Rattle.std.specs.List.{Contains}
use Rattle.tree_core.specs.Stories.{Story}
use Rattle.tree_core.specs.declared.event.Event.{Event}
use Rattle.turn_lock.specs.Growth.{StartsWith}
use Rattle.work_run.specs.Seen.{KnownOf, IsLater, SeesMore}
use Rattle.work_run.specs.Turns.{are_turns}

-- the second story goes on from the first, by nodes and events of any workers
abbrev pub GoesOn : {R : Type 0} → Story R → Story R → Type 0
GoesOn s t = StartsWith t.nodes s.nodes × StartsWith t.events s.events

module _ {F R : Type 0} where
  -- the pass of a worker that has done nothing yet, on a tree of this worker
  pub record MayWork (worker : F) (v : KnownOf F R) : Type 0 where
    pub turn : v.has_turn ≡ false
    pub opened : v.opened ≡ 0
    pub fixed : v.fixed ≡ worker
    pub fresh : v.own ≡ []

  -- the pass, and the same one once its worker has done its work: turns of work, and no more
  pub record HasWorked (v w : KnownOf F R) : Type 0 where
    pub later : IsLater v w
    pub turns : are_turns w.own ≡ true

  -- the first pass, which has given the numbers below this one, and taken in no other
  pub record MayRun (worker : F) (next : ℕ) (v : KnownOf F R) : Type 0 where
    pub may : MayWork worker v
    pub number : v.number ≡ 0
    pub made : v.made ≡ next
    pub none : v.ended ≡ []

  -- the numbers from this one on have ended
  abbrev pub EndedFrom : ℕ → KnownOf F R → Type 0
  EndedFrom low v =
      (k : ℕ) → low ≤ k → k < v.made → (es : List (Event R ℕ)) × Contains v.ended (k, es)

  -- The first pass, and the same one once it and the workers from one number to another have done
  -- their work: each did turns of work, and no more.
  pub record HasRun (next last : ℕ) (v w : KnownOf F R) : Type 0 where
    pub fixed : w.fixed ≡ v.fixed
    pub number : w.number ≡ 0
    pub turn : w.has_turn ≡ false
    pub opened : w.opened ≡ 0
    pub made : w.made ≡ last
    pub seen : SeesMore v w
    pub own : are_turns w.own ≡ true
    pub each : All (λ (p : ℕ × List (Event R ℕ)). are_turns p.1 ≡ true) w.ended
    pub ended : EndedFrom next w
