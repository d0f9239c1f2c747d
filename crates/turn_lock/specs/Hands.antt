-- The slot that a pass holds, and the fixed part as the table keeps it.
use Rattle.std.specs.Prelude.{ℕ, Bool, true, false, Option, None, Some, List, [], ◌∷◌, IsSome}
use mathlib.Core.Bool.{false≢true}
use Rattle.turn_lock.specs.declared.known.Known.{Known}

-- with the turn, the empty slot
abbrev pub in_hand : {V : Type 0} → Bool → List (ℕ × Option V)
in_hand true = (0, None) ∷ []
in_hand false = []

-- The view of a pass that was taken in has no fixed part, so a table keeps an option of it.
abbrev pub in_table : {V F : Type 0} → (V → F) → V → Option F
in_table fixed_of x = Some (fixed_of x)

-- what an option has that has something
abbrev pub content_of : {X : Type 0} (o : Option X) → IsSome o → X
content_of None some = absurd (false≢true some)
content_of (Some x) some = x

-- what a pass knows whose view in the table is v
abbrev pub seen_as : {F N E : Type 0} (v : Known (Option F) N E) → IsSome v.fixed → Known F N E
seen_as v some = record {
  fixed = content_of v.fixed some;
  live = v.live;
  number = v.number;
  has_turn = v.has_turn;
  nodes = v.nodes;
  events = v.events;
  opened = v.opened;
  own = v.own;
  ended = v.ended;
  made = v.made;
}
