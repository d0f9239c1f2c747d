-- What a pass knows, and what each call makes of it.
use Rattle.std.specs.Prelude.{◌≡◌, ℕ, ◌+◌, true, false, List, [], ◌∷◌, ◌++◌, length, drop}
use Rattle.turn_lock.specs.declared.known.Known.{Known}
use Rattle.turn_lock.specs.Growth.{StartsWith, longer, by_number}

module _ {V F N E : Type 0} (fixed_of : V → F) (nodes_of : V → List N)
    (events_of : V → List E) where
  -- of the first pass
  abbrev pub opening_view : V → Known F N E
  opening_view x = record {
    fixed = fixed_of x;
    live = true;
    number = 0;
    has_turn = false;
    nodes = nodes_of x;
    events = events_of x;
    opened = length (events_of x);
    own = [];
    ended = [];
    made = 1;
  }

  -- The value x has the fixed part and stands for lists that begin with what was seen; past the
  -- opening value's events, those of the number are the pass's own.
  pub record Follows (worker : E → ℕ) (v : Known F N E) (x : V) : Type 0 where
    pub fixed : fixed_of x ≡ v.fixed
    pub nodes : StartsWith (nodes_of x) v.nodes
    pub events : StartsWith (events_of x) v.events
    pub own : by_number worker v.number (drop v.opened (events_of x)) ≡ v.own

module _ {V F N E : Type 0} (nodes_of : V → List N) (events_of : V → List E) where
  -- once the turn was got, with the value x
  abbrev pub looked : Known F N E → V → Known F N E
  looked v x = record v { has_turn = true; nodes = nodes_of x; events = events_of x }

  -- once the value x is back in the slot
  abbrev pub grown : Known F N E → V → Known F N E
  grown v x = record v {
    nodes = nodes_of x;
    events = events_of x;
    own = v.own ++ drop (length v.events) (events_of x);
  }

  -- once the value x was given back, and the turn
  abbrev pub given : Known F N E → V → Known F N E
  given v x = record v {
    has_turn = false;
    nodes = nodes_of x;
    events = events_of x;
    own = v.own ++ drop (length v.events) (events_of x);
  }

module _ {F N E : Type 0} where
  abbrev pub without_turn : Known F N E → Known F N E
  without_turn v = record v { has_turn = false }

  -- of a pass that made another
  abbrev pub parent : Known F N E → Known F N E
  parent v = record v { made = v.made + 1 }

  -- of the one that it made: it has seen as much, and has given nothing
  abbrev pub child : Known F N E → Known F N E
  child v = record {
    fixed = v.fixed;
    live = true;
    number = v.made;
    has_turn = false;
    nodes = v.nodes;
    events = v.events;
    opened = v.opened;
    own = [];
    ended = [];
    made = 0;
  }

  -- of a pass that took in another
  abbrev pub merged_known : Known F N E → Known F N E → Known F N E
  merged_known v w = record v {
    nodes = longer v.nodes w.nodes;
    events = longer v.events w.events;
    ended = v.ended ++ w.ended ++ (w.number, w.own) ∷ [];
  }

  -- of a pass that was taken in
  abbrev pub spent : F → Known F N E
  spent fixed = record {
    fixed = fixed;
    live = false;
    number = 0;
    has_turn = false;
    nodes = [];
    events = [];
    opened = 0;
    own = [];
    ended = [];
    made = 0;
  }
