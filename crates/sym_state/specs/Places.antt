-- Where symbolic runs stand in the fork tree.
use Rattle.std.specs.Prelude.{None}
use Rattle.fork_spec.specs.Partings.{Place}
use Rattle.sym_state.specs.Symbolic.{Symbolic, stands_for}

-- the place of a run
abbrev pub run_place : Symbolic → Place
run_place s = record { choices = s.choices; covers = stands_for s; cut = None }
