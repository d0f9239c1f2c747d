use Rattle.std.proofs.Common.{◌≡◌, ◌≤◌, ◌+◌, false, length}
use Rattle.turn_lock.specs.Passes.{known, IsPassOf, IsSamePass}
use Rattle.test_runs.proofs.of_turn_lock.note_all.Given as goal

abbrev pub invariant-loop-value : goal.invariant-loop-value
invariant-loop-value g l = record {
  lock : IsPassOf l.lock l.pass;
  turn : (known l.pass).has_turn ≡ false;
  same : IsSamePass (known l.fn.pass) (known l.pass);
  own : length (known l.pass).own ≡ length (known l.fn.pass).own + l.done;
  few : l.done ≤ l.value;
}
