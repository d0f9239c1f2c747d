-- Why a worker stopped.
use Rattle.std.specs.Prelude.{ℕ}
use Rattle.fork_tree.specs.Calls.{IsQuiet}
use Rattle.work_gate.specs.declared.point.Point.{Point}
use Rattle.work_run.specs.Seen.{KnownOf, story_of}
use Rattle.work_run.specs.declared.stopped.Stopped.{Stopped}
use Rattle.work_run.specs.declared.stopped.Stopped.TheVariants.{Quiet, Left, NoMemory}

-- the worker may leave at some point
abbrev pub MayLeave : (ℕ → Point → Type 0) → ℕ → Type 0
MayLeave may worker = (point : Point) × may worker point

-- why a worker stopped: the tree that it saw last is quiet, or it may leave; want of memory needs
-- no cause
abbrev pub IsCauseOf : {F R : Type 0} → (ℕ → Point → Type 0) → KnownOf F R → Stopped → Type 0
IsCauseOf may v Quiet = IsQuiet (story_of v)
IsCauseOf may v Left = MayLeave may v.number
IsCauseOf may v NoMemory = Unit {0}
