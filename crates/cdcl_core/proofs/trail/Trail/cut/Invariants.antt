use Rattle.std.proofs.Common.{◌≡◌, length, take}
use Rattle.cdcl_core.proofs.trail.Trail.cut.Given as goal

abbrev pub invariant-loop-self : goal.invariant-loop-self
invariant-loop-self l = record {
  first : take l.len l.self.entries ≡ take l.len l.initial.self.entries;
  size : length l.self.marks ≡ length l.initial.self.marks;
}

abbrev pub decreases-loop-self : goal.decreases-loop-self
decreases-loop-self l = length l.self.entries
