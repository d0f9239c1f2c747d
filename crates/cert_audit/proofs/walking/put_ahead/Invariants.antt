use Rattle.std.proofs.Common.{◌≡◌, ◌++◌, length, reverse}
use Rattle.cert_audit.proofs.walking.put_ahead.Given as goal

-- what was taken from the kids is on the stack
abbrev pub invariant-loop-kid : goal.invariant-loop-kid
invariant-loop-kid l = record {
  put : l.stack.items ++ reverse l.kids.items ≡ l.initial.stack.items ++ reverse l.initial.kids.items;
}

abbrev pub decreases-loop-kid : goal.decreases-loop-kid
decreases-loop-kid l = length l.kids.items
