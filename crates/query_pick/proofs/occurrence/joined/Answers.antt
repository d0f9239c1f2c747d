use Rattle.std.proofs.Common.{subst}
use Rattle.query_pick.specs.Occurring.{IsOccurrence}
use Rattle.query_pick.proofs.Joining.{two_left, two_right, two_apart}
use Rattle.query_pick.proofs.occurrence.joined.Goals as goal

pub returns-in_default : goal.returns-in_default
returns-in_default c =
    λ one two here there.
    two_apart one two c.in-OneInput-OneInput.one c.in-OneInput-OneInput.two c.if-one-two.false (subst (IsOccurrence one) c.in-OneInput-OneInput.is-0 here) (subst (IsOccurrence two) c.in-OneInput-OneInput.is-1 there)

pub returns-in_default-2 : goal.returns-in_default-2
returns-in_default-2 c = λ one two here there. two_right one two (subst (IsOccurrence two) c.in_default.is-1 there)

pub returns-in_default-3 : goal.returns-in_default-3
returns-in_default-3 c = λ one two here there. two_left one two (subst (IsOccurrence one) c.in_default.is-0 here)
