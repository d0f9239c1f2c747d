use Rattle.std.proofs.Common.{◌≡◌, ◌≤◌}
use Rattle.prog_gen.proofs.Pushed.{up_to}
use Rattle.prog_gen.proofs.words.program_words.Given as goal

abbrev pub invariant-loop-place : goal.invariant-loop-place
invariant-loop-place l = (l.words.items ≡ up_to l.number l.place) × (l.place ≤ l.number)
