use Rattle.std.proofs.Common.{◌≡◌, ◌++◌, string_bytes, take}
use Rattle.spent_text.specs.Sides.{sides_text}
use Rattle.cert_text.proofs.printing.write_sides.Given as goal

abbrev pub invariant-loop-side : goal.invariant-loop-side
invariant-loop-side l = string_bytes l.text ≡ string_bytes l.fn.text ++ sides_text (take l.side-index l.sides)
