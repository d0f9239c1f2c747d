use Rattle.std.proofs.Common.{◌≡◌, take}
use Rattle.std.specs.Str.Parse.{AllDigits, digits_value}
use Rattle.tool_words.proofs.region.read_number.Given as goal

abbrev pub invariant-loop-digit : goal.invariant-loop-digit
invariant-loop-digit l = AllDigits l.base (take l.digit-index l.digits)
    × (l.value ≡ digits_value l.base (take l.digit-index l.digits))
