-- The line of a value that was found of a term.
use Rattle.std.specs.Prelude.{ℕ, List, ◌++◌, codes}
use Rattle.hex.specs.Hex.{encode_lower}
use Rattle.text_parts.specs.Names.{eight_digits}
use Rattle.fork_spec.specs.Evidence.{Found}

-- a value, and the bytes of the assignment
abbrev pub found_text : Found → List ℕ
found_text found =
    codes "v " ++ eight_digits found.value ++ codes " " ++ encode_lower found.input ++ codes "\n"
