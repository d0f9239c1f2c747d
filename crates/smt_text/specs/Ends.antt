-- The kind and the end of a leaf, as texts name them.
use Rattle.std.specs.Prelude.{ℕ, List}
use Rattle.fork_spec.specs.declared.end.LeafEnd.{LeafEnd}
use Rattle.fork_spec.specs.declared.end.LeafEnd.TheVariants.{Exits, Traps, Cut}
use Rattle.text_parts.specs.Names.{EndWord, Kind, cut, exit, finished, kind_text, running, trap, word_text}

abbrev pub kind_of : LeafEnd → Kind
kind_of (Exits status) = finished
kind_of (Traps t) = finished
kind_of (Cut cause) = cut cause

abbrev pub end_word : LeafEnd → EndWord
end_word (Exits status) = exit
end_word (Traps t) = trap t
end_word (Cut cause) = running

abbrev pub kind_name : LeafEnd → List ℕ
kind_name end = kind_text (kind_of end)

abbrev pub end_name : LeafEnd → List ℕ
end_name end = word_text (end_word end)
