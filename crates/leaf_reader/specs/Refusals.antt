-- Which texts are refused as leaves, and at which line.
use Rattle.std.specs.Prelude.{◌≡◌, ◌≢◌, ◌⊎◌, ℕ, ◌+◌, List, [], ◌++◌, length, Some, true}
use Rattle.smt_text.specs.Grammar.{Reading, read_lines, stands, start}
use Rattle.smt_text.specs.Lines.{LeafLine, line_text, lines_text}
use Rattle.smt_text.specs.declared.spot.Spot.TheVariants.{Closed}

-- the text begins with the text of no line that may stand next
abbrev pub BeginsWithNone : Reading → List ℕ → Type 0
BeginsWithNone r text =
    (line : LeafLine) (more : List ℕ) → stands r.place r line ≡ true → text ≢ line_text line ++ more

-- the text ends, but its lines don't
abbrev pub EndsEarly : Reading → List ℕ → Type 0
EndsEarly r text = (text ≡ []) × (r.place ≢ Closed)

-- something stands where no line that may stand next does
abbrev pub GoesOnOtherwise : Reading → List ℕ → Type 0
GoesOnOtherwise r text = (text ≢ []) × BeginsWithNone r text

-- The lines before the nth may each stand after those before it, and the nth, counted from 1, may not:
-- the text ends before it, or goes on otherwise.
pub record IsRefusedAt (text : List ℕ) (n : ℕ) : Type 0 where
  pub lines : List LeafLine
  pub rest : List ℕ
  pub split : text ≡ lines_text lines ++ rest
  pub reading : Reading
  pub all_stand : read_lines start lines ≡ Some reading
  pub nth : n ≡ length lines + 1
  pub why : EndsEarly reading rest ⊎ GoesOnOtherwise reading rest
