-- Which texts are refused as certificates, and at which line.
use Rattle.std.specs.Prelude.{◌≡◌, ◌≢◌, ◌⊎◌, ℕ, suc, ◌+◌, ◌<◌, List, [], ◌∷◌, ◌++◌, length}
use Rattle.cert_text.specs.Texts.{TextLine, lines_text, text_of}
use Rattle.cert_text.specs.Legible.{MayStand}

-- each line may stand where it does, the first behind so many others
unfoldable pub AllStand : (before : ℕ) → List TextLine → Type 0
AllStand before [] = Unit {0}
AllStand before (line ∷ lines) = MayStand before line × AllStand (suc before) lines

-- the text begins with the text of no line that may stand behind so many others
abbrev pub BeginsWithNone : (before : ℕ) → List ℕ → Type 0
BeginsWithNone before text =
    (line : TextLine) (more : List ℕ) → MayStand before line → text ≢ text_of line ++ more

-- the text ends within the heading; behind it, it may end with each line
abbrev pub EndsEarly : (before : ℕ) → List ℕ → Type 0
EndsEarly before text = (text ≡ []) × (before < 3)

-- something stands where no line that may stand does
abbrev pub GoesOnOtherwise : (before : ℕ) → List ℕ → Type 0
GoesOnOtherwise before text = (text ≢ []) × BeginsWithNone before text

-- The lines before the nth may each stand, and the nth, counted from 1, may not: the text ends before it, or goes on otherwise.
pub record IsRefusedAt (text : List ℕ) (n : ℕ) : Type 0 where
  pub lines : List TextLine
  pub rest : List ℕ
  pub split : text ≡ lines_text lines ++ rest
  pub all_stand : AllStand 0 lines
  pub nth : n ≡ length lines + 1
  pub why : EndsEarly (length lines) rest ⊎ GoesOnOtherwise (length lines) rest
