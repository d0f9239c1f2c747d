-- The heading and the walk, as they are read one behind the other.
use Rattle.std.specs.Prelude.{◌≡◌, ◌≢◌, ℕ, suc, ◌+◌, List, ◌∷◌, [], ◌++◌, All, length}
use Rattle.std.specs.List.{flat_map}
use Rattle.cert_form.specs.declared.cert.Limits.{Limits}
use Rattle.cert_form.specs.declared.line.CertLine.{CertLine}
use Rattle.elf_load.specs.declared.region.Region.{Region}
use Rattle.cert_text.specs.Texts.{FormatLine, RegionsLine, BudgetsLine, lines_text}
use Rattle.cert_text.specs.Legible.{AreSmallLimits, IsLegibleLine, IsSmallRegion}
use Rattle.cert_text.specs.Lines.{line_text}
use Rattle.cert_text.specs.Refusals.{BeginsWithNone}

-- the text is a heading of these, and the rest
pub record HasHeading (text : List ℕ) (regions : List Region) (budgets : Limits)
    (rest : List ℕ) : Type 0 where
  pub split : text ≡ lines_text (FormatLine ∷ RegionsLine regions ∷ BudgetsLine budgets ∷ []) ++ rest
  pub small_regions : All IsSmallRegion regions
  pub small_budgets : AreSmallLimits budgets

-- the text is that of these lines of a walk
pub record AreRead (text : List ℕ) (lines : List CertLine) : Type 0 where
  pub is_theirs : text ≡ flat_map line_text lines
  pub legible : All IsLegibleLine lines

-- the text is that of lines of a walk, and goes on behind them with none; the nth line of a certificate is the first that may not stand
pub record IsRefusedBehind (text : List ℕ) (n : ℕ) : Type 0 where
  pub lines : List CertLine
  pub rest : List ℕ
  pub split : text ≡ flat_map line_text lines ++ rest
  pub legible : All IsLegibleLine lines
  pub nth : n ≡ length lines + 4
  pub some : rest ≢ []
  pub none : BeginsWithNone (suc (suc (suc (length lines)))) rest
