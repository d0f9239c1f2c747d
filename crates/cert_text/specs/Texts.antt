-- The text of a certificate: a heading of three lines, and a walk through a fork tree.
use Rattle.std.specs.Prelude.{ℕ, List, ◌∷◌, ◌++◌, codes, decimal, map}
use Rattle.std.specs.List.{flat_map}
use Rattle.cert_form.specs.Certificates.{Certificate}
use Rattle.cert_form.specs.declared.cert.Limits.{Limits}
use Rattle.cert_form.specs.declared.line.CertLine.{CertLine}
use Rattle.elf_load.specs.declared.region.Region.{Region}
use Rattle.test_files.specs.Tests.{region_text}
use Rattle.cert_text.specs.Lines.{line_text}

-- One case for each line of the heading, and one for those of the walk.
pub data TextLine : Type 0 where
  FormatLine : TextLine
  RegionsLine : List Region → TextLine
  BudgetsLine : Limits → TextLine
  WalkLine : CertLine → TextLine

-- a region, behind a blank
abbrev pub blank_region : Region → List ℕ
blank_region region = codes " " ++ region_text region

-- a line, with its line feed; the budgets are of steps, targets, conflicts and nodes
abbrev pub text_of : TextLine → List ℕ
text_of FormatLine = codes "rvklee cert 1\n"
text_of (RegionsLine regions) = codes "regions" ++ flat_map blank_region regions ++ codes "\n"
text_of (BudgetsLine budgets) =
    codes "budgets " ++ decimal budgets.steps ++ codes " " ++ decimal budgets.targets ++ codes " "
    ++ decimal budgets.conflicts ++ codes " " ++ decimal budgets.nodes ++ codes "\n"
text_of (WalkLine line) = line_text line

-- all lines of a certificate
abbrev pub lines_of : Certificate → List TextLine
lines_of c = FormatLine ∷ RegionsLine c.regions ∷ BudgetsLine c.budgets ∷ map WalkLine c.lines

-- lines one behind the other
unfoldable pub lines_text : List TextLine → List ℕ
lines_text lines = flat_map text_of lines

unfoldable pub cert_text : Certificate → List ℕ
cert_text c = lines_text (lines_of c)
