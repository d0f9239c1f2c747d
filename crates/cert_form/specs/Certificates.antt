-- Certificates, which show that a fork tree covers all runs.
use Rattle.std.specs.Prelude.{List}
use Rattle.elf_load.specs.declared.region.Region.{Region}
use Rattle.cert_form.specs.declared.cert.Limits.{Limits}
use Rattle.cert_form.specs.declared.line.CertLine.{CertLine}

-- where the input bytes stand, what may be spent, and the lines of the walk
pub record Certificate : Type 0 where
  pub regions : List Region
  pub budgets : Limits
  pub lines : List CertLine
