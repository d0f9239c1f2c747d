-- What is meant for an audit: the bytes of a program's file and of a certificate's, and what is said of them.
use Rattle.std.specs.Prelude.{◌≡◌, ◌⊎◌, ℕ, ◌<◌, ◌≤◌, List, [], length}
use Rattle.cert_audit.specs.Audits.{IsAudited}
use Rattle.cert_audit.specs.Causes.{HasCause}
use Rattle.cert_audit.specs.declared.auditing.Verdict.{Verdict as Judgement}
use Rattle.cert_audit.specs.declared.auditing.Verdict.TheVariants.{Yes, No}
use Rattle.cert_form.specs.Certificates.{Certificate}
use Rattle.cert_query.specs.declared.fault.Reason.TheVariants.{Text}
use Rattle.cert_text.specs.Legible.{IsLegible}
use Rattle.cert_text.specs.Refusals.{IsRefusedAt}
use Rattle.cert_text.specs.Texts.{cert_text}
use Rattle.elf_load.specs.Images.{Image, Loads}
use Rattle.tool_io.specs.Told.{Put}
use Rattle.tool_top.specs.Lines.{audit_line}
use Rattle.tool_top.specs.declared.auditing.TheConstants.{MOST_CERTIFICATE_BYTES}
use Rattle.tool_top.specs.declared.verdict.Verdict.{Verdict}
use Rattle.tool_top.specs.declared.verdict.Verdict.TheVariants.{Differs, Done}

-- the most bytes of a certificate's file that are read: one more than a certificate may have
abbrev pub most_certificate_bytes : ℕ
most_certificate_bytes = MOST_CERTIFICATE_BYTES

-- the text is that of this certificate, and not too long
pub record IsCertificate (text : List ℕ) (cert : Certificate) : Type 0 where
  pub short : length text < most_certificate_bytes
  pub legible : IsLegible cert
  pub is_its_text : text ≡ cert_text cert

-- the text is too long, which is said at no line
pub record IsTooLong (text : List ℕ) (said : Judgement) : Type 0 where
  pub long : most_certificate_bytes ≤ length text
  pub is : said ≡ No 0 Text

-- the text is that of no certificate, which is said at its first line that may not stand
pub record IsNoCertificate (text : List ℕ) (said : Judgement) : Type 0 where
  pub short : length text < most_certificate_bytes
  pub line : ℕ
  pub refused : IsRefusedAt text line
  pub is : said ≡ No line Text

-- the text is that of a certificate, of which an audit says this: yes where its leaves are shown, no where a line is at fault
pub record IsJudged (image : Image) (text : List ℕ) (said : Judgement) : Type 0 where
  pub cert : Certificate
  pub reads : IsCertificate text cert
  pub audited : IsAudited image cert said
  pub has_cause : HasCause image cert said

-- what is said of the text of a certificate, of a program's leaves
abbrev pub IsSaidOf : Image → (text : List ℕ) → Judgement → Type 0
IsSaidOf image text said =
    IsTooLong text said ⊎ (IsNoCertificate text said ⊎ IsJudged image text said)

-- how a run ends that says it
abbrev pub verdict_for : Judgement → Verdict
verdict_for (Yes leaves) = Done
verdict_for (No line reason) = Differs

-- the bytes are the file of a program, and what is to be said of the certificate's text is said
pub record IsAuditSaid (bytes text : List ℕ) (verdict : Verdict) (puts : List Put)
    (said : List ℕ) : Type 0 where
  pub image : Image
  pub loads : Loads bytes image
  pub judgement : Judgement
  pub says : IsSaidOf image text judgement
  pub is : verdict ≡ verdict_for judgement
  pub no_files : puts ≡ []
  pub line : said ≡ audit_line judgement
